use Rattle.std.proofs.Common.{Some, ◌∙◌, ap, sym}
use Rattle.def_documents.specs.Trying.{◌>>=◌}
use Rattle.def_documents.specs.Nodes.{short_types}
use Rattle.lf_compact.specs.Nodes.{json_list, names_entry}
use Rattle.lf_compact.proofs.NodeParts.{types-entry}
use Rattle.lf_compact.proofs.parts.add_types.Goals as goal

pub returns : goal.returns
returns c =
    let table = c.args.inverse.now in (
      names_entry table (json_list c.in_ok-names.names),
      types-entry table c.args.types.now
          ∙ ap (λ l. short_types table l >>= (λ names. Some (names_entry table names))) (sym c.as_slice.ensures)
          ∙ ap (λ o. o >>= (λ names. Some (names_entry table names))) c.in_ok-names.ensures,
      c.in_ok-add_type_names.ensures,
    )
