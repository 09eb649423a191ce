use Rattle.std.proofs.Common.{◌≡◌, ap, sym, subst, ◌∙◌}
use Rattle.lf_model.specs.JsonBridge.{json_data, members_data}
use Rattle.lf_model.specs.JsonData as j
use Rattle.lf_model.proofs.JsonLemmas.{json_data-Map}
use Rattle.def_contexts.specs.Table.{table_after}
use Rattle.lf_context.specs.DraftView.{table_in}
use Rattle.lf_context.specs.Walks.{IsTable}
use Rattle.lf_context.proofs.context.+reading.Goals as goal

pub read_context-returns-in-Map : goal.read_context-returns-in-Map
read_context-returns-in-Map t c =
    let same : json_data c.args.context.now ≡ j.object (members_data c.in-Map.members) = ap json_data c.in-Map.is ∙ json_data-Map c.in-Map.members in
    subst (λ v. IsTable (table_after v (table_in c.args.draft.now)) (table_in c.read_map.new.draft) c.read_map.result) (sym same) c.read_map.ensures
