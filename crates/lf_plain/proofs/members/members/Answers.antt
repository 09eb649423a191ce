use Rattle.std.proofs.Common.{sym, ◌∙◌, ap, [], List}
use Rattle.std.specs.List.{flat_map}
use Rattle.lf_rdf.specs.declared.term.Term.{Term}
use Rattle.def_datasets.specs.Sorted.{put_all}
use Rattle.def_datasets.specs.Order.{id_cmp}
use Rattle.def_datasets.specs.Terms.{triples}
use Rattle.def_datasets.specs.Questions.{names_in, nodes_in}
use Rattle.lf_plain.proofs.Putting.{put_both}
use Rattle.lf_plain.proofs.members.members.Goals as goal

pub returns : goal.returns
returns c =
    let nodes = flat_map nodes_in (triples c.args.quads.now c.args.graph.now) in
    let names = names_in c.args.quads.now c.args.graph.now in
    c.from_vec.ensures
    ∙ (c.in_ok-put_names.ensures
    ∙ (ap (λ (w : List Term). put_all id_cmp w names)
    (c.in_ok-put_nodes.ensures ∙ ap (λ (w : List Term). put_all id_cmp w nodes) c.new-found.ensures.items)
    ∙ sym (put_both id_cmp [] nodes names)))
