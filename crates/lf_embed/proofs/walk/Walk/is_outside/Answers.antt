use Rattle.std.proofs.Common.{not, ap, ◌∙◌}
use Rattle.std.specs.List.{list_any}
use Rattle.lf_rdf.specs.declared.question.GraphRef.TheVariants.{Named}
use Rattle.def_framing.specs.Views.{graph_eq}
use Rattle.lf_embed.proofs.WalkProofs.{any_path}
use Rattle.lf_embed.proofs.walk.Walk.is_outside.Goals as goal

pub returns : goal.returns
returns c =
    ap not
    (c.any_in_graph.ensures ∙ ap (λ xs. list_any (λ step. graph_eq (Named c.args.name.now) step.graph) xs) c.as_slice.ensures.value
    ∙ any_path (λ step. graph_eq (Named c.args.name.now) step.graph) c.args.self.now.path.items)
