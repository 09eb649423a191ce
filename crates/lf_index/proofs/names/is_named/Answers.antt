use Rattle.std.proofs.Common.{ap, sym, ◌∙◌}
use Rattle.lf_rdf.specs.declared.question.GraphRef.TheVariants.{Named}
use Rattle.def_datasets.specs.Terms.{lies_in}
use Rattle.lf_ptree.specs.Pairs.{pairs_from}
use Rattle.lf_index.specs.Orders.{graph_order}
use Rattle.lf_index.proofs.AnswerLemmas.{first_named, none_named}
use Rattle.lf_index.proofs.names.is_named.Goals as goal

pub returns-in-Some : goal.returns-in-Some
returns-in-Some c =
    let es = c.args.by_graph.now in
    let from = ap (λ low. pairs_from graph_order low es) (sym c.in_ok-low.ensures) ∙ sym c.from.ensures in
    c.has_label.ensures ∙ ap (lies_in (Named c.args.name.now)) c.row.ensures ∙ first_named es c.args.name.now c.in-Some.pair.now _ c.ascends.ensures (from ∙ c.in-Some.ensures.steps)

pub returns : goal.returns
returns c =
    let es = c.args.by_graph.now in
    let from = ap (λ low. pairs_from graph_order low es) (sym c.in_ok-low.ensures) ∙ sym c.from.ensures in
    none_named es c.args.name.now c.ascends.ensures (from ∙ c.in-None.ensures.steps.0)
