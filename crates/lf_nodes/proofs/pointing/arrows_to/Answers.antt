use Rattle.std.proofs.Common.{◌∙◌, sym, ap, filter}
use Rattle.lf_rdf.specs.declared.term.Term.TheVariants.{Iri}
use Rattle.def_datasets.specs.Questions.{inward}
use Rattle.lf_lists.proofs.Hearings.{heard, learnt}
use Rattle.lf_nodes.specs.Pointing.{arrows, is_arrow}
use Rattle.lf_nodes.proofs.Arrows.{plain_arrows, used_arrows}
use Rattle.lf_nodes.proofs.pointing.arrows_to.Goals as goal

pub returns-then-is_plain-clause-arrows : goal.returns-then-is_plain-clause-arrows
returns-then-is_plain-clause-arrows g c =
    learnt (heard c.in_ok-told.ensures.quads) (λ other. arrows other c.args.graph.now c.args.property.now c.args.node.now) _
    (λ other e.
    e
    ∙ (ap (λ i. inward other c.args.graph.now (Iri i) c.args.node.now) c.in_ok-copy.ensures
    ∙ plain_arrows other c.args.graph.now c.args.property.now c.args.node.now (sym c.is_plain.ensures ∙ c.if-is_plain.true)))

pub returns-clause-arrows : goal.returns-clause-arrows
returns-clause-arrows g c =
    learnt (heard c.in_ok-uses.ensures.quads) (λ other. arrows other c.args.graph.now c.args.property.now c.args.node.now) _
    (λ other e.
    c.in_ok-found.ensures
    ∙ (ap (filter (is_arrow c.args.graph.now c.args.property.now c.args.node.now)) e
    ∙ used_arrows other c.args.graph.now c.args.property.now c.args.node.now c.requires.node))
