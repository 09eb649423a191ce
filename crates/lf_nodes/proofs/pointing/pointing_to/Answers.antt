use Rattle.std.proofs.Common.{◌∙◌, sym}
use Rattle.lf_rdf.specs.declared.term.Term.TheVariants.{Iri}
use Rattle.def_datasets.specs.Views.{pointing}
use Rattle.lf_lists.proofs.Hearings.{followed, heard, heard_as, holds_here, learnt, unheard}
use Rattle.lf_nodes.proofs.Arrows.{not_pointed}
use Rattle.lf_nodes.proofs.Subjects.{either_near, moved_either, node_near}
use Rattle.lf_nodes.proofs.pointing.pointing_to.Goals as goal

pub returns-then-not-is_node-clause-keys : goal.returns-then-not-is_node-clause-keys
returns-then-not-is_node-clause-keys g c =
    learnt
    (unheard _ _ _ _ _
    (λ other. c.new.ensures ∙ not_pointed other c.args.graph.now c.args.property.now c.args.node.now (sym c.is_node.ensures ∙ c.if-not-is_node.true)))
    (λ other. pointing other c.args.graph.now c.args.property.now c.args.node.now) _ (λ other e. e)

pub arrows_to-requires : goal.arrows_to-requires
arrows_to-requires g c = record { node = sym c.is_node.ensures ∙ c.if-not-is_node.false }

pub pointing_among-requires : goal.pointing_among-requires
pointing_among-requires g c = record { node = sym c.is_node.ensures ∙ c.if-not-is_node.false }

pub returns-clause-keys : goal.returns-clause-keys
returns-clause-keys g c =
    learnt
    (followed (heard_as (node_near _ c.args.graph.now (Iri c.args.property.now) c.args.node.now) (λ other e. e) (heard c.in_ok-told.ensures.arrows))
    (heard_as
    (either_near _ c.args.graph.now c.args.property.now c.args.node.now c.in_ok-told.told c.as_slice.result.now
    (holds_here (heard c.in_ok-told.ensures.arrows)) c.as_slice.ensures)
    (λ other e. e) (moved_either c.args.node.now c.as_slice.result.now c.in_ok-told.ensures.quads_stay c.in_ok-found.ensures.keys)))
    (λ other. pointing other c.args.graph.now c.args.property.now c.args.node.now) _ (λ other e. e.1 c.args.graph.now c.args.property.now (c.as_slice.ensures ∙ e.0))
