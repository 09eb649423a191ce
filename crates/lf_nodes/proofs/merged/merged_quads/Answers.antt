use Rattle.std.proofs.Common.{sym, ◌∙◌, None}
use Rattle.lf_rdf.specs.declared.question.GraphRef.TheVariants.{Merged}
use Rattle.lf_lists.proofs.Hearings.{followed, heard, learnt, moved, unheard}
use Rattle.lf_nodes.specs.Keys.{key_quads}
use Rattle.lf_nodes.proofs.Merging.{merged_literal}
use Rattle.lf_nodes.proofs.merged.merged_quads.Goals as goal

pub returns-then-not-is_node-clause-quads : goal.returns-then-not-is_node-clause-quads
returns-then-not-is_node-clause-quads g c =
    learnt (unheard _ _ _ _ _ (λ other. merged_literal other c.args.node.now (sym c.is_node.ensures ∙ c.if-not-is_node.true)))
    (λ other. key_quads other Merged c.args.node.now) None (λ other e. e)

pub merged_among-requires : goal.merged_among-requires
merged_among-requires g c = record { node = sym c.is_node.ensures ∙ c.if-not-is_node.false }

pub returns-clause-quads : goal.returns-clause-quads
returns-clause-quads g c =
    learnt (followed (heard c.in_ok-told.ensures.quads) (moved c.in_ok-told.ensures.quads_stay c.in_ok-found.ensures.quads))
    (λ other. key_quads other Merged c.args.node.now) c.in_ok-found.found (λ other e. e.1 e.0)
