use Rattle.std.proofs.Common.{inl, refl}
use Rattle.def_datasets.specs.Views.{view_of}
use Rattle.lf_lists.proofs.Hearings.{heard, heard_as, learnt}
use Rattle.lf_nodes.proofs.nodes_over.NodesOverNodes.node.Goals as goal

pub returns-clause-view : goal.returns-clause-view
returns-clause-view g c =
    learnt (heard_as (λ question near. (c.args.id.now, (inl refl, near))) (λ other e. e) (heard c.in_ok-found.ensures.view))
    (λ other. view_of other c.args.graph.now c.args.id.now) _ (λ other e. e)
