use Rattle.std.proofs.Common.{◌∙◌, sym, subst, Some}
use Rattle.def_datasets.specs.Views.{view_of}
use Rattle.lf_oracle.specs.NodeViews.{view_data}
use Rattle.lf_lists.proofs.Hearings.{followed, heard, holds_here, learnt, moved}
use Rattle.lf_nodes.specs.Properties.{AreNear}
use Rattle.lf_nodes.proofs.Viewing.{key_held, key_near, key_view}
use Rattle.lf_nodes.proofs.view.view_of.Goals as goal

pub view_from-requires : goal.view_from-requires
view_from-requires g c =
    record {
      near =
          subst (λ d. AreNear d c.args.node.now c.in-Some.quads) (sym c.in_ok-told.ensures.quads_stay)
          (key_near _ c.args.graph.now c.args.node.now c.in-Some.quads (sym c.in-Some.is ∙ holds_here (heard c.in_ok-told.ensures.quads)));
    }

pub returns-in_ok-view-in-Some-clause-view : goal.returns-in_ok-view-in-Some-clause-view
returns-in_ok-view-in-Some-clause-view g c =
    learnt (followed (heard c.in_ok-told.ensures.quads) (moved c.in_ok-told.ensures.quads_stay c.in_ok-view-in-Some.ensures.view))
    (λ other. view_of other c.args.graph.now c.args.node.now) (Some (view_data c.in_ok-view-in-Some.view))
    (λ other e.
    key_view other c.args.graph.now c.args.node.now c.in-Some.quads (sym c.in-Some.is ∙ e.0) (view_data c.in_ok-view-in-Some.view)
    (e.1 (key_held other c.args.graph.now c.args.node.now c.in-Some.quads (sym c.in-Some.is ∙ e.0))))
