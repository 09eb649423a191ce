use Rattle.std.proofs.Common.{◌∙◌, ap}
use Rattle.def_datasets.specs.Sorted.{ascends}
use Rattle.def_datasets.specs.Views.{types_in}
use Rattle.lf_lists.proofs.Hearings.{heard_as}
use Rattle.lf_nodes.specs.Properties.{entry_cmp, gathered, quad_value}
use Rattle.lf_nodes.proofs.Viewing.{made_near, view_by_parts}
use Rattle.lf_nodes.proofs.view.view_from.Goals as goal

pub props_of-requires : goal.props_of-requires
props_of-requires g c =
    record {
      near = made_near _ _ _ _ c.in_ok-entries.ensures c.requires.near _ c.as_slice-2.ensures.value;
      in_order = ap (ascends entry_cmp) c.as_slice-2.ensures.value ∙ c.in_ok-entries.ensures.in_order;
    }

pub returns-clause-view : goal.returns-clause-view
returns-clause-view g c =
    heard_as (λ question near. near)
    (λ other e held.
    view_by_parts other c.args.node.now c.args.quads _ _ _ (c.in_ok-types.ensures ∙ ap types_in c.as_slice.ensures) c.in_ok-entries.ensures held
    (e ∙ ap (gathered (quad_value other)) c.as_slice-2.ensures.value) _ c.in_ok-id.ensures)
    c.in_ok-props.ensures.props
