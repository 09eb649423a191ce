use Rattle.std.proofs.Common.{◌≡◌, ◌<◌, length, get_or, refl, sym, ap, subst, ◌∙◌, arith}
use Rattle.lf_model.specs.ValueBridge.{value_data}
use Rattle.lf_oracle.specs.NodeViews.{view_data}
use Rattle.lf_oracle.proofs.Learning.{all_failed, all_held, all_more, any_found, any_more, any_none, learns_as, learns_nothing}
use Rattle.def_nested.specs.Unfolding.{above, nested, sub_frame}
use Rattle.def_framing.specs.Matching.{accepts, prop_allows, prop_matches}
use Rattle.def_framing.specs.Views.{of_dataset}
use Rattle.lf_match.specs.NearNodes.{IsNearOneFor, IsOfValue, IsOfView}
use Rattle.lf_match.specs.Rows.{prop_test}
use Rattle.lf_match.proofs.MatchProofs.{accepts_no_row, accepts_wild, lacking, list_literal, list_ref, no_item, node_list, node_literal, none_matches, pattern_list, pattern_literal, pattern_ref, viewed_by_verdict, viewed_no_row}
use Rattle.lf_match.proofs.NearTerms.{themselves, this_prop_among, this_value_refers, wide_same}
use Rattle.lf_match.proofs.Learnt.{by_all, by_any, by_lent_items, by_list, by_node, by_sub_frame, seen, unseen}
use Rattle.lf_match.proofs.matching.+matching.Goals as goal

pub matches-returns-in-None-clause-matched : goal.matches-returns-in-None-clause-matched
matches-returns-in-None-clause-matched g t c = unseen _ _ _ _ c.in-None.is c.in_ok-node.ensures.view

pub matches-returns-in-Some-clause-matched : goal.matches-returns-in-Some-clause-matched
matches-returns-in-Some-clause-matched g t c = seen (g.N.Nodes.quads c.args.nodes.now) (g.N.Nodes.quads c.node.new.self) (g.N.Nodes.told c.args.nodes.now) (g.N.Nodes.told c.node.new.self) (g.N.Nodes.told c.view_matches.new.nodes) c.args.steps.now c.node.new.steps c.view_matches.new.steps (nested c.args.frame.now.nodes c.args.at) c.args.graph.now c.args.s.now _ _ c.in-Some.is c.in_ok-node.ensures.view c.node.ensures.quads_stay _ c.view_matches.ensures.matched

pub view_matches-returns-in-None-clause-matched : goal.view_matches-returns-in-None-clause-matched
view_matches-returns-in-None-clause-matched g t c = learns_nothing _ _ _ _ _ _ (λ other. viewed_no_row (of_dataset other) _ _ _ _ _ c.in-None.ensures.item)

pub view_matches-returns-in-Refused-clause-matched : goal.view_matches-returns-in-Refused-clause-matched
view_matches-returns-in-Refused-clause-matched g t c = learns_nothing _ _ _ _ _ _ (λ other. viewed_by_verdict (of_dataset other) _ _ _ _ _ _ _ c.in-Some.ensures.item (sym c.in-Refused.is ∙ c.row_verdict.ensures))

pub view_matches-returns-in-Matched-clause-matched : goal.view_matches-returns-in-Matched-clause-matched
view_matches-returns-in-Matched-clause-matched g t c = learns_nothing _ _ _ _ _ _ (λ other. viewed_by_verdict (of_dataset other) _ _ _ _ _ _ _ c.in-Some.ensures.item (sym c.in-Matched.is ∙ c.row_verdict.ensures))

pub view_matches-returns-in-AllProps-clause-matched : goal.view_matches-returns-in-AllProps-clause-matched
view_matches-returns-in-AllProps-clause-matched g t c = by_all _ _ _ _ _ _ _ _ _ _ _ _ c.in-Some.ensures.item c.row_verdict.ensures c.in-AllProps.is _ c.all_allow.ensures.allow

pub view_matches-returns-in-AnyProp-clause-matched : goal.view_matches-returns-in-AnyProp-clause-matched
view_matches-returns-in-AnyProp-clause-matched g t c = by_any _ _ _ _ _ _ _ _ _ _ _ _ c.in-Some.ensures.item c.row_verdict.ensures c.in-AnyProp.is _ c.any_matches.ensures.matched

pub prop_allows-returns-then-lacks-clause-allows : goal.prop_allows-returns-then-lacks-clause-allows
prop_allows-returns-then-lacks-clause-allows g t c = learns_nothing _ _ _ _ _ _ (λ other. lacking (of_dataset other) c.args.graph.now (above c.args.at (nested c.args.frame.now.nodes)) (view_data c.args.view.now) c.args.prop.now (sym c.lacks.ensures ∙ c.if-lacks.true))

pub prop_matches-returns-in-None-clause-matched : goal.prop_matches-returns-in-None-clause-matched
prop_matches-returns-in-None-clause-matched g t c = learns_nothing _ _ _ _ _ _ (λ other. none_matches (of_dataset other) c.args.graph.now (above c.args.at (nested c.args.frame.now.nodes)) (view_data c.args.view.now) c.args.prop.now _ c.in-None.ensures.none c.has_property.ensures)

pub prop_matches-returns-in-Some-clause-matched : goal.prop_matches-returns-in-Some-clause-matched
prop_matches-returns-in-Some-clause-matched g t c = by_sub_frame _ _ _ _ _ c.args.graph.now c.args.frame.now.nodes c.args.at _ (view_data c.args.view.now) c.args.prop.now _ c.in-Some.ensures.row c.values_under-values.ensures _ c.any_accepted.ensures.accepted

pub accepts-returns-in-None-clause-accepted : goal.accepts-returns-in-None-clause-accepted
accepts-returns-in-None-clause-accepted g t c = learns_nothing _ _ _ _ _ _ (λ other. accepts_no_row (of_dataset other) _ _ _ _ c.in-None.ensures.item)

pub accepts-returns-in-Wild-clause-accepted : goal.accepts-returns-in-Wild-clause-accepted
accepts-returns-in-Wild-clause-accepted g t c = learns_nothing _ _ _ _ _ _ (λ other. accepts_wild (of_dataset other) _ _ _ _ c.args.value.now c.in-Some.ensures.item c.in-Wild.is)

pub accepts-returns-in-Ref-clause-accepted : goal.accepts-returns-in-Ref-clause-accepted
accepts-returns-in-Ref-clause-accepted g t c = by_node _ _ _ _ _ _ _ _ _ c.args.value.now _ c.in-Some.ensures.item c.in-Node.is c.in-Ref.is _ c.matches.ensures.matched

pub accepts-returns-in-Literal-clause-accepted : goal.accepts-returns-in-Literal-clause-accepted
accepts-returns-in-Literal-clause-accepted g t c = learns_nothing _ _ _ _ _ _ (λ other. node_literal (of_dataset other) _ _ _ _ c.args.value.now c.in-Some.ensures.item _ c.in-Node.is c.in-Literal.is)

pub accepts-returns-in-List-value-clause-accepted : goal.accepts-returns-in-List-value-clause-accepted
accepts-returns-in-List-value-clause-accepted g t c = learns_nothing _ _ _ _ _ _ (λ other. node_list (of_dataset other) _ _ _ _ c.args.value.now c.in-Some.ensures.item _ c.in-Node.is c.in-List-value.is)

pub accepts-returns-in-Literal-value-clause-accepted : goal.accepts-returns-in-Literal-value-clause-accepted
accepts-returns-in-Literal-value-clause-accepted g t c = learns_nothing _ _ _ _ _ _ (λ other. c.pattern_accepts.ensures ∙ pattern_literal (of_dataset other) _ _ _ _ c.args.value.now c.in-Some.ensures.item _ _ c.in-Value.is c.in-Literal-value.is)

pub accepts-returns-in-Ref-value-clause-accepted : goal.accepts-returns-in-Ref-value-clause-accepted
accepts-returns-in-Ref-value-clause-accepted g t c = learns_nothing _ _ _ _ _ _ (λ other. pattern_ref (of_dataset other) _ _ _ _ c.args.value.now c.in-Some.ensures.item _ _ c.in-Value.is c.in-Ref-value.is)

pub accepts-returns-in-List-value-2-clause-accepted : goal.accepts-returns-in-List-value-2-clause-accepted
accepts-returns-in-List-value-2-clause-accepted g t c = learns_nothing _ _ _ _ _ _ (λ other. pattern_list (of_dataset other) _ _ _ _ c.args.value.now c.in-Some.ensures.item _ _ c.in-Value.is c.in-List-value-2.is)

pub accepts-returns-in-List-value-3-clause-accepted : goal.accepts-returns-in-List-value-3-clause-accepted
accepts-returns-in-List-value-3-clause-accepted g t c = by_list _ _ _ _ _ _ _ _ _ c.args.value.now _ _ c.in-Some.ensures.item c.in-List.is c.in-List-value-3.is _ c.item_accepted.ensures.accepted

pub accepts-returns-in-Literal-value-2-clause-accepted : goal.accepts-returns-in-Literal-value-2-clause-accepted
accepts-returns-in-Literal-value-2-clause-accepted g t c = learns_nothing _ _ _ _ _ _ (λ other. list_literal (of_dataset other) _ _ _ _ c.args.value.now c.in-Some.ensures.item _ _ c.in-List.is c.in-Literal-value-2.is)

pub accepts-returns-in-Ref-value-2-clause-accepted : goal.accepts-returns-in-Ref-value-2-clause-accepted
accepts-returns-in-Ref-value-2-clause-accepted g t c = learns_nothing _ _ _ _ _ _ (λ other. list_ref (of_dataset other) _ _ _ _ c.args.value.now c.in-Some.ensures.item _ _ c.in-List.is c.in-Ref-value-2.is)

pub item_accepted-returns-in-None-later_row-clause-accepted : goal.item_accepted-returns-in-None-later_row-clause-accepted
item_accepted-returns-in-None-later_row-clause-accepted g t c = learns_nothing _ _ _ _ _ _ (λ other. no_item (of_dataset other) _ _ _ _ _ c.in-Some.is c.in-None-later_row.ensures.none)

pub item_accepted-returns-else-row_is_wild-clause-accepted : goal.item_accepted-returns-else-row_is_wild-clause-accepted
item_accepted-returns-else-row_is_wild-clause-accepted g t c = by_lent_items (g.N.Nodes.quads c.args.nodes.now) (g.N.Nodes.told c.args.nodes.now) (g.N.Nodes.told c.any_accepted.new.nodes) c.args.steps.now c.any_accepted.new.steps c.args.graph.now c.args.frame.now.nodes c.args.at _ c.args.item _ c.args.items.now c.as_slice.result.now _ c.as_slice.ensures c.in-Some.is c.in-Some-later_row.ensures.row c.row_is_wild.ensures c.if-row_is_wild.false _ c.any_accepted.ensures.accepted

pub all_allow-loop-prop-init : goal.all_allow-loop-prop-init
all_allow-loop-prop-init g t c = record { stays = refl; learnt = learns_nothing _ _ _ _ _ _ (λ other. refl) }

pub any_matches-loop-prop-init : goal.any_matches-loop-prop-init
any_matches-loop-prop-init g t c = record { stays = refl; learnt = learns_nothing _ _ _ _ _ _ (λ other. refl) }

pub all_allow-returns-then-not-branch-clause-allow : goal.all_allow-returns-then-not-branch-clause-allow
all_allow-returns-then-not-branch-clause-allow g t c =
    all_failed (λ d. IsNearOneFor d (sub_frame (above c.args.at (nested c.args.frame.now.nodes)) c.prop-item.result.frame) (IsOfView c.args.graph.now (view_data c.args.view.now))) _ (λ d p. prop_allows (view_data c.args.view.now) (prop_test (of_dataset d) c.args.graph.now (above c.args.at (nested c.args.frame.now.nodes)) p)) c.args.props.now c.loop-prop.prop-index c.prop-item.result
    (subst (λ xs. c.loop-prop.prop-index < length xs) c.as_slice-prop-items.ensures c.loop-prop-test.true)
    (subst (λ xs. c.prop-item.result ≡ get_or xs c.loop-prop.prop-index c.prop-item.result) c.as_slice-prop-items.ensures c.prop-item.is)
    c.loop-prop.invariant.learnt c.loop-prop.invariant.stays
    (learns_as c.if-not-branch.true c.in_ok-prop_allows.ensures.allows)
    (wide_same _ _ _ _ _ (this_prop_among (above c.args.at (nested c.args.frame.now.nodes)) c.args.props.now c.loop-prop.prop-index c.prop-item.result (subst (λ xs. c.loop-prop.prop-index < length xs) c.as_slice-prop-items.ensures c.loop-prop-test.true) (subst (λ xs. c.prop-item.result ≡ get_or xs c.loop-prop.prop-index c.prop-item.result) c.as_slice-prop-items.ensures c.prop-item.is)) (λ x here. here))

pub all_allow-loop-prop-preserved : goal.all_allow-loop-prop-preserved
all_allow-loop-prop-preserved g t c =
    record {
      stays = c.prop_allows.ensures.quads_stay ∙ c.loop-prop.invariant.stays;
      learnt = all_more (λ d. IsNearOneFor d (sub_frame (above c.args.at (nested c.args.frame.now.nodes)) c.prop-item.result.frame) (IsOfView c.args.graph.now (view_data c.args.view.now))) _ (λ d p. prop_allows (view_data c.args.view.now) (prop_test (of_dataset d) c.args.graph.now (above c.args.at (nested c.args.frame.now.nodes)) p)) c.args.props.now c.loop-prop.prop-index c.prop-item.result
          (subst (λ xs. c.loop-prop.prop-index < length xs) c.as_slice-prop-items.ensures c.loop-prop-test.true)
          (subst (λ xs. c.prop-item.result ≡ get_or xs c.loop-prop.prop-index c.prop-item.result) c.as_slice-prop-items.ensures c.prop-item.is)
          c.loop-prop.invariant.learnt c.loop-prop.invariant.stays
          (learns_as c.if-not-branch.false c.in_ok-prop_allows.ensures.allows)
          (wide_same _ _ _ _ _ (this_prop_among (above c.args.at (nested c.args.frame.now.nodes)) c.args.props.now c.loop-prop.prop-index c.prop-item.result (subst (λ xs. c.loop-prop.prop-index < length xs) c.as_slice-prop-items.ensures c.loop-prop-test.true) (subst (λ xs. c.prop-item.result ≡ get_or xs c.loop-prop.prop-index c.prop-item.result) c.as_slice-prop-items.ensures c.prop-item.is)) (λ x here. here));
    }

pub all_allow-returns-clause-allow : goal.all_allow-returns-clause-allow
all_allow-returns-clause-allow g t c = all_held _ (λ d p. prop_allows (view_data c.args.view.now) (prop_test (of_dataset d) c.args.graph.now (above c.args.at (nested c.args.frame.now.nodes)) p)) c.args.props.now c.loop-prop.prop-index (omega (arith, ap length c.as_slice-prop-items.ensures)) c.loop-prop.invariant.learnt

pub any_matches-returns-then-branch-clause-matched : goal.any_matches-returns-then-branch-clause-matched
any_matches-returns-then-branch-clause-matched g t c =
    any_found (λ d. IsNearOneFor d (sub_frame (above c.args.at (nested c.args.frame.now.nodes)) c.prop-item.result.frame) (IsOfView c.args.graph.now (view_data c.args.view.now))) _ (λ d p. prop_matches (view_data c.args.view.now) (prop_test (of_dataset d) c.args.graph.now (above c.args.at (nested c.args.frame.now.nodes)) p)) c.args.props.now c.loop-prop.prop-index c.prop-item.result
    (subst (λ xs. c.loop-prop.prop-index < length xs) c.as_slice-prop-items.ensures c.loop-prop-test.true)
    (subst (λ xs. c.prop-item.result ≡ get_or xs c.loop-prop.prop-index c.prop-item.result) c.as_slice-prop-items.ensures c.prop-item.is)
    c.loop-prop.invariant.learnt c.loop-prop.invariant.stays
    (learns_as c.if-branch.true c.in_ok-prop_matches.ensures.matched)
    (wide_same _ _ _ _ _ (this_prop_among (above c.args.at (nested c.args.frame.now.nodes)) c.args.props.now c.loop-prop.prop-index c.prop-item.result (subst (λ xs. c.loop-prop.prop-index < length xs) c.as_slice-prop-items.ensures c.loop-prop-test.true) (subst (λ xs. c.prop-item.result ≡ get_or xs c.loop-prop.prop-index c.prop-item.result) c.as_slice-prop-items.ensures c.prop-item.is)) (λ x here. here))

pub any_matches-loop-prop-preserved : goal.any_matches-loop-prop-preserved
any_matches-loop-prop-preserved g t c =
    record {
      stays = c.prop_matches.ensures.quads_stay ∙ c.loop-prop.invariant.stays;
      learnt = any_more (λ d. IsNearOneFor d (sub_frame (above c.args.at (nested c.args.frame.now.nodes)) c.prop-item.result.frame) (IsOfView c.args.graph.now (view_data c.args.view.now))) _ (λ d p. prop_matches (view_data c.args.view.now) (prop_test (of_dataset d) c.args.graph.now (above c.args.at (nested c.args.frame.now.nodes)) p)) c.args.props.now c.loop-prop.prop-index c.prop-item.result
          (subst (λ xs. c.loop-prop.prop-index < length xs) c.as_slice-prop-items.ensures c.loop-prop-test.true)
          (subst (λ xs. c.prop-item.result ≡ get_or xs c.loop-prop.prop-index c.prop-item.result) c.as_slice-prop-items.ensures c.prop-item.is)
          c.loop-prop.invariant.learnt c.loop-prop.invariant.stays
          (learns_as c.if-branch.false c.in_ok-prop_matches.ensures.matched)
          (wide_same _ _ _ _ _ (this_prop_among (above c.args.at (nested c.args.frame.now.nodes)) c.args.props.now c.loop-prop.prop-index c.prop-item.result (subst (λ xs. c.loop-prop.prop-index < length xs) c.as_slice-prop-items.ensures c.loop-prop-test.true) (subst (λ xs. c.prop-item.result ≡ get_or xs c.loop-prop.prop-index c.prop-item.result) c.as_slice-prop-items.ensures c.prop-item.is)) (λ x here. here));
    }

pub any_matches-returns-clause-matched : goal.any_matches-returns-clause-matched
any_matches-returns-clause-matched g t c = any_none _ (λ d p. prop_matches (view_data c.args.view.now) (prop_test (of_dataset d) c.args.graph.now (above c.args.at (nested c.args.frame.now.nodes)) p)) c.args.props.now c.loop-prop.prop-index (omega (arith, ap length c.as_slice-prop-items.ensures)) c.loop-prop.invariant.learnt

pub any_accepted-returns-then-branch-clause-accepted : goal.any_accepted-returns-then-branch-clause-accepted
any_accepted-returns-then-branch-clause-accepted g t c =
    any_found (λ d. IsNearOneFor d (nested c.args.frame.now.nodes c.args.at) (IsOfValue c.args.graph.now (value_data c.value-item.result))) _ (λ d held. accepts (of_dataset d) c.args.graph.now (nested c.args.frame.now.nodes c.args.at) (value_data held)) c.args.values.now c.loop-value.value-index c.value-item.result c.loop-value-test.true c.value-item.is
    c.loop-value.invariant.learnt c.loop-value.invariant.stays
    (learns_as c.if-branch.true c.in_ok-accepts.ensures.accepted)
    (wide_same _ _ _ _ _ (themselves _) (λ x. this_value_refers c.args.values.now c.loop-value.value-index c.value-item.result c.args.graph.now x c.loop-value-test.true c.value-item.is))

pub any_accepted-loop-value-preserved : goal.any_accepted-loop-value-preserved
any_accepted-loop-value-preserved g t c =
    record {
      stays = c.accepts.ensures.quads_stay ∙ c.loop-value.invariant.stays;
      learnt = any_more (λ d. IsNearOneFor d (nested c.args.frame.now.nodes c.args.at) (IsOfValue c.args.graph.now (value_data c.value-item.result))) _ (λ d held. accepts (of_dataset d) c.args.graph.now (nested c.args.frame.now.nodes c.args.at) (value_data held)) c.args.values.now c.loop-value.value-index c.value-item.result c.loop-value-test.true c.value-item.is
          c.loop-value.invariant.learnt c.loop-value.invariant.stays
          (learns_as c.if-branch.false c.in_ok-accepts.ensures.accepted)
          (wide_same _ _ _ _ _ (themselves _) (λ x. this_value_refers c.args.values.now c.loop-value.value-index c.value-item.result c.args.graph.now x c.loop-value-test.true c.value-item.is));
    }

pub any_accepted-returns-clause-accepted : goal.any_accepted-returns-clause-accepted
any_accepted-returns-clause-accepted g t c = any_none _ (λ d held. accepts (of_dataset d) c.args.graph.now (nested c.args.frame.now.nodes c.args.at) (value_data held)) c.args.values.now c.loop-value.value-index (omega arith) c.loop-value.invariant.learnt
