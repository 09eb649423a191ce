use Rattle.std.proofs.Common.{◌≡◌, ◌<◌, ◌∷◌, [], true, length, get_or, map, option_map, Some, refl, ap, subst, ◌∙◌, arith, rules}
use Rattle.lf_model.specs.ValueBridge.{value_data}
use Rattle.lf_model.specs.ValueData.{values_of}
use Rattle.lf_model.specs.TreeBridge.{entry_data, property_data, reverse_data, tree_data}
use Rattle.lf_model.proofs.TreeLemmas.{entry_data-List, entry_data-Node}
use Rattle.lf_oracle.specs.Nearby.{IsOfNode}
use Rattle.lf_oracle.specs.NodeViews.{view_data}
use Rattle.lf_match.specs.NearNodes.{IsOfValue, IsOfValues}
use Rattle.lf_match.proofs.NearTerms.{themselves, this_value_refers}
use Rattle.def_nested.specs.Nested.{reverse_props_of}
use Rattle.def_nested.specs.Unfolding.{above, build_reverses, nested}
use Rattle.def_framing.specs.Embedding.{embed}
use Rattle.def_framing.specs.Nearness.{in_reverses, reversed_in}
use Rattle.def_framing.specs.Parts.{emit_all, value_part, with_property, with_reverse}
use Rattle.def_framing.specs.Results.{gives, then, through}
use Rattle.lf_embed.specs.Cycle.{arriving_next, arriving_part, emit_accepted, entry_next, key_next, keys_part, matched, property_next, property_values, reverses_part, view_property}
use Rattle.lf_embed.specs.Embeds.{IsOfKeys, IsOfProps}
use Rattle.lf_embed.specs.Forms.{form_of}
use Rattle.lf_embed.specs.Made.{with_made}
use Rattle.lf_embed.specs.Runs.{run_of}
use Rattle.lf_embed.specs.Walks.{path_of, state_of}
use Rattle.lf_embed.proofs.ContentProofs.{arrivals, contents_made, defaults_over, graph_over, list_made, list_over, list_value, literal_value, match_reference_made, match_reference_over, no_list_left, no_reverse, reference_left, reference_made, reference_over, reference_value, reverses_over, row_reverses, value_refused, values_output, values_over, values_skipped}
use Rattle.lf_embed.proofs.CycleProofs.{arrives, entries_emitted, properties_output}
use Rattle.lf_embed.proofs.EmbedProofs.{embed_down, embed_referred, inside_made, inside_over, match_made, match_over, named_keys, names_graph, names_nothing, no_item_left, no_match_seen, no_match_unseen, no_room_left, not_entered, steps_in, viewed_down, viewed_referred}
use Rattle.lf_embed.proofs.FormProofs.{form_no_row}
use Rattle.lf_embed.proofs.Gains.{as_made, comes_to_an_end, goes_on, goes_wrong, silent}
use Rattle.lf_embed.proofs.NearParts.{same_by, this_key, this_property_refers, this_reverse_among}
use Rattle.lf_embed.proofs.embed.+embedding.Goals as goal

pub embed-returns-then-branch-clause-run : goal.embed-returns-then-branch-clause-run
embed-returns-then-branch-clause-run g t c = embed_referred c.args.room c.args.graph.now c.args.id.now (form_of c.args.frame.now.nodes c.args.form) (path_of c.args.walk.now) (state_of c.args.walk.now) (run_of tree_data c.refer.result (state_of c.refer.new.walk)) _ c.in_ok-is_left.ensures c.if-branch.true c.refer.ensures.run

pub embed-returns-clause-run : goal.embed-returns-clause-run
embed-returns-clause-run g t c = embed_down c.args.room c.args.graph.now c.args.id.now (form_of c.args.frame.now.nodes c.args.form) (path_of c.args.walk.now) (state_of c.args.walk.now) (run_of tree_data c.descend.result (state_of c.descend.new.walk)) _ _ _ c.in_ok-is_left.ensures c.if-branch.false c.in_ok-view.ensures c.in_ok-found.ensures.view c.node.ensures.quads_stay c.descend.ensures.run

pub embed_viewed-returns-then-branch-clause-run : goal.embed_viewed-returns-then-branch-clause-run
embed_viewed-returns-then-branch-clause-run g t c = viewed_referred c.args.room c.args.graph.now c.args.id.now (form_of c.args.frame.now.nodes c.args.form) c.args.free (view_data c.args.view.now) (path_of c.args.walk.now) (state_of c.args.walk.now) (run_of tree_data c.refer.result (state_of c.refer.new.walk)) _ c.in_ok-is_left.ensures c.if-branch.true c.refer.ensures.run

pub embed_viewed-returns-clause-run : goal.embed_viewed-returns-clause-run
embed_viewed-returns-clause-run g t c = viewed_down c.args.room c.args.graph.now c.args.id.now (form_of c.args.frame.now.nodes c.args.form) c.args.free (view_data c.args.view.now) (path_of c.args.walk.now) (state_of c.args.walk.now) (run_of tree_data c.descend.result (state_of c.descend.new.walk)) _ c.in_ok-is_left.ensures c.if-branch.false c.descend.ensures.run

pub descend-returns-then-room-eq0-clause-run : goal.descend-returns-then-room-eq0-clause-run
descend-returns-then-room-eq0-clause-run g t c = no_room_left c.args.room c.args.graph.now c.args.id.now (form_of c.args.frame.now.nodes c.args.form) (view_data c.args.view.now) (path_of c.args.walk.now) (state_of c.args.walk.now) (search rules)

pub descend-returns-in-Err-clause-run : goal.descend-returns-in-Err-clause-run
descend-returns-in-Err-clause-run g t c = no_item_left (tree_data) c.args.room c.args.graph.now c.args.id.now (form_of c.args.frame.now.nodes c.args.form) (view_data c.args.view.now) (path_of c.args.walk.now) (state_of c.args.walk.now) (state_of c.count_item.new.self) c.in-Err.stop (search rules) c.in-Err.ensures.full

pub descend-returns-in-Err-contents-clause-run : goal.descend-returns-in-Err-contents-clause-run
descend-returns-in-Err-contents-clause-run g t c = inside_over tree_data tree_data c.args.room c.args.graph.now c.args.id.now (form_of c.args.frame.now.nodes c.args.form) (view_data c.args.view.now) (path_of c.args.walk.now) (path_of c.enter.new.self) (state_of c.args.walk.now) (state_of c.count_item.new.self) (state_of c.enter.new.self) (state_of c.contents.new.walk) (state_of c.contents.new.walk) c.in-Err-contents.stop (search rules) c.in-Ok.ensures.counted c.in_ok-enter.ensures.entered (steps_in c.args.graph.now c.args.id.now (path_of c.enter.new.self) (path_of c.count_item.new.self) (path_of c.args.walk.now) c.in_ok-enter.ensures.path c.count_item.ensures.path) c.in-Err-contents.ensures.run

pub descend-returns-in-Ok-contents-clause-run : goal.descend-returns-in-Ok-contents-clause-run
descend-returns-in-Ok-contents-clause-run g t c = inside_made c.args.room c.args.graph.now c.args.id.now (form_of c.args.frame.now.nodes c.args.form) (view_data c.args.view.now) (path_of c.args.walk.now) (path_of c.enter.new.self) (state_of c.args.walk.now) (state_of c.count_item.new.self) (state_of c.enter.new.self) (state_of c.contents.new.walk) (state_of c.leave.new.self) (tree_data c.in-Ok-contents.tree) (search rules) c.in-Ok.ensures.counted c.in_ok-enter.ensures.entered (steps_in c.args.graph.now c.args.id.now (path_of c.enter.new.self) (path_of c.count_item.new.self) (path_of c.args.walk.now) c.in_ok-enter.ensures.path c.count_item.ensures.path) c.leave.ensures.state c.in-Ok-contents.ensures.run

pub contents-returns-in-Err-clause-run : goal.contents-returns-in-Err-clause-run
contents-returns-in-Err-clause-run g t c = graph_over (map tree_data) tree_data c.args.room c.args.graph.now c.args.id.now (form_of c.args.frame.now.nodes c.args.form) (view_data c.args.view.now) (path_of c.args.walk.now) (state_of c.args.walk.now) (state_of c.graph_part.new.walk) (state_of c.graph_part.new.walk) c.in-Err.stop c.in-Err.ensures.run

pub contents-returns-in-Err-value_part-clause-run : goal.contents-returns-in-Err-value_part-clause-run
contents-returns-in-Err-value_part-clause-run g t c = values_over (map property_data) tree_data c.args.room c.args.graph.now c.args.id.now (form_of c.args.frame.now.nodes c.args.form) (view_data c.args.view.now) (path_of c.args.walk.now) (path_of c.graph_part.new.walk) (state_of c.args.walk.now) (state_of c.graph_part.new.walk) (state_of c.value_part.new.walk) (state_of c.value_part.new.walk) (map tree_data c.in-Ok.inner) c.in-Err-value_part.stop c.in-Ok.ensures.path_stays c.in-Ok.ensures.run c.graph_part.ensures.quads_stay c.in-Err-value_part.ensures.run

pub contents-returns-in-Err-default_part-clause-run : goal.contents-returns-in-Err-default_part-clause-run
contents-returns-in-Err-default_part-clause-run g t c = defaults_over (map property_data) tree_data c.args.room c.args.graph.now c.args.id.now (form_of c.args.frame.now.nodes c.args.form) (view_data c.args.view.now) (path_of c.args.walk.now) (path_of c.graph_part.new.walk) (state_of c.args.walk.now) (state_of c.graph_part.new.walk) (state_of c.value_part.new.walk) (state_of c.default_part.new.walk) (state_of c.default_part.new.walk) (map tree_data c.in-Ok.inner) (map property_data c.in-Ok-value_part.values) c.in-Err-default_part.stop c.in-Ok.ensures.path_stays c.in-Ok.ensures.run c.graph_part.ensures.quads_stay c.in-Ok-value_part.ensures.run c.in-Err-default_part.ensures.run

pub contents-returns-in-Err-reverse_part-clause-run : goal.contents-returns-in-Err-reverse_part-clause-run
contents-returns-in-Err-reverse_part-clause-run g t c = reverses_over (map reverse_data) tree_data c.args.room c.args.graph.now c.args.id.now (form_of c.args.frame.now.nodes c.args.form) (view_data c.args.view.now) (path_of c.args.walk.now) (path_of c.graph_part.new.walk) (path_of c.default_part.new.walk) (state_of c.args.walk.now) (state_of c.graph_part.new.walk) (state_of c.value_part.new.walk) (state_of c.default_part.new.walk) (state_of c.reverse_part.new.walk) (state_of c.reverse_part.new.walk) (map tree_data c.in-Ok.inner) (map property_data c.in-Ok-value_part.values) (map property_data c.in-Ok-default_part.defaults) c.in-Err-reverse_part.stop c.in-Ok.ensures.path_stays (c.default_part.ensures.path ∙ c.in-Ok-value_part.ensures.path_stays ∙ c.in-Ok.ensures.path_stays) c.in-Ok.ensures.run c.graph_part.ensures.quads_stay c.in-Ok-value_part.ensures.run c.in-Ok-default_part.ensures.run (c.value_part.ensures.quads_stay ∙ c.graph_part.ensures.quads_stay) c.in-Err-reverse_part.ensures.run

pub contents-returns-in_ok-assemble-in-Ok-reverse_part-clause-run : goal.contents-returns-in_ok-assemble-in-Ok-reverse_part-clause-run
contents-returns-in_ok-assemble-in-Ok-reverse_part-clause-run g t c = contents_made c.args.room c.args.graph.now c.args.id.now (form_of c.args.frame.now.nodes c.args.form) (view_data c.args.view.now) (path_of c.args.walk.now) (path_of c.graph_part.new.walk) (path_of c.default_part.new.walk) (state_of c.args.walk.now) (state_of c.graph_part.new.walk) (state_of c.value_part.new.walk) (state_of c.default_part.new.walk) (state_of c.reverse_part.new.walk) (map tree_data c.in-Ok.inner) (map property_data c.in-Ok-value_part.values) (map property_data c.in-Ok-default_part.defaults) (map reverse_data c.in-Ok-reverse_part.reverse) _ _ c.in-Ok.ensures.path_stays (c.default_part.ensures.path ∙ c.in-Ok-value_part.ensures.path_stays ∙ c.in-Ok.ensures.path_stays) c.in_ok-types-in-Ok-reverse_part.ensures c.in_ok-assemble-in-Ok-reverse_part.ensures c.in-Ok.ensures.run c.graph_part.ensures.quads_stay c.in-Ok-value_part.ensures.run c.in-Ok-default_part.ensures.run (c.value_part.ensures.quads_stay ∙ c.graph_part.ensures.quads_stay) c.in-Ok-reverse_part.ensures.run

pub graph_part-returns-in-None-clause-run : goal.graph_part-returns-in-None-clause-run
graph_part-returns-in-None-clause-run g t c = as_made (map tree_data c.new.result) [] (state_of c.args.walk.now) (ap (map tree_data) c.new.ensures) (not_entered c.args.room c.args.graph.now c.args.id.now (form_of c.args.frame.now.nodes c.args.form) (path_of c.args.walk.now) (state_of c.args.walk.now) (search rules))

pub graph_part-returns-then-branch-clause-run : goal.graph_part-returns-then-branch-clause-run
graph_part-returns-then-branch-clause-run g t c = names_graph c.args.room c.args.graph.now c.args.id.now (form_of c.args.frame.now.nodes c.args.form) (form_of c.args.frame.now.nodes c.in-Some.sub) (path_of c.args.walk.now) (state_of c.args.walk.now) true _ (run_of (map tree_data) c.named_part.result (state_of c.named_part.new.walk)) (search rules) refl c.if-branch.true c.in-Some.ensures.sub c.in_ok-names_graph-in-Some.ensures.names c.names_graph.ensures.quads_stay c.named_part.ensures.run

pub graph_part-returns-else-branch-clause-run : goal.graph_part-returns-else-branch-clause-run
graph_part-returns-else-branch-clause-run g t c = as_made (map tree_data c.new-else-branch.result) [] (state_of c.args.walk.now) (ap (map tree_data) c.new-else-branch.ensures) (names_nothing c.args.room c.args.graph.now c.args.id.now (form_of c.args.frame.now.nodes c.args.form) (path_of c.args.walk.now) (state_of c.args.walk.now) true _ (search rules) c.if-branch.false c.in_ok-names_graph-in-Some.ensures.names)

pub named_part-returns-clause-run : goal.named_part-returns-clause-run
named_part-returns-clause-run g t c = named_keys c.args.room c.args.name.now _ (form_of c.args.frame.now.nodes c.args.form) (path_of c.args.walk.now) (state_of c.args.walk.now) _ (run_of (map tree_data) c.keys_part.result (state_of c.keys_part.new.walk)) c.in_ok-copy.ensures c.in_ok-keys.ensures.keys c.members.ensures.quads_stay c.keys_part.ensures.run

pub matched-returns-in-None-clause-run : goal.matched-returns-in-None-clause-run
matched-returns-in-None-clause-run g t c = no_match_unseen c.args.room c.args.graph.now c.args.id.now (form_of c.args.frame.now.nodes c.args.form) c.args.free (path_of c.args.walk.now) (state_of c.args.walk.now) _ c.in-None.is c.in_ok-node.ensures.view

pub matched-returns-clause-run : goal.matched-returns-clause-run
matched-returns-clause-run g t c = no_match_seen c.args.room c.args.graph.now c.args.id.now (form_of c.args.frame.now.nodes c.args.form) c.args.free (path_of c.args.walk.now) (state_of c.args.walk.now) _ c.in-Some.view _ c.in-Some.is c.if-branch.false c.in_ok-node.ensures.view c.node.ensures.quads_stay c.in_ok-form_matches-in-Some.ensures.matched

pub matched-returns-in-Err-clause-run : goal.matched-returns-in-Err-clause-run
matched-returns-in-Err-clause-run g t c = match_over tree_data (option_map tree_data) c.args.room c.args.graph.now c.args.id.now (form_of c.args.frame.now.nodes c.args.form) c.args.free (path_of c.args.walk.now) (state_of c.args.walk.now) (state_of c.embed_viewed.new.walk) (state_of c.embed_viewed.new.walk) _ c.in-Some.view _ c.in-Err.stop c.in-Some.is c.if-branch.true c.in_ok-node.ensures.view c.node.ensures.quads_stay c.in_ok-form_matches-in-Some.ensures.matched (c.form_matches.ensures.quads_stay ∙ c.node.ensures.quads_stay) c.in-Err.ensures.run

pub matched-returns-then-branch-clause-run : goal.matched-returns-then-branch-clause-run
matched-returns-then-branch-clause-run g t c = match_made c.args.room c.args.graph.now c.args.id.now (form_of c.args.frame.now.nodes c.args.form) c.args.free (path_of c.args.walk.now) (state_of c.args.walk.now) (state_of c.embed_viewed.new.walk) _ c.in-Some.view _ (tree_data c.in-Ok.tree) c.in-Some.is c.if-branch.true c.in_ok-node.ensures.view c.node.ensures.quads_stay c.in_ok-form_matches-in-Some.ensures.matched (c.form_matches.ensures.quads_stay ∙ c.node.ensures.quads_stay) c.in-Ok.ensures.run

pub property_values-returns-then-is_output-clause-run : goal.property_values-returns-then-is_output-clause-run
property_values-returns-then-is_output-clause-run g t c = values_output c.args.room c.args.graph.now (form_of c.args.frame.now.nodes c.args.form) _ (path_of c.args.walk.now) c.args.held.now c.as_slice.result.now (state_of c.args.walk.now) (run_of (map entry_data) c.emit_all.result (state_of c.emit_all.new.walk)) _ c.is_output.ensures c.if-is_output.true c.sub_form-sub.ensures c.as_slice.ensures c.emit_all.ensures.run

pub property_values-returns-else-is_output-clause-run : goal.property_values-returns-else-is_output-clause-run
property_values-returns-else-is_output-clause-run g t c = as_made (map entry_data c.new.result) [] (state_of c.args.walk.now) (ap (map entry_data) c.new.ensures) (values_skipped c.args.room c.args.graph.now (form_of c.args.frame.now.nodes c.args.form) (path_of c.args.walk.now) c.args.held.now (state_of c.args.walk.now) _ c.is_output.ensures c.if-is_output.false)

pub emit_accepted-returns-in-Ref-clause-run : goal.emit_accepted-returns-in-Ref-clause-run
emit_accepted-returns-in-Ref-clause-run g t c = reference_value c.args.room c.args.graph.now (path_of c.args.walk.now) (form_of c.args.frame.now.nodes c.args.form) c.args.value.now _ (state_of c.args.walk.now) (run_of (option_map entry_data) c.emit_reference.result (state_of c.emit_reference.new.walk)) c.in-Ref.is c.emit_reference.ensures.run

pub emit_accepted-returns-then-branch-clause-run : goal.emit_accepted-returns-then-branch-clause-run
emit_accepted-returns-then-branch-clause-run g t c = literal_value c.args.room c.args.graph.now (path_of c.args.walk.now) (form_of c.args.frame.now.nodes c.args.form) c.args.value.now _ (state_of c.args.walk.now) (run_of (option_map entry_data) c.emit_literal.result (state_of c.emit_literal.new.walk)) _ c.in-Literal.is c.if-branch.true c.in_ok-form_accepts-in-Literal.ensures.accepted c.emit_literal.ensures.run

pub emit_accepted-returns-else-branch-clause-run : goal.emit_accepted-returns-else-branch-clause-run
emit_accepted-returns-else-branch-clause-run g t c = value_refused c.args.room c.args.graph.now (path_of c.args.walk.now) (form_of c.args.frame.now.nodes c.args.form) (value_data c.args.value.now) (state_of c.args.walk.now) _ c.if-branch.false c.in_ok-form_accepts-in-Literal.ensures.accepted

pub emit_accepted-returns-then-branch-2-clause-run : goal.emit_accepted-returns-then-branch-2-clause-run
emit_accepted-returns-then-branch-2-clause-run g t c = list_value c.args.room c.args.graph.now (path_of c.args.walk.now) (form_of c.args.frame.now.nodes c.args.form) c.args.value.now c.in-List.items (state_of c.args.walk.now) (run_of (option_map entry_data) c.emit_list.result (state_of c.emit_list.new.walk)) _ c.in-List.is c.if-branch-2.true c.in_ok-form_accepts-in-List.ensures.accepted c.form_accepts-in-List.ensures.quads_stay c.emit_list.ensures.run

pub emit_accepted-returns-else-branch-2-clause-run : goal.emit_accepted-returns-else-branch-2-clause-run
emit_accepted-returns-else-branch-2-clause-run g t c = value_refused c.args.room c.args.graph.now (path_of c.args.walk.now) (form_of c.args.frame.now.nodes c.args.form) (value_data c.args.value.now) (state_of c.args.walk.now) _ c.if-branch-2.false c.in_ok-form_accepts-in-List.ensures.accepted

pub emit_list-returns-in-Err-clause-run : goal.emit_list-returns-in-Err-clause-run
emit_list-returns-in-Err-clause-run g t c = no_list_left (option_map entry_data) c.args.room c.args.graph.now (path_of c.args.walk.now) (form_of c.args.frame.now.nodes c.args.form) (map value_data c.args.items.now) (state_of c.args.walk.now) (state_of c.count_item.new.self) c.in-Err.stop c.in-Err.ensures.full

pub emit_list-returns-in-Err-emit_all-clause-run : goal.emit_list-returns-in-Err-emit_all-clause-run
emit_list-returns-in-Err-emit_all-clause-run g t c = list_over (map entry_data) (option_map entry_data) c.args.room c.args.graph.now (path_of c.args.walk.now) (path_of c.count_item.new.self) (form_of c.args.frame.now.nodes c.args.form) _ c.args.items.now c.as_slice.result.now (state_of c.args.walk.now) (state_of c.count_item.new.self) (state_of c.emit_all.new.walk) (state_of c.emit_all.new.walk) c.in-Err-emit_all.stop c.in-Ok.ensures.counted c.count_item.ensures.path c.item_form-inner.ensures c.as_slice.ensures c.in-Err-emit_all.ensures.run

pub emit_list-returns-in-Ok-emit_all-clause-run : goal.emit_list-returns-in-Ok-emit_all-clause-run
emit_list-returns-in-Ok-emit_all-clause-run g t c = list_made c.args.room c.args.graph.now (path_of c.args.walk.now) (path_of c.count_item.new.self) (form_of c.args.frame.now.nodes c.args.form) _ c.args.items.now c.as_slice.result.now (state_of c.args.walk.now) (state_of c.count_item.new.self) (state_of c.emit_all.new.walk) (map entry_data c.in-Ok-emit_all.entries) _ c.in-Ok.ensures.counted c.count_item.ensures.path c.item_form-inner.ensures c.as_slice.ensures (ap Some (entry_data-List c.in-Ok-emit_all.entries)) c.in-Ok-emit_all.ensures.run

pub emit_reference-returns-in-Never-clause-run : goal.emit_reference-returns-in-Never-clause-run
emit_reference-returns-in-Never-clause-run g t c = reference_left c.args.room c.args.graph.now (path_of c.args.walk.now) (form_of c.args.frame.now.nodes c.args.form) c.args.id.now (state_of c.args.walk.now) _ c.in-Never.is c.reference_rule.ensures

pub emit_reference-returns-in-Err-clause-run : goal.emit_reference-returns-in-Err-clause-run
emit_reference-returns-in-Err-clause-run g t c = reference_over tree_data (option_map entry_data) c.args.room c.args.graph.now (path_of c.args.walk.now) (form_of c.args.frame.now.nodes c.args.form) c.args.id.now (state_of c.args.walk.now) (state_of c.embed.new.walk) (state_of c.embed.new.walk) _ c.in-Err.stop c.in-Always.is c.reference_rule.ensures c.in-Err.ensures.run

pub emit_reference-returns-in-Ok-clause-run : goal.emit_reference-returns-in-Ok-clause-run
emit_reference-returns-in-Ok-clause-run g t c = reference_made c.args.room c.args.graph.now (path_of c.args.walk.now) (form_of c.args.frame.now.nodes c.args.form) c.args.id.now (state_of c.args.walk.now) (state_of c.embed.new.walk) _ (tree_data c.in-Ok.tree) _ c.in-Always.is c.reference_rule.ensures (ap Some (entry_data-Node c.in-Ok.tree)) c.in-Ok.ensures.run

pub emit_reference-returns-in-Err-matched-clause-run : goal.emit_reference-returns-in-Err-matched-clause-run
emit_reference-returns-in-Err-matched-clause-run g t c = match_reference_over (option_map tree_data) (option_map entry_data) c.args.room c.args.graph.now (path_of c.args.walk.now) (form_of c.args.frame.now.nodes c.args.form) c.args.id.now (state_of c.args.walk.now) (state_of c.matched.new.walk) (state_of c.matched.new.walk) _ c.in-Err-matched.stop c.in-Matching.is c.reference_rule.ensures c.in-Err-matched.ensures.run

pub emit_reference-returns-in-Ok-matched-clause-run : goal.emit_reference-returns-in-Ok-matched-clause-run
emit_reference-returns-in-Ok-matched-clause-run g t c = match_reference_made c.args.room c.args.graph.now (path_of c.args.walk.now) (form_of c.args.frame.now.nodes c.args.form) c.args.id.now (state_of c.args.walk.now) (state_of c.matched.new.walk) _ (option_map tree_data c.in-Ok-matched.made) _ c.in-Matching.is c.reference_rule.ensures c.node_value.ensures c.in-Ok-matched.ensures.run

pub reverse_part-returns-in-Absent-clause-run : goal.reverse_part-returns-in-Absent-clause-run
reverse_part-returns-in-Absent-clause-run g t c = as_made (map reverse_data c.new.result) [] (state_of c.args.walk.now) (ap (map reverse_data) c.new.ensures) (no_reverse c.args.room c.args.graph.now c.args.id.now (form_of c.args.frame.now.nodes c.args.form) (path_of c.args.walk.now) (state_of c.args.walk.now) (ap (λ f. reverse_props_of (form_of c.args.frame.now.nodes f)) c.in-Absent.is))

pub reverse_part-returns-in-Wild-clause-run : goal.reverse_part-returns-in-Wild-clause-run
reverse_part-returns-in-Wild-clause-run g t c = as_made (map reverse_data c.new-in-Wild.result) [] (state_of c.args.walk.now) (ap (map reverse_data) c.new-in-Wild.ensures) (no_reverse c.args.room c.args.graph.now c.args.id.now (form_of c.args.frame.now.nodes c.args.form) (path_of c.args.walk.now) (state_of c.args.walk.now) (ap (λ f. reverse_props_of (form_of c.args.frame.now.nodes f)) c.in-Wild.is))

pub reverse_part-returns-in-None-clause-run : goal.reverse_part-returns-in-None-clause-run
reverse_part-returns-in-None-clause-run g t c = as_made (map reverse_data c.new-in-None.result) [] (state_of c.args.walk.now) (ap (map reverse_data) c.new-in-None.ensures) (no_reverse c.args.room c.args.graph.now c.args.id.now (form_of c.args.frame.now.nodes c.args.form) (path_of c.args.walk.now) (state_of c.args.walk.now) (ap reverse_props_of (form_no_row _ _ _ c.in-Row.is c.in-None.ensures.item)))

pub reverse_part-returns-in-Some-clause-run : goal.reverse_part-returns-in-Some-clause-run
reverse_part-returns-in-Some-clause-run g t c = row_reverses c.args.room c.args.graph.now c.args.id.now c.args.frame.now.nodes c.args.form _ c.in-Some.row.now (path_of c.args.walk.now) (state_of c.args.walk.now) (run_of (map reverse_data) c.reverses_part.result (state_of c.reverses_part.new.walk)) c.in-Row.is c.in-Some.ensures.item c.reverses_part.ensures.run

pub arriving_part-returns-clause-run : goal.arriving_part-returns-clause-run
arriving_part-returns-clause-run g t c = arrivals c.args.room c.args.graph.now c.args.id.now c.args.held.now.property _ (above c.args.at (nested c.args.frame.now.nodes) c.args.held.now.frame) _ (path_of c.args.walk.now) (state_of c.args.walk.now) _ (run_of (map tree_data) c.keys_part.result (state_of c.keys_part.new.walk)) c.in_ok-copy.ensures c.numbered-sub.ensures c.in_ok-keys.ensures.keys c.pointing.ensures.quads_stay c.keys_part.ensures.run

pub keys_part-loop-id-init : goal.keys_part-loop-id-init
keys_part-loop-id-init g t c = record { stays = refl; path = refl; grows = omega arith; gained = silent (λ views. through (key_next views (embed views c.args.room) c.args.graph.now (form_of c.args.frame.now.nodes c.args.form) c.args.free (path_of c.args.walk.now)) [] [] (state_of c.args.walk.now)) _ (λ views. ap (λ made. gives (map tree_data made) (state_of c.args.walk.now)) c.new-trees.ensures) }

pub keys_part-loop-id-preserved : goal.keys_part-loop-id-preserved
keys_part-loop-id-preserved g t c = record {
  stays = c.matched.ensures.quads_stay ∙ c.loop-id.invariant.stays;
  path = c.in-Ok.ensures.path_stays ∙ c.loop-id.invariant.path;
  grows = omega (arith, c.in-Ok.ensures.grows, c.loop-id.invariant.grows);
  gained =
      goes_on (λ views. key_next views (embed views c.args.room) c.args.graph.now (form_of c.args.frame.now.nodes c.args.form) c.args.free (path_of c.args.walk.now)) (λ views. matched views (embed views c.args.room) c.args.graph.now (form_of c.args.frame.now.nodes c.args.form) c.args.free (path_of c.loop-id.walk) c.id-item.result (state_of c.loop-id.walk)) (with_made) [] (map tree_data c.loop-id.trees) (map tree_data c.push_tree.new.trees) c.args.keys.now c.loop-id.id-index c.id-item.result (state_of c.args.walk.now) (state_of c.loop-id.walk) (state_of c.matched.new.walk) (option_map tree_data c.in-Ok.made) (subst (λ xs. c.loop-id.id-index < length xs) c.as_slice-id-items.ensures c.loop-id-test.true)
      (subst (λ xs. c.id-item.result ≡ get_or xs c.loop-id.id-index c.id-item.result) c.as_slice-id-items.ensures c.id-item.is) c.loop-id.invariant.gained c.loop-id.invariant.stays c.in-Ok.ensures.run
      (same_by (g.N.Nodes.quads c.args.nodes.now) (reversed_in (form_of c.args.frame.now.nodes c.args.form)) (reversed_in (form_of c.args.frame.now.nodes c.args.form)) (IsOfNode c.args.graph.now c.id-item.result) (IsOfKeys c.args.graph.now c.args.keys.now) (themselves (reversed_in (form_of c.args.frame.now.nodes c.args.form))) (λ x here. this_key c.args.keys.now c.loop-id.id-index c.id-item.result c.args.graph.now x (subst (λ xs. c.loop-id.id-index < length xs) c.as_slice-id-items.ensures c.loop-id-test.true) (subst (λ xs. c.id-item.result ≡ get_or xs c.loop-id.id-index c.id-item.result) c.as_slice-id-items.ensures c.id-item.is) here))
      (λ views. ap (λ p. then (matched views (embed views c.args.room) c.args.graph.now (form_of c.args.frame.now.nodes c.args.form) c.args.free p c.id-item.result (state_of c.loop-id.walk)) (λ made then_state. gives (with_made made (map tree_data c.loop-id.trees)) then_state)) c.loop-id.invariant.path)
      c.in_ok-push_tree-in-Ok.ensures;
}

pub keys_part-returns-in-Err-clause-run : goal.keys_part-returns-in-Err-clause-run
keys_part-returns-in-Err-clause-run g t c = goes_wrong (option_map tree_data) (map tree_data) (λ views. key_next views (embed views c.args.room) c.args.graph.now (form_of c.args.frame.now.nodes c.args.form) c.args.free (path_of c.args.walk.now)) (λ views. matched views (embed views c.args.room) c.args.graph.now (form_of c.args.frame.now.nodes c.args.form) c.args.free (path_of c.loop-id.walk) c.id-item.result (state_of c.loop-id.walk)) (λ views. keys_part views (embed views c.args.room) c.args.graph.now (form_of c.args.frame.now.nodes c.args.form) c.args.free (path_of c.args.walk.now) c.args.keys.now (state_of c.args.walk.now)) (with_made) [] (map tree_data c.loop-id.trees) c.args.keys.now c.loop-id.id-index c.id-item.result (state_of c.args.walk.now) (state_of c.loop-id.walk) (state_of c.matched.new.walk) (state_of c.matched.new.walk) c.in-Err.stop
    (subst (λ xs. c.loop-id.id-index < length xs) c.as_slice-id-items.ensures c.loop-id-test.true) (subst (λ xs. c.id-item.result ≡ get_or xs c.loop-id.id-index c.id-item.result) c.as_slice-id-items.ensures c.id-item.is) c.loop-id.invariant.gained c.loop-id.invariant.stays c.in-Err.ensures.run
    (same_by (g.N.Nodes.quads c.args.nodes.now) (reversed_in (form_of c.args.frame.now.nodes c.args.form)) (reversed_in (form_of c.args.frame.now.nodes c.args.form)) (IsOfNode c.args.graph.now c.id-item.result) (IsOfKeys c.args.graph.now c.args.keys.now) (themselves (reversed_in (form_of c.args.frame.now.nodes c.args.form))) (λ x here. this_key c.args.keys.now c.loop-id.id-index c.id-item.result c.args.graph.now x (subst (λ xs. c.loop-id.id-index < length xs) c.as_slice-id-items.ensures c.loop-id-test.true) (subst (λ xs. c.id-item.result ≡ get_or xs c.loop-id.id-index c.id-item.result) c.as_slice-id-items.ensures c.id-item.is) here))
    (λ views. ap (λ p. then (matched views (embed views c.args.room) c.args.graph.now (form_of c.args.frame.now.nodes c.args.form) c.args.free p c.id-item.result (state_of c.loop-id.walk)) (λ made then_state. gives (with_made made (map tree_data c.loop-id.trees)) then_state)) c.loop-id.invariant.path)
    (λ views. refl)

pub keys_part-returns-clause-run : goal.keys_part-returns-clause-run
keys_part-returns-clause-run g t c = comes_to_an_end (λ views. key_next views (embed views c.args.room) c.args.graph.now (form_of c.args.frame.now.nodes c.args.form) c.args.free (path_of c.args.walk.now)) (λ views. keys_part views (embed views c.args.room) c.args.graph.now (form_of c.args.frame.now.nodes c.args.form) c.args.free (path_of c.args.walk.now) c.args.keys.now (state_of c.args.walk.now)) [] (map tree_data c.loop-id.trees) c.args.keys.now c.loop-id.id-index (state_of c.args.walk.now) (state_of c.loop-id.walk) (omega (arith, ap length c.as_slice-id-items.ensures)) c.loop-id.invariant.gained (λ views. refl)

pub value_part-loop-held-init : goal.value_part-loop-held-init
value_part-loop-held-init g t c = record { stays = refl; path = refl; grows = omega arith; gained = silent (λ views. through (property_next views (embed views c.args.room) c.args.graph.now (form_of c.args.frame.now.nodes c.args.form) (path_of c.args.walk.now)) [] [] (state_of c.args.walk.now)) _ (λ views. ap (λ made. gives (map property_data made) (state_of c.args.walk.now)) c.new-made.ensures) }

pub value_part-loop-held-preserved : goal.value_part-loop-held-preserved
value_part-loop-held-preserved g t c = record {
  stays = c.property_values.ensures.quads_stay ∙ c.loop-held.invariant.stays;
  path = c.in-Ok.ensures.path_stays ∙ c.loop-held.invariant.path;
  grows = omega (arith, c.in-Ok.ensures.grows, c.loop-held.invariant.grows);
  gained =
      goes_on (λ views. property_next views (embed views c.args.room) c.args.graph.now (form_of c.args.frame.now.nodes c.args.form) (path_of c.args.walk.now)) (λ views. property_values views (embed views c.args.room) c.args.graph.now (form_of c.args.frame.now.nodes c.args.form) (path_of c.loop-held.walk) (view_property c.held-item.result) (state_of c.loop-held.walk)) (with_property c.held-item.result.property) [] (map property_data c.loop-held.made) (map property_data c.add_property.new.made) c.args.props.now c.loop-held.held-index c.held-item.result (state_of c.args.walk.now) (state_of c.loop-held.walk) (state_of c.property_values.new.walk) (map entry_data c.in-Ok.entries) (subst (λ xs. c.loop-held.held-index < length xs) c.as_slice-held-items.ensures c.loop-held-test.true)
      (subst (λ xs. c.held-item.result ≡ get_or xs c.loop-held.held-index c.held-item.result) c.as_slice-held-items.ensures c.held-item.is) c.loop-held.invariant.gained c.loop-held.invariant.stays c.in-Ok.ensures.run
      (same_by (g.N.Nodes.quads c.args.nodes.now) (reversed_in (form_of c.args.frame.now.nodes c.args.form)) (reversed_in (form_of c.args.frame.now.nodes c.args.form)) (IsOfValues c.args.graph.now (map value_data c.held-item.result.values)) (IsOfProps c.args.graph.now (map view_property c.args.props.now)) (themselves (reversed_in (form_of c.args.frame.now.nodes c.args.form))) (λ x here. this_property_refers c.args.props.now c.loop-held.held-index c.held-item.result c.args.graph.now x (subst (λ xs. c.loop-held.held-index < length xs) c.as_slice-held-items.ensures c.loop-held-test.true) (subst (λ xs. c.held-item.result ≡ get_or xs c.loop-held.held-index c.held-item.result) c.as_slice-held-items.ensures c.held-item.is) here))
      (λ views. ap (λ p. then (property_values views (embed views c.args.room) c.args.graph.now (form_of c.args.frame.now.nodes c.args.form) p (view_property c.held-item.result) (state_of c.loop-held.walk)) (λ made then_state. gives (with_property c.held-item.result.property made (map property_data c.loop-held.made)) then_state)) c.loop-held.invariant.path)
      c.in_ok-add_property-in-Ok.ensures;
}

pub value_part-returns-in-Err-clause-run : goal.value_part-returns-in-Err-clause-run
value_part-returns-in-Err-clause-run g t c = goes_wrong (map entry_data) (map property_data) (λ views. property_next views (embed views c.args.room) c.args.graph.now (form_of c.args.frame.now.nodes c.args.form) (path_of c.args.walk.now)) (λ views. property_values views (embed views c.args.room) c.args.graph.now (form_of c.args.frame.now.nodes c.args.form) (path_of c.loop-held.walk) (view_property c.held-item.result) (state_of c.loop-held.walk)) (λ views. value_part views (embed views c.args.room) c.args.graph.now (form_of c.args.frame.now.nodes c.args.form) (path_of c.args.walk.now) (map view_property c.args.props.now) (state_of c.args.walk.now)) (with_property c.held-item.result.property) [] (map property_data c.loop-held.made) c.args.props.now c.loop-held.held-index c.held-item.result (state_of c.args.walk.now) (state_of c.loop-held.walk) (state_of c.property_values.new.walk) (state_of c.property_values.new.walk) c.in-Err.stop
    (subst (λ xs. c.loop-held.held-index < length xs) c.as_slice-held-items.ensures c.loop-held-test.true) (subst (λ xs. c.held-item.result ≡ get_or xs c.loop-held.held-index c.held-item.result) c.as_slice-held-items.ensures c.held-item.is) c.loop-held.invariant.gained c.loop-held.invariant.stays c.in-Err.ensures.run
    (same_by (g.N.Nodes.quads c.args.nodes.now) (reversed_in (form_of c.args.frame.now.nodes c.args.form)) (reversed_in (form_of c.args.frame.now.nodes c.args.form)) (IsOfValues c.args.graph.now (map value_data c.held-item.result.values)) (IsOfProps c.args.graph.now (map view_property c.args.props.now)) (themselves (reversed_in (form_of c.args.frame.now.nodes c.args.form))) (λ x here. this_property_refers c.args.props.now c.loop-held.held-index c.held-item.result c.args.graph.now x (subst (λ xs. c.loop-held.held-index < length xs) c.as_slice-held-items.ensures c.loop-held-test.true) (subst (λ xs. c.held-item.result ≡ get_or xs c.loop-held.held-index c.held-item.result) c.as_slice-held-items.ensures c.held-item.is) here))
    (λ views. ap (λ p. then (property_values views (embed views c.args.room) c.args.graph.now (form_of c.args.frame.now.nodes c.args.form) p (view_property c.held-item.result) (state_of c.loop-held.walk)) (λ made then_state. gives (with_property c.held-item.result.property made (map property_data c.loop-held.made)) then_state)) c.loop-held.invariant.path)
    (λ views. properties_output views (embed views c.args.room) c.args.graph.now (form_of c.args.frame.now.nodes c.args.form) (path_of c.args.walk.now) c.args.props.now (state_of c.args.walk.now))

pub value_part-returns-clause-run : goal.value_part-returns-clause-run
value_part-returns-clause-run g t c = comes_to_an_end (λ views. property_next views (embed views c.args.room) c.args.graph.now (form_of c.args.frame.now.nodes c.args.form) (path_of c.args.walk.now)) (λ views. value_part views (embed views c.args.room) c.args.graph.now (form_of c.args.frame.now.nodes c.args.form) (path_of c.args.walk.now) (map view_property c.args.props.now) (state_of c.args.walk.now)) [] (map property_data c.loop-held.made) c.args.props.now c.loop-held.held-index (state_of c.args.walk.now) (state_of c.loop-held.walk) (omega (arith, ap length c.as_slice-held-items.ensures)) c.loop-held.invariant.gained (λ views. properties_output views (embed views c.args.room) c.args.graph.now (form_of c.args.frame.now.nodes c.args.form) (path_of c.args.walk.now) c.args.props.now (state_of c.args.walk.now))

pub emit_all-loop-value-init : goal.emit_all-loop-value-init
emit_all-loop-value-init g t c = record { stays = refl; path = refl; grows = omega arith; gained = silent (λ views. through (entry_next views (embed views c.args.room) c.args.graph.now (path_of c.args.walk.now) (form_of c.args.frame.now.nodes c.args.form)) [] [] (state_of c.args.walk.now)) _ (λ views. ap (λ made. gives (map entry_data made) (state_of c.args.walk.now)) c.new-entries.ensures) }

pub emit_all-loop-value-preserved : goal.emit_all-loop-value-preserved
emit_all-loop-value-preserved g t c = record {
  stays = c.emit_accepted.ensures.quads_stay ∙ c.loop-value.invariant.stays;
  path = c.in-Ok.ensures.path_stays ∙ c.loop-value.invariant.path;
  grows = omega (arith, c.in-Ok.ensures.grows, c.loop-value.invariant.grows);
  gained =
      goes_on (λ views. entry_next views (embed views c.args.room) c.args.graph.now (path_of c.args.walk.now) (form_of c.args.frame.now.nodes c.args.form)) (λ views. emit_accepted views (embed views c.args.room) c.args.graph.now (path_of c.loop-value.walk) (form_of c.args.frame.now.nodes c.args.form) (value_data c.value-item.result) (state_of c.loop-value.walk)) (with_made) [] (map entry_data c.loop-value.entries) (map entry_data c.push_entry.new.entries) c.args.values.now c.loop-value.value-index c.value-item.result (state_of c.args.walk.now) (state_of c.loop-value.walk) (state_of c.emit_accepted.new.walk) (option_map entry_data c.in-Ok.made) c.loop-value-test.true
      c.value-item.is c.loop-value.invariant.gained c.loop-value.invariant.stays c.in-Ok.ensures.run
      (same_by (g.N.Nodes.quads c.args.nodes.now) (reversed_in (form_of c.args.frame.now.nodes c.args.form)) (reversed_in (form_of c.args.frame.now.nodes c.args.form)) (IsOfValue c.args.graph.now (value_data c.value-item.result)) (IsOfValues c.args.graph.now (map value_data c.args.values.now)) (themselves (reversed_in (form_of c.args.frame.now.nodes c.args.form))) (λ x here. this_value_refers c.args.values.now c.loop-value.value-index c.value-item.result c.args.graph.now x c.loop-value-test.true c.value-item.is here))
      (λ views. ap (λ p. then (emit_accepted views (embed views c.args.room) c.args.graph.now p (form_of c.args.frame.now.nodes c.args.form) (value_data c.value-item.result) (state_of c.loop-value.walk)) (λ made then_state. gives (with_made made (map entry_data c.loop-value.entries)) then_state)) c.loop-value.invariant.path)
      c.in_ok-push_entry-in-Ok.ensures;
}

pub emit_all-returns-in-Err-clause-run : goal.emit_all-returns-in-Err-clause-run
emit_all-returns-in-Err-clause-run g t c = goes_wrong (option_map entry_data) (map entry_data) (λ views. entry_next views (embed views c.args.room) c.args.graph.now (path_of c.args.walk.now) (form_of c.args.frame.now.nodes c.args.form)) (λ views. emit_accepted views (embed views c.args.room) c.args.graph.now (path_of c.loop-value.walk) (form_of c.args.frame.now.nodes c.args.form) (value_data c.value-item.result) (state_of c.loop-value.walk)) (λ views. emit_all views (embed views c.args.room) c.args.graph.now (path_of c.args.walk.now) (form_of c.args.frame.now.nodes c.args.form) [] (values_of (map value_data c.args.values.now)) (state_of c.args.walk.now)) (with_made) [] (map entry_data c.loop-value.entries) c.args.values.now c.loop-value.value-index c.value-item.result (state_of c.args.walk.now) (state_of c.loop-value.walk) (state_of c.emit_accepted.new.walk) (state_of c.emit_accepted.new.walk) c.in-Err.stop
    c.loop-value-test.true c.value-item.is c.loop-value.invariant.gained c.loop-value.invariant.stays c.in-Err.ensures.run
    (same_by (g.N.Nodes.quads c.args.nodes.now) (reversed_in (form_of c.args.frame.now.nodes c.args.form)) (reversed_in (form_of c.args.frame.now.nodes c.args.form)) (IsOfValue c.args.graph.now (value_data c.value-item.result)) (IsOfValues c.args.graph.now (map value_data c.args.values.now)) (themselves (reversed_in (form_of c.args.frame.now.nodes c.args.form))) (λ x here. this_value_refers c.args.values.now c.loop-value.value-index c.value-item.result c.args.graph.now x c.loop-value-test.true c.value-item.is here))
    (λ views. ap (λ p. then (emit_accepted views (embed views c.args.room) c.args.graph.now p (form_of c.args.frame.now.nodes c.args.form) (value_data c.value-item.result) (state_of c.loop-value.walk)) (λ made then_state. gives (with_made made (map entry_data c.loop-value.entries)) then_state)) c.loop-value.invariant.path)
    (λ views. entries_emitted views (embed views c.args.room) c.args.graph.now (path_of c.args.walk.now) (form_of c.args.frame.now.nodes c.args.form) c.args.values.now (state_of c.args.walk.now))

pub emit_all-returns-clause-run : goal.emit_all-returns-clause-run
emit_all-returns-clause-run g t c = comes_to_an_end (λ views. entry_next views (embed views c.args.room) c.args.graph.now (path_of c.args.walk.now) (form_of c.args.frame.now.nodes c.args.form)) (λ views. emit_all views (embed views c.args.room) c.args.graph.now (path_of c.args.walk.now) (form_of c.args.frame.now.nodes c.args.form) [] (values_of (map value_data c.args.values.now)) (state_of c.args.walk.now)) [] (map entry_data c.loop-value.entries) c.args.values.now c.loop-value.value-index (state_of c.args.walk.now) (state_of c.loop-value.walk) (omega arith) c.loop-value.invariant.gained (λ views. entries_emitted views (embed views c.args.room) c.args.graph.now (path_of c.args.walk.now) (form_of c.args.frame.now.nodes c.args.form) c.args.values.now (state_of c.args.walk.now))

pub reverses_part-loop-held-init : goal.reverses_part-loop-held-init
reverses_part-loop-held-init g t c = record { stays = refl; path = refl; grows = omega arith; gained = silent (λ views. through (arriving_next views (embed views c.args.room) c.args.graph.now c.args.id.now (path_of c.args.walk.now) (above c.args.at (nested c.args.frame.now.nodes))) [] [] (state_of c.args.walk.now)) _ (λ views. ap (λ made. gives (map reverse_data made) (state_of c.args.walk.now)) c.new-made.ensures) }

pub reverses_part-loop-held-preserved : goal.reverses_part-loop-held-preserved
reverses_part-loop-held-preserved g t c = record {
  stays = c.arriving_part.ensures.quads_stay ∙ c.loop-held.invariant.stays;
  path = c.in-Ok.ensures.path_stays ∙ c.loop-held.invariant.path;
  grows = omega (arith, c.in-Ok.ensures.grows, c.loop-held.invariant.grows);
  gained =
      goes_on (λ views. arriving_next views (embed views c.args.room) c.args.graph.now c.args.id.now (path_of c.args.walk.now) (above c.args.at (nested c.args.frame.now.nodes))) (λ views. arriving_part views (embed views c.args.room) c.args.graph.now c.args.id.now (path_of c.loop-held.walk) (c.held-item.result.property, (above c.args.at (nested c.args.frame.now.nodes)) c.held-item.result.frame) (state_of c.loop-held.walk)) (with_reverse c.held-item.result.property) [] (map reverse_data c.loop-held.made) (map reverse_data c.add_reverse.new.made) c.args.props.now c.loop-held.held-index c.held-item.result (state_of c.args.walk.now) (state_of c.loop-held.walk) (state_of c.arriving_part.new.walk) (map tree_data c.in-Ok.trees) (subst (λ xs. c.loop-held.held-index < length xs) c.as_slice-held-items.ensures c.loop-held-test.true)
      (subst (λ xs. c.held-item.result ≡ get_or xs c.loop-held.held-index c.held-item.result) c.as_slice-held-items.ensures c.held-item.is) c.loop-held.invariant.gained c.loop-held.invariant.stays c.in-Ok.ensures.run
      (same_by (g.N.Nodes.quads c.args.nodes.now) (c.held-item.result.property ∷ reversed_in ((above c.args.at (nested c.args.frame.now.nodes)) c.held-item.result.frame)) (in_reverses (build_reverses (above c.args.at (nested c.args.frame.now.nodes)) c.args.props.now)) (IsOfNode c.args.graph.now c.args.id.now) (IsOfNode c.args.graph.now c.args.id.now) (this_reverse_among (above c.args.at (nested c.args.frame.now.nodes)) c.args.props.now c.loop-held.held-index c.held-item.result (subst (λ xs. c.loop-held.held-index < length xs) c.as_slice-held-items.ensures c.loop-held-test.true) (subst (λ xs. c.held-item.result ≡ get_or xs c.loop-held.held-index c.held-item.result) c.as_slice-held-items.ensures c.held-item.is)) (λ x here. here))
      (λ views. ap (λ p. then (arriving_part views (embed views c.args.room) c.args.graph.now c.args.id.now p (c.held-item.result.property, (above c.args.at (nested c.args.frame.now.nodes)) c.held-item.result.frame) (state_of c.loop-held.walk)) (λ made then_state. gives (with_reverse c.held-item.result.property made (map reverse_data c.loop-held.made)) then_state)) c.loop-held.invariant.path ∙ arrives views (embed views c.args.room) c.args.graph.now c.args.id.now (path_of c.args.walk.now) (above c.args.at (nested c.args.frame.now.nodes)) (map reverse_data c.loop-held.made) c.held-item.result (state_of c.loop-held.walk))
      c.in_ok-add_reverse-in-Ok.ensures;
}

pub reverses_part-returns-in-Err-clause-run : goal.reverses_part-returns-in-Err-clause-run
reverses_part-returns-in-Err-clause-run g t c = goes_wrong (map tree_data) (map reverse_data) (λ views. arriving_next views (embed views c.args.room) c.args.graph.now c.args.id.now (path_of c.args.walk.now) (above c.args.at (nested c.args.frame.now.nodes))) (λ views. arriving_part views (embed views c.args.room) c.args.graph.now c.args.id.now (path_of c.loop-held.walk) (c.held-item.result.property, (above c.args.at (nested c.args.frame.now.nodes)) c.held-item.result.frame) (state_of c.loop-held.walk)) (λ views. reverses_part views (embed views c.args.room) c.args.graph.now c.args.id.now (path_of c.args.walk.now) (above c.args.at (nested c.args.frame.now.nodes)) c.args.props.now (state_of c.args.walk.now)) (with_reverse c.held-item.result.property) [] (map reverse_data c.loop-held.made) c.args.props.now c.loop-held.held-index c.held-item.result (state_of c.args.walk.now) (state_of c.loop-held.walk) (state_of c.arriving_part.new.walk) (state_of c.arriving_part.new.walk) c.in-Err.stop
    (subst (λ xs. c.loop-held.held-index < length xs) c.as_slice-held-items.ensures c.loop-held-test.true) (subst (λ xs. c.held-item.result ≡ get_or xs c.loop-held.held-index c.held-item.result) c.as_slice-held-items.ensures c.held-item.is) c.loop-held.invariant.gained c.loop-held.invariant.stays c.in-Err.ensures.run
    (same_by (g.N.Nodes.quads c.args.nodes.now) (c.held-item.result.property ∷ reversed_in ((above c.args.at (nested c.args.frame.now.nodes)) c.held-item.result.frame)) (in_reverses (build_reverses (above c.args.at (nested c.args.frame.now.nodes)) c.args.props.now)) (IsOfNode c.args.graph.now c.args.id.now) (IsOfNode c.args.graph.now c.args.id.now) (this_reverse_among (above c.args.at (nested c.args.frame.now.nodes)) c.args.props.now c.loop-held.held-index c.held-item.result (subst (λ xs. c.loop-held.held-index < length xs) c.as_slice-held-items.ensures c.loop-held-test.true) (subst (λ xs. c.held-item.result ≡ get_or xs c.loop-held.held-index c.held-item.result) c.as_slice-held-items.ensures c.held-item.is)) (λ x here. here))
    (λ views. ap (λ p. then (arriving_part views (embed views c.args.room) c.args.graph.now c.args.id.now p (c.held-item.result.property, (above c.args.at (nested c.args.frame.now.nodes)) c.held-item.result.frame) (state_of c.loop-held.walk)) (λ made then_state. gives (with_reverse c.held-item.result.property made (map reverse_data c.loop-held.made)) then_state)) c.loop-held.invariant.path ∙ arrives views (embed views c.args.room) c.args.graph.now c.args.id.now (path_of c.args.walk.now) (above c.args.at (nested c.args.frame.now.nodes)) (map reverse_data c.loop-held.made) c.held-item.result (state_of c.loop-held.walk))
    (λ views. refl)

pub reverses_part-returns-clause-run : goal.reverses_part-returns-clause-run
reverses_part-returns-clause-run g t c = comes_to_an_end (λ views. arriving_next views (embed views c.args.room) c.args.graph.now c.args.id.now (path_of c.args.walk.now) (above c.args.at (nested c.args.frame.now.nodes))) (λ views. reverses_part views (embed views c.args.room) c.args.graph.now c.args.id.now (path_of c.args.walk.now) (above c.args.at (nested c.args.frame.now.nodes)) c.args.props.now (state_of c.args.walk.now)) [] (map reverse_data c.loop-held.made) c.args.props.now c.loop-held.held-index (state_of c.args.walk.now) (state_of c.loop-held.walk) (omega (arith, ap length c.as_slice-held-items.ensures)) c.loop-held.invariant.gained (λ views. refl)
