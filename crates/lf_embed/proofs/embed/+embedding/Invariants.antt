use Rattle.std.proofs.Common.{◌≡◌, ◌≤◌, ◌+◌, ◌-◌, ◌*◌, [], map, take, Some}
use Rattle.lf_model.specs.ValueBridge.{value_data}
use Rattle.lf_model.specs.TreeBridge.{entry_data, property_data, reverse_data, tree_data}
use Rattle.lf_oracle.specs.Nearby.{IsOfNode}
use Rattle.lf_match.specs.NearNodes.{IsOfValues}
use Rattle.def_nested.specs.Unfolding.{above, build_reverses, nested}
use Rattle.def_framing.specs.Embedding.{embed}
use Rattle.def_framing.specs.Nearness.{in_reverses, reversed_in}
use Rattle.def_framing.specs.Results.{gives, through}
use Rattle.lf_embed.specs.Cycle.{arriving_next, entry_next, key_next, property_next, view_property}
use Rattle.lf_embed.specs.Embeds.{Embeds, IsOfKeys, IsOfProps}
use Rattle.lf_embed.specs.Forms.{form_of}
use Rattle.lf_embed.specs.Walks.{path_of, state_of}
use Rattle.lf_embed.proofs.embed.+embedding.Given as goal

abbrev pub decreases-embed : goal.decreases-embed
decreases-embed g l = 20 * (65536 - (state_of l.walk.now).count) + 1

abbrev pub decreases-embed_viewed : goal.decreases-embed_viewed
decreases-embed_viewed g l = 20 * (65536 - (state_of l.walk.now).count) + 1

abbrev pub decreases-descend : goal.decreases-descend
decreases-descend g l = 20 * (65536 - (state_of l.walk.now).count) + 0

abbrev pub decreases-contents : goal.decreases-contents
decreases-contents g l = 20 * (65536 - (state_of l.walk.now).count) + 11

abbrev pub decreases-graph_part : goal.decreases-graph_part
decreases-graph_part g l = 20 * (65536 - (state_of l.walk.now).count) + 6

abbrev pub decreases-named_part : goal.decreases-named_part
decreases-named_part g l = 20 * (65536 - (state_of l.walk.now).count) + 5

abbrev pub decreases-keys_part : goal.decreases-keys_part
decreases-keys_part g l = 20 * (65536 - (state_of l.walk.now).count) + 3

abbrev pub decreases-matched : goal.decreases-matched
decreases-matched g l = 20 * (65536 - (state_of l.walk.now).count) + 2

abbrev pub decreases-value_part : goal.decreases-value_part
decreases-value_part g l = 20 * (65536 - (state_of l.walk.now).count) + 10

abbrev pub decreases-property_values : goal.decreases-property_values
decreases-property_values g l = 20 * (65536 - (state_of l.walk.now).count) + 9

abbrev pub decreases-emit_all : goal.decreases-emit_all
decreases-emit_all g l = 20 * (65536 - (state_of l.walk.now).count) + 8

abbrev pub decreases-emit_accepted : goal.decreases-emit_accepted
decreases-emit_accepted g l = 20 * (65536 - (state_of l.walk.now).count) + 6

abbrev pub decreases-emit_list : goal.decreases-emit_list
decreases-emit_list g l = 20 * (65536 - (state_of l.walk.now).count) + 0

abbrev pub decreases-emit_reference : goal.decreases-emit_reference
decreases-emit_reference g l = 20 * (65536 - (state_of l.walk.now).count) + 4

abbrev pub decreases-reverse_part : goal.decreases-reverse_part
decreases-reverse_part g l = 20 * (65536 - (state_of l.walk.now).count) + 7

abbrev pub decreases-reverses_part : goal.decreases-reverses_part
decreases-reverses_part g l = 20 * (65536 - (state_of l.walk.now).count) + 6

abbrev pub decreases-arriving_part : goal.decreases-arriving_part
decreases-arriving_part g l = 20 * (65536 - (state_of l.walk.now).count) + 4

abbrev pub invariant-keys_part-loop-id : goal.invariant-keys_part-loop-id
invariant-keys_part-loop-id g l =
    record {
      stays : g.N.Nodes.quads l.nodes ≡ g.N.Nodes.quads l.initial.nodes;
      path : path_of l.walk ≡ path_of l.initial.walk;
      grows : (state_of l.initial.walk).count ≤ (state_of l.walk).count;
      gained :
          Embeds (g.N.Nodes.quads l.initial.nodes) (g.N.Nodes.told l.initial.nodes) (g.N.Nodes.told l.nodes) l.initial.steps l.steps
          (reversed_in (form_of l.frame.nodes l.form)) (IsOfKeys l.graph l.keys)
          (λ views. through (key_next views (embed views l.room) l.graph (form_of l.frame.nodes l.form) l.free (path_of l.initial.walk)) [] (take l.id-index l.keys) (state_of l.initial.walk)) (Some (gives (map tree_data l.trees) (state_of l.walk)));
    }

abbrev pub invariant-value_part-loop-held : goal.invariant-value_part-loop-held
invariant-value_part-loop-held g l =
    record {
      stays : g.N.Nodes.quads l.nodes ≡ g.N.Nodes.quads l.initial.nodes;
      path : path_of l.walk ≡ path_of l.initial.walk;
      grows : (state_of l.initial.walk).count ≤ (state_of l.walk).count;
      gained :
          Embeds (g.N.Nodes.quads l.initial.nodes) (g.N.Nodes.told l.initial.nodes) (g.N.Nodes.told l.nodes) l.initial.steps l.steps
          (reversed_in (form_of l.frame.nodes l.form)) (IsOfProps l.graph (map view_property l.props))
          (λ views. through (property_next views (embed views l.room) l.graph (form_of l.frame.nodes l.form) (path_of l.initial.walk)) [] (take l.held-index l.props) (state_of l.initial.walk)) (Some (gives (map property_data l.made) (state_of l.walk)));
    }

abbrev pub invariant-emit_all-loop-value : goal.invariant-emit_all-loop-value
invariant-emit_all-loop-value g l =
    record {
      stays : g.N.Nodes.quads l.nodes ≡ g.N.Nodes.quads l.initial.nodes;
      path : path_of l.walk ≡ path_of l.initial.walk;
      grows : (state_of l.initial.walk).count ≤ (state_of l.walk).count;
      gained :
          Embeds (g.N.Nodes.quads l.initial.nodes) (g.N.Nodes.told l.initial.nodes) (g.N.Nodes.told l.nodes) l.initial.steps l.steps
          (reversed_in (form_of l.frame.nodes l.form)) (IsOfValues l.graph (map value_data l.values))
          (λ views. through (entry_next views (embed views l.room) l.graph (path_of l.initial.walk) (form_of l.frame.nodes l.form)) [] (take l.value-index l.values) (state_of l.initial.walk)) (Some (gives (map entry_data l.entries) (state_of l.walk)));
    }

abbrev pub invariant-reverses_part-loop-held : goal.invariant-reverses_part-loop-held
invariant-reverses_part-loop-held g l =
    record {
      stays : g.N.Nodes.quads l.nodes ≡ g.N.Nodes.quads l.initial.nodes;
      path : path_of l.walk ≡ path_of l.initial.walk;
      grows : (state_of l.initial.walk).count ≤ (state_of l.walk).count;
      gained :
          Embeds (g.N.Nodes.quads l.initial.nodes) (g.N.Nodes.told l.initial.nodes) (g.N.Nodes.told l.nodes) l.initial.steps l.steps
          (in_reverses (build_reverses (above l.at (nested l.frame.nodes)) l.props)) (IsOfNode l.graph l.id)
          (λ views. through (arriving_next views (embed views l.room) l.graph l.id (path_of l.initial.walk) (above l.at (nested l.frame.nodes))) [] (take l.held-index l.props) (state_of l.initial.walk)) (Some (gives (map reverse_data l.made) (state_of l.walk)));
    }
