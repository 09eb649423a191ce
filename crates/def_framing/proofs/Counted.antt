-- Embedding counts the items of its output, within the limit.
use Rattle.std.proofs.Common.{◌≡◌, ℕ, zero, suc, ◌+◌, ◌≤◌, Bool, true, false, not, ◌&&◌, List, [], ◌∷◌, ◌++◌, filter, Option, Some, None, subst, arith}
use Rattle.lf_rdf.specs.declared.term.Term.{Term}
use Rattle.lf_rdf.specs.declared.question.GraphRef.{GraphRef}
use Rattle.lf_rdf.specs.declared.question.GraphRef.TheVariants.{Named}
use Rattle.lf_model.specs.declared.frame.DefaultValue.{DefaultValue}
use Rattle.lf_model.specs.declared.frame.DefaultValue.TheVariants.{Null}
use Rattle.lf_model.specs.ValueData.{ListValue, literal, reference, list, ListValues, no_values, value, values_of}
use Rattle.lf_model.specs.TreeData.{TreeNode, TreeEntry, TreeEntries, fallback_entry, entries_of}
use Rattle.def_datasets.specs.Views.{View, ViewProperty}
use Rattle.def_nested.specs.Nested.{Nested, flags_of, within_of, reverse_props_of, reverses_list, props_of, props_list}
use Rattle.def_framing.specs.Views.{Views, Place}
use Rattle.def_framing.specs.Matching.{accepts, matches}
use Rattle.def_framing.specs.Results.{State, Result, gives, over, item, item_limit, entered, at_first}
use Rattle.def_framing.specs.Steps.{enters, graph_frame, sub_for, is_output, item_frame, as_reference, seen}
use Rattle.def_framing.specs.Parts.{Embedding, embed_next, embed_all, entered_keys, graph_part, emit, emit_all, with_property, value_next, value_part, fallback_next, default_entries, takes_default, default_next, default_part, with_reverse, arriving, reverse_next, reverse_part}
use Rattle.def_framing.specs.Embedding.{Descent, embed, refer, contents, inside, outer, no_room}
use Rattle.def_framing.specs.Items.{node_items, nodes_items, entry_items, entries_items, properties_items, reverses_items}
use Rattle.def_framing.specs.Outcome.{Outcome, not_key, no_match, matched, past, outcome_of_result, outcome_of_key, outcome_of_view, depth_limit}
use Rattle.def_framing.specs.Laws.{CountsItsItems, TreeIsWithinLimit}
use Rattle.def_framing.proofs.Counting.{Rises, Adds, rises_none, rises_entered, rises_then, rises_to, then_adds, through_adds, choose_adds, item_adds}
use Rattle.def_framing.proofs.Sizes.{nodes_size, entries_size, properties_size, reverses_size, nodes-append, entries-append, properties-append, property-added, reverse-added}

-- a function that embeds nodes counts their items
abbrev pub Counts : Embedding → Type 0
Counts self =
    (graph : GraphRef) (id : Term) (form : Nested) (free : Bool) (path : List Place) (before : State) →
    Adds node_items before (self graph id form free path before)

pub embed_all_adds :
    (self : Embedding) → Counts self → (graph : GraphRef) (form : Nested) (free : Bool) (path : List Place)
    (ids : List Term) (before : State) → Adds nodes_size before (embed_all self graph form free path ids before)
unfolding nodes_items
embed_all_adds self counts graph form free path ids before =
    through_adds nodes_size before (embed_next self graph form free path)
    (λ done id later h.
    then_adds node_items nodes_size before later (self graph id form free path later) _
    (counts graph id form free path later)
    (λ made after k.
    rises_to before later after (nodes_size done) (node_items made) (nodes_size (done ++ made ∷ []))
    (nodes-append done made) h k))
    ids [] before (rises_none before)

pub graph_part_adds :
    (views : Views) (self : Embedding) → Counts self → (graph : GraphRef) (id : Term) (form : Nested)
    (path : List Place) (before : State) → Adds nodes_size before (graph_part views self graph id form path before)
unfolding nodes_items
graph_part_adds views self counts graph id form path before =
    choose_adds nodes_size before before (enters views graph id form path)
    (embed_all self (Named id) (graph_frame (within_of form)) true path
    (entered_keys views id (graph_frame (within_of form))))
    (gives [])
    (λ e. embed_all_adds self counts (Named id) (graph_frame (within_of form)) true path _ before)
    (rises_none before)

mutual
  unfolding emit emit_all entry_items entries_items

  pub emit_adds :
      (views : Views) (self : Embedding) → Counts self → (graph : GraphRef) (path : List Place) (form : Nested)
      (held : ListValue) (before : State) → Adds entry_items before (emit views self graph path form held before)
  emit_adds views self counts graph path form (literal term) before =
      then_adds (λ counted. 1) entry_items before before _ _ (item_adds before) (λ counted after h. h)
  emit_adds views self counts graph path form (reference id) before =
      then_adds node_items entry_items before before (self graph id form false path before) _
      (counts graph id form false path before) (λ made after h. h)
  emit_adds views self counts graph path form (list items) before =
      then_adds (λ counted. 1) entry_items before before _ _ (item_adds before)
      (λ counted later h.
      then_adds entries_size entry_items before later (emit_all views self graph path (item_frame form) [] items later) _
      (emit_all_adds views self counts graph path (item_frame form) items [] later later (rises_none later))
      (λ made after k. rises_then before later after 1 (entries_size made) h k))

  pub emit_all_adds :
      (views : Views) (self : Embedding) → Counts self → (graph : GraphRef) (path : List Place) (form : Nested)
      (items : ListValues) (done : List TreeEntry) (base before : State) → Rises base (entries_size done) before →
      Adds entries_size base (emit_all views self graph path form done items before)
  emit_all_adds views self counts graph path form no_values done base before h = h
  emit_all_adds views self counts graph path form (value first rest) done base before h =
      then_adds entries_size entries_size base base _ _
      (choose_adds entries_size base before (accepts views graph form first) _ (gives done)
      (λ e.
      then_adds entry_items entries_size base before (emit views self graph path form first before) _
      (emit_adds views self counts graph path form first before)
      (λ made after k.
      rises_to base before after (entries_size done) (entry_items made) (entries_size (done ++ made ∷ []))
      (entries-append done made) h k))
      h)
      (λ made after k. emit_all_adds views self counts graph path form rest made base after k)

pub value_part_adds :
    (views : Views) (self : Embedding) → Counts self → (graph : GraphRef) (form : Nested) (path : List Place)
    (props : List ViewProperty) (before : State) →
    Adds properties_size before (value_part views self graph form path props before)
unfolding properties_items entries_items
value_part_adds views self counts graph form path props before =
    through_adds properties_size before (value_next views self graph form path)
    (λ done held later h.
    then_adds entries_size properties_size before later
    (emit_all views self graph path (sub_for form held.property) [] (values_of held.values) later) _
    (emit_all_adds views self counts graph path (sub_for form held.property) (values_of held.values) [] later later
    (rises_none later))
    (λ made after k.
    rises_to before later after (properties_size done) (entries_size made)
    (properties_size (with_property held.property made done)) (property-added held.property made done) h k))
    (filter (λ held. is_output form held.property) props) [] before (rises_none before)

fallback_adds :
    (done : List TreeEntry) (held : DefaultValue) (base before : State) → Rises base (entries_size done) before →
    Adds entries_size base (fallback_next done held before)
unfolding entry_items entries_items
fallback_adds done held base before h =
    then_adds (λ counted. 1) entries_size base before (item before) _ (item_adds before)
    (λ counted after k.
    rises_to base before after (entries_size done) 1 (entries_size (done ++ fallback_entry held ∷ []))
    (entries-append done (fallback_entry held)) h k)

default_entries_adds :
    (held : Option (List DefaultValue)) (before : State) → Adds entries_size before (default_entries held before)
unfolding entry_items entries_items
default_entries_adds None before = fallback_adds [] Null before before (rises_none before)
default_entries_adds (Some []) before = rises_none before
default_entries_adds (Some (first ∷ rest)) before =
    through_adds entries_size before fallback_next (λ done one later h. fallback_adds done one before later h)
    (first ∷ rest) [] before (rises_none before)

-- one more property has the items of its values
default-added :
    (iri : List ℕ) (made : List TreeEntry) (done : List (List ℕ × TreeEntries)) →
    properties_size (done ++ (iri, entries_of made) ∷ []) ≡ properties_size done + entries_size made
unfolding properties_items entries_items
default-added iri made done = rw (properties-append done ((iri, entries_of made) ∷ [])) (omega arith)

pub default_part_adds :
    (form : Nested) (outputs : List (List ℕ × TreeEntries)) (before : State) →
    Adds properties_size before (default_part form outputs before)
unfolding properties_items entries_items
default_part_adds form outputs before =
    through_adds properties_size before default_next
    (λ done held later h.
    then_adds entries_size properties_size before later (default_entries (flags_of held.1).fallback later) _
    (default_entries_adds (flags_of held.1).fallback later)
    (λ made after k.
    rises_to before later after (properties_size done) (entries_size made)
    (properties_size (done ++ (held.0, entries_of made) ∷ [])) (default-added held.0 made done) h k))
    (filter (takes_default form outputs) (props_list (props_of form))) [] before (rises_none before)

pub reverse_part_adds :
    (views : Views) (self : Embedding) → Counts self → (graph : GraphRef) (id : Term) (form : Nested)
    (path : List Place) (before : State) → Adds reverses_size before (reverse_part views self graph id form path before)
unfolding reverses_items nodes_items
reverse_part_adds views self counts graph id form path before =
    through_adds reverses_size before (reverse_next views self graph id path)
    (λ done held later h.
    then_adds nodes_size reverses_size before later
    (embed_all self graph held.1 false path (arriving views graph id held) later) _
    (embed_all_adds self counts graph held.1 false path (arriving views graph id held) later)
    (λ made after k.
    rises_to before later after (reverses_size done) (nodes_size made) (reverses_size (with_reverse held.0 made done))
    (reverse-added held.0 made done) h k))
    (reverses_list (reverse_props_of form)) [] before (rises_none before)

pub contents_adds :
    (views : Views) (self : Embedding) → Counts self → (graph : GraphRef) (id : Term) (form : Nested) (view : View)
    (path : List Place) (base before : State) → Rises base 1 before →
    Adds node_items base (contents views self graph id form view path before)
unfolding node_items
contents_adds views self counts graph id form view path base before first =
    then_adds nodes_size node_items base before (graph_part views self graph id form path before) _
    (graph_part_adds views self counts graph id form path before)
    (λ nodes one h.
    then_adds properties_size node_items base one (value_part views self graph form path view.props one) _
    (value_part_adds views self counts graph form path view.props one)
    (λ values two k.
    then_adds properties_size node_items base two (default_part form values two) _ (default_part_adds form values two)
    (λ defaults three m.
    then_adds reverses_size node_items base three (reverse_part views self graph id form path three) _
    (reverse_part_adds views self counts graph id form path three)
    (λ reverses after r.
    rises_then base before after 1
    (nodes_size nodes + (properties_size (values ++ defaults) + reverses_size reverses)) first
    (rises_then before one after (nodes_size nodes) (properties_size (values ++ defaults) + reverses_size reverses) h
    (rises_then one three after (properties_size (values ++ defaults)) (reverses_size reverses)
    (rises_to one two three (properties_size values) (properties_size defaults)
    (properties_size (values ++ defaults)) (properties-append values defaults) k m)
    r))))))

refer_adds : (id : Term) (before : State) → Adds node_items before (refer id before)
unfolding node_items nodes_items properties_items reverses_items
refer_adds id before =
    then_adds (λ counted. 1) node_items before before (item before) _ (item_adds before) (λ counted after h. h)

-- what embeds a node that isn't a reference counts its items
abbrev DescentCounts : Descent → Type 0
DescentCounts descent =
    (graph : GraphRef) (id : Term) (form : Nested) (path : List Place) (before : State) →
    Adds node_items before (descent graph id form path before)

inside_adds : (views : Views) (self : Embedding) → Counts self → DescentCounts (inside views self)
unfolding node_items
inside_adds views self counts graph id form path before =
    then_adds (λ counted. 1) node_items before before (item before) _ (item_adds before)
    (λ counted after h.
    contents_adds views self counts graph id form (seen id (views.view graph id))
    (record { graph = graph; id = id } ∷ path) before (entered (record { graph = graph; id = id }) after)
    (rises_entered before after 1 (record { graph = graph; id = id }) h))

outer_adds : (descent : Descent) → DescentCounts descent → Counts (outer descent)
outer_adds descent counts graph id form free path before =
    choose_adds node_items before before
    (not free && as_reference (flags_of form).embed (record { graph = graph; id = id }) path before) (refer id)
    (descent graph id form path) (λ e. refer_adds id before) (counts graph id form path before)

pub embed_adds : (views : Views) (room : ℕ) → Counts (embed views room)
unfolding embed
embed_adds views zero = outer_adds no_room (λ graph id form path before. tt)
embed_adds views (suc room) = outer_adds (inside views (embed views room)) (inside_adds views _ (embed_adds views room))

-- what is known of a result that gives an output
adds_gives :
    {A : Type 0} (size : A → ℕ) (before : State) (result : Result A) (made : A) (after : State) → result ≡ gives made after →
    Adds size before result → Rises before (size made) after
adds_gives size before result made after e h = subst (Adds size before) e h

pub counts_items : CountsItsItems
counts_items views room graph id form free path before made after e =
    let h : Rises before (node_items made) after =
    adds_gives node_items before _ made after e (embed_adds views room graph id form free path before)
    in
    (h.count, h.within)

-- a tree is within the limit
abbrev IsWithin : Outcome → Type 0
IsWithin not_key = Unit {0}
IsWithin no_match = Unit {0}
IsWithin (matched made) = node_items made ≤ item_limit
IsWithin (past limit) = Unit {0}

result_within : (result : Result TreeNode) → Adds node_items at_first result → IsWithin (outcome_of_result result)
result_within (gives made after) h =
    let count : after.count ≡ 0 + node_items made = h.count in
    let fits : after.count ≤ item_limit = h.within (omega arith) in
    omega arith
result_within (over limit) h = tt

-- a tree's items are counted from none
pub tree_within : TreeIsWithinLimit
tree_within views form graph id made e = subst IsWithin e (of_view (views.view graph id))
  where
    of_key : (test : Bool) → IsWithin (outcome_of_key views form graph id test)
    of_key true = result_within _ (embed_adds views depth_limit graph id form true [] at_first)
    of_key false = tt

    of_view : (seen : Option View) → IsWithin (outcome_of_view views form graph id seen)
    of_view None = tt
    of_view (Some view) = of_key (matches views graph form id)
