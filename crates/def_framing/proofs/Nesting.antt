-- A tree nests no more node objects than the path has room for, and a reference.
use Rattle.std.proofs.Common.{ℕ, zero, suc, ◌+◌, ◌≤◌, max, Bool, true, false, not, ◌&&◌, List, [], ◌∷◌, ◌++◌, filter, Option, Some, None, subst, nat_lt, le_trans, le_refl, zero-le, add-le-add, one-add}
use Rattle.std.proofs.Math.Nat.{max-le, le-max_left, le-max_right}
use Rattle.lf_rdf.specs.declared.term.Term.{Term}
use Rattle.lf_rdf.specs.declared.question.GraphRef.{GraphRef}
use Rattle.lf_rdf.specs.declared.question.GraphRef.TheVariants.{Named}
use Rattle.lf_model.specs.declared.frame.DefaultValue.{DefaultValue}
use Rattle.lf_model.specs.declared.frame.DefaultValue.TheVariants.{Null}
use Rattle.lf_model.specs.ValueData.{ListValue, literal, reference, list, ListValues, no_values, value, values_of}
use Rattle.lf_model.specs.TreeData.{TreeNode, TreeNodes, TreeEntry, TreeEntries, fallback_entry, nodes_of, entries_of, properties_of, reverses_of}
use Rattle.def_datasets.specs.Views.{View, ViewProperty}
use Rattle.def_nested.specs.Nested.{Nested, flags_of, within_of, reverse_props_of, reverses_list, props_of, props_list}
use Rattle.def_framing.specs.Views.{Views, Place}
use Rattle.def_framing.specs.Matching.{accepts, matches}
use Rattle.def_framing.specs.Results.{State, Result, gives, over, then, through, choose, item, more, item_limit, entered, at_first}
use Rattle.def_framing.specs.Steps.{enters, graph_frame, sub_for, is_output, item_frame, as_reference, seen}
use Rattle.def_framing.specs.Parts.{Embedding, embed_next, embed_all, entered_keys, graph_part, emit, emit_all, with_property, value_next, value_part, fallback_next, default_entries, takes_default, default_next, default_part, with_reverse, arriving, reverse_next, reverse_part}
use Rattle.def_framing.specs.Embedding.{Descent, embed, refer, contents, inside, outer, no_room}
use Rattle.def_framing.specs.Depths.{node_depth, nodes_depth, entry_depth, entries_depth, properties_depth, reverses_depth}
use Rattle.def_framing.specs.Outcome.{Outcome, not_key, no_match, matched, past, outcome_of_result, outcome_of_key, outcome_of_view, depth_limit}
use Rattle.def_framing.specs.Laws.{TreeIsWithinDepth}

-- a result's output nests no deeper than a bound
abbrev pub Nests : {A : Type 0} → (A → ℕ) → ℕ → Result A → Type 0
Nests depth bound (gives made after) = depth made ≤ bound
Nests depth bound (over limit) = Unit {0}

then_nests :
    {A B : Type 0} (part : A → ℕ) (depth : B → ℕ) (low bound : ℕ) (first : Result A) (next : A → State → Result B) →
    Nests part low first → ((made : A) (after : State) → part made ≤ low → Nests depth bound (next made after)) →
    Nests depth bound (then first next)
then_nests part depth low bound (gives made after) next h k = k made after h
then_nests part depth low bound (over limit) next h k = tt

through_nests :
    {A B : Type 0} (depth : B → ℕ) (bound : ℕ) (step : B → A → State → Result B) →
    ((done : B) (one : A) (before : State) → depth done ≤ bound → Nests depth bound (step done one before)) →
    (rest : List A) (done : B) (before : State) → depth done ≤ bound → Nests depth bound (through step done rest before)
through_nests depth bound step each [] done before h = h
through_nests depth bound step each (one ∷ rest) done before h =
    then_nests depth depth bound bound (step done one before) (λ more later. through step more rest later)
    (each done one before h) (λ made after k. through_nests depth bound step each rest made after k)

choose_nests :
    {A : Type 0} (depth : A → ℕ) (bound : ℕ) (test : Bool) (one two : State → Result A) (before : State) →
    Nests depth bound (one before) → Nests depth bound (two before) → Nests depth bound (choose test one two before)
choose_nests depth bound true one two before h k = h
choose_nests depth bound false one two before h k = k

-- an item is no output
item_nests : (bound : ℕ) (before : State) → Nests (λ counted. 0) bound (item before)
item_nests bound before = counted (nat_lt before.count item_limit)
  where
    counted : (test : Bool) → Nests (λ counted. 0) bound (more test before)
    counted true = zero-le
    counted false = tt

max_first : (one two bound : ℕ) → max one two ≤ bound → one ≤ bound
max_first one two bound h = le_trans (le-max_left one two) h

max_second : (one two bound : ℕ) → max one two ≤ bound → two ≤ bound
max_second one two bound h = le_trans (le-max_right one two) h

abbrev nodes_high : List TreeNode → ℕ
nodes_high nodes = nodes_depth (nodes_of nodes)

abbrev entries_high : List TreeEntry → ℕ
entries_high entries = entries_depth (entries_of entries)

abbrev properties_high : List (List ℕ × TreeEntries) → ℕ
properties_high props = properties_depth (properties_of props)

abbrev reverses_high : List (List ℕ × TreeNodes) → ℕ
reverses_high props = reverses_depth (reverses_of props)

nodes_high-append :
    (bound : ℕ) (done : List TreeNode) (made : TreeNode) → nodes_high done ≤ bound → node_depth made ≤ bound →
    nodes_high (done ++ made ∷ []) ≤ bound
unfolding node_depth
nodes_high-append bound [] made h k = max-le k h
nodes_high-append bound (first ∷ rest) made h k =
    max-le (max_first (node_depth first) (nodes_high rest) bound h)
    (nodes_high-append bound rest made (max_second (node_depth first) (nodes_high rest) bound h) k)

entries_high-append :
    (bound : ℕ) (done : List TreeEntry) (made : TreeEntry) → entries_high done ≤ bound → entry_depth made ≤ bound →
    entries_high (done ++ made ∷ []) ≤ bound
unfolding node_depth
entries_high-append bound [] made h k = max-le k h
entries_high-append bound (first ∷ rest) made h k =
    max-le (max_first (entry_depth first) (entries_high rest) bound h)
    (entries_high-append bound rest made (max_second (entry_depth first) (entries_high rest) bound h) k)

properties_high-append :
    (bound : ℕ) (one two : List (List ℕ × TreeEntries)) → properties_high one ≤ bound → properties_high two ≤ bound →
    properties_high (one ++ two) ≤ bound
unfolding node_depth
properties_high-append bound [] two h k = k
properties_high-append bound (first ∷ rest) two h k =
    max-le (max_first (entries_depth first.1) (properties_high rest) bound h)
    (properties_high-append bound rest two (max_second (entries_depth first.1) (properties_high rest) bound h) k)

reverses_high-append :
    (bound : ℕ) (one two : List (List ℕ × TreeNodes)) → reverses_high one ≤ bound → reverses_high two ≤ bound →
    reverses_high (one ++ two) ≤ bound
unfolding node_depth
reverses_high-append bound [] two h k = k
reverses_high-append bound (first ∷ rest) two h k =
    max-le (max_first (nodes_depth first.1) (reverses_high rest) bound h)
    (reverses_high-append bound rest two (max_second (nodes_depth first.1) (reverses_high rest) bound h) k)

property_high-added :
    (bound : ℕ) (iri : List ℕ) (made : List TreeEntry) (done : List (List ℕ × TreeEntries)) →
    properties_high done ≤ bound → entries_high made ≤ bound → properties_high (with_property iri made done) ≤ bound
unfolding node_depth
property_high-added bound iri [] done h k = h
property_high-added bound iri (first ∷ rest) done h k =
    properties_high-append bound done ((iri, entries_of (first ∷ rest)) ∷ []) h (max-le k zero-le)

reverse_high-added :
    (bound : ℕ) (iri : List ℕ) (made : List TreeNode) (done : List (List ℕ × TreeNodes)) →
    reverses_high done ≤ bound → nodes_high made ≤ bound → reverses_high (with_reverse iri made done) ≤ bound
unfolding node_depth
reverse_high-added bound iri [] done h k = h
reverse_high-added bound iri (first ∷ rest) done h k =
    reverses_high-append bound done ((iri, nodes_of (first ∷ rest)) ∷ []) h (max-le k zero-le)

-- a function that embeds nodes nests them no deeper than a bound
abbrev pub NestsAll : ℕ → Embedding → Type 0
NestsAll bound self =
    (graph : GraphRef) (id : Term) (form : Nested) (free : Bool) (path : List Place) (before : State) →
    Nests node_depth bound (self graph id form free path before)

embed_all_nests :
    (bound : ℕ) (self : Embedding) → NestsAll bound self → (graph : GraphRef) (form : Nested) (free : Bool)
    (path : List Place) (ids : List Term) (before : State) →
    Nests nodes_high bound (embed_all self graph form free path ids before)
unfolding node_depth
embed_all_nests bound self nests graph form free path ids before =
    through_nests nodes_high bound (embed_next self graph form free path)
    (λ done id later h.
    then_nests node_depth nodes_high bound bound (self graph id form free path later) _
    (nests graph id form free path later) (λ made after k. nodes_high-append bound done made h k))
    ids [] before zero-le

graph_part_nests :
    (bound : ℕ) (views : Views) (self : Embedding) → NestsAll bound self → (graph : GraphRef) (id : Term)
    (form : Nested) (path : List Place) (before : State) →
    Nests nodes_high bound (graph_part views self graph id form path before)
unfolding node_depth
graph_part_nests bound views self nests graph id form path before =
    choose_nests nodes_high bound (enters views graph id form path)
    (embed_all self (Named id) (graph_frame (within_of form)) true path
    (entered_keys views id (graph_frame (within_of form))))
    (gives []) before
    (embed_all_nests bound self nests (Named id) (graph_frame (within_of form)) true path
    (entered_keys views id (graph_frame (within_of form))) before)
    zero-le

mutual
  unfolding emit emit_all node_depth

  emit_nests :
      (bound : ℕ) (views : Views) (self : Embedding) → NestsAll bound self → (graph : GraphRef) (path : List Place)
      (form : Nested) (held : ListValue) (before : State) →
      Nests entry_depth bound (emit views self graph path form held before)
  emit_nests bound views self nests graph path form (literal term) before =
      then_nests (λ counted. 0) entry_depth bound bound (item before) _ (item_nests bound before)
      (λ counted after h. zero-le)
  emit_nests bound views self nests graph path form (reference id) before =
      then_nests node_depth entry_depth bound bound (self graph id form false path before) _
      (nests graph id form false path before) (λ made after h. h)
  emit_nests bound views self nests graph path form (list items) before =
      then_nests (λ counted. 0) entry_depth bound bound (item before) _ (item_nests bound before)
      (λ counted later h.
      then_nests entries_high entry_depth bound bound
      (emit_all views self graph path (item_frame form) [] items later) _
      (emit_all_nests bound views self nests graph path (item_frame form) items [] later zero-le)
      (λ made after k. k))

  emit_all_nests :
      (bound : ℕ) (views : Views) (self : Embedding) → NestsAll bound self → (graph : GraphRef) (path : List Place)
      (form : Nested) (items : ListValues) (done : List TreeEntry) (before : State) → entries_high done ≤ bound →
      Nests entries_high bound (emit_all views self graph path form done items before)
  emit_all_nests bound views self nests graph path form no_values done before h = h
  emit_all_nests bound views self nests graph path form (value first rest) done before h =
      then_nests entries_high entries_high bound bound _ _
      (choose_nests entries_high bound (accepts views graph form first) _ (gives done) before
      (then_nests entry_depth entries_high bound bound (emit views self graph path form first before) _
      (emit_nests bound views self nests graph path form first before)
      (λ made after k. entries_high-append bound done made h k))
      h)
      (λ made after k. emit_all_nests bound views self nests graph path form rest made after k)

value_part_nests :
    (bound : ℕ) (views : Views) (self : Embedding) → NestsAll bound self → (graph : GraphRef) (form : Nested)
    (path : List Place) (props : List ViewProperty) (before : State) →
    Nests properties_high bound (value_part views self graph form path props before)
unfolding node_depth
value_part_nests bound views self nests graph form path props before =
    through_nests properties_high bound (value_next views self graph form path)
    (λ done held later h.
    then_nests entries_high properties_high bound bound
    (emit_all views self graph path (sub_for form held.property) [] (values_of held.values) later) _
    (emit_all_nests bound views self nests graph path (sub_for form held.property) (values_of held.values) [] later zero-le)
    (λ made after k. property_high-added bound held.property made done h k))
    (filter (λ held. is_output form held.property) props) [] before zero-le

fallback_nests :
    (bound : ℕ) (done : List TreeEntry) (held : DefaultValue) (before : State) → entries_high done ≤ bound →
    Nests entries_high bound (fallback_next done held before)
unfolding node_depth
fallback_nests bound done held before h =
    then_nests (λ counted. 0) entries_high bound bound (item before) _ (item_nests bound before)
    (λ counted after k. entries_high-append bound done (fallback_entry held) h zero-le)

default_entries_nests :
    (bound : ℕ) (held : Option (List DefaultValue)) (before : State) →
    Nests entries_high bound (default_entries held before)
unfolding node_depth
default_entries_nests bound None before = fallback_nests bound [] Null before zero-le
default_entries_nests bound (Some []) before = max-le zero-le zero-le
default_entries_nests bound (Some (first ∷ rest)) before =
    through_nests entries_high bound fallback_next (λ done one later h. fallback_nests bound done one later h)
    (first ∷ rest) [] before zero-le

default_part_nests :
    (bound : ℕ) (form : Nested) (outputs : List (List ℕ × TreeEntries)) (before : State) →
    Nests properties_high bound (default_part form outputs before)
unfolding node_depth
default_part_nests bound form outputs before =
    through_nests properties_high bound default_next
    (λ done held later h.
    then_nests entries_high properties_high bound bound (default_entries (flags_of held.1).fallback later) _
    (default_entries_nests bound (flags_of held.1).fallback later)
    (λ made after k. properties_high-append bound done ((held.0, entries_of made) ∷ []) h (max-le k zero-le)))
    (filter (takes_default form outputs) (props_list (props_of form))) [] before zero-le

reverse_part_nests :
    (bound : ℕ) (views : Views) (self : Embedding) → NestsAll bound self → (graph : GraphRef) (id : Term)
    (form : Nested) (path : List Place) (before : State) →
    Nests reverses_high bound (reverse_part views self graph id form path before)
unfolding node_depth
reverse_part_nests bound views self nests graph id form path before =
    through_nests reverses_high bound (reverse_next views self graph id path)
    (λ done held later h.
    then_nests nodes_high reverses_high bound bound
    (embed_all self graph held.1 false path (arriving views graph id held) later) _
    (embed_all_nests bound self nests graph held.1 false path (arriving views graph id held) later)
    (λ made after k. reverse_high-added bound held.0 made done h k))
    (reverses_list (reverse_props_of form)) [] before zero-le

contents_nests :
    (bound : ℕ) (views : Views) (self : Embedding) → NestsAll bound self → (graph : GraphRef) (id : Term)
    (form : Nested) (view : View) (path : List Place) (before : State) →
    Nests node_depth (1 + bound) (contents views self graph id form view path before)
unfolding node_depth
contents_nests bound views self nests graph id form view path before =
    then_nests nodes_high node_depth bound (1 + bound) (graph_part views self graph id form path before) _
    (graph_part_nests bound views self nests graph id form path before)
    (λ nodes one h.
    then_nests properties_high node_depth bound (1 + bound) (value_part views self graph form path view.props one) _
    (value_part_nests bound views self nests graph form path view.props one)
    (λ values two k.
    then_nests properties_high node_depth bound (1 + bound) (default_part form values two) _
    (default_part_nests bound form values two)
    (λ defaults three m.
    then_nests reverses_high node_depth bound (1 + bound) (reverse_part views self graph id form path three) _
    (reverse_part_nests bound views self nests graph id form path three)
    (λ reverses after r.
    add-le-add (le_refl 1) (max-le h (max-le (properties_high-append bound values defaults k m) r))))))

refer_nests : (bound : ℕ) (id : Term) (before : State) → Nests node_depth (1 + bound) (refer id before)
unfolding node_depth
refer_nests bound id before =
    then_nests (λ counted. 0) node_depth bound (1 + bound) (item before) _ (item_nests bound before)
    (λ counted after h. add-le-add (le_refl 1) (max-le zero-le (max-le zero-le zero-le)))

outer_nests :
    (bound : ℕ) (descent : Descent) →
    ((graph : GraphRef) (id : Term) (form : Nested) (path : List Place) (before : State) →
    Nests node_depth (1 + bound) (descent graph id form path before))
    → NestsAll (1 + bound) (outer descent)
outer_nests bound descent nests graph id form free path before =
    choose_nests node_depth (1 + bound)
    (not free && as_reference (flags_of form).embed (record { graph = graph; id = id }) path before) (refer id)
    (descent graph id form path) before (refer_nests bound id before) (nests graph id form path before)

inside_nests :
    (bound : ℕ) (views : Views) (self : Embedding) → NestsAll bound self → (graph : GraphRef) (id : Term)
    (form : Nested) (path : List Place) (before : State) →
    Nests node_depth (1 + bound) (inside views self graph id form path before)
unfolding node_depth
inside_nests bound views self nests graph id form path before =
    then_nests (λ counted. 0) node_depth bound (1 + bound) (item before) _ (item_nests bound before)
    (λ counted after h.
    contents_nests bound views self nests graph id form (seen id (views.view graph id))
    (record { graph = graph; id = id } ∷ path) (entered (record { graph = graph; id = id }) after))

pub embed_nests : (views : Views) (room : ℕ) → NestsAll (1 + room) (embed views room)
unfolding embed
embed_nests views zero = outer_nests 0 no_room (λ graph id form path before. tt)
embed_nests views (suc room) =
    outer_nests (suc room) (inside views (embed views room))
    (inside_nests (suc room) views (embed views room)
    (λ graph id form free path before. rw one-add at (embed_nests views room graph id form free path before)))

-- a tree's nodes are on a path from none
abbrev IsWithin : Outcome → Type 0
IsWithin not_key = Unit {0}
IsWithin no_match = Unit {0}
IsWithin (matched made) = node_depth made ≤ depth_limit + 1
IsWithin (past limit) = Unit {0}

result_within : (result : Result TreeNode) → Nests node_depth (1 + 256) result → IsWithin (outcome_of_result result)
result_within (gives made after) h = h
result_within (over limit) h = tt

pub tree_depth : TreeIsWithinDepth
tree_depth views form graph id made e = subst IsWithin e (of_view (views.view graph id))
  where
    of_key : (test : Bool) → IsWithin (outcome_of_key views form graph id test)
    of_key true = result_within _ (embed_nests views 256 graph id form true [] at_first)
    of_key false = tt

    of_view : (seen : Option View) → IsWithin (outcome_of_view views form graph id seen)
    of_view None = tt
    of_view (Some view) = of_key (matches views graph form id)
