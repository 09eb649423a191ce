-- The parts of an embedded node, over a function that embeds a node by a frame
-- (JSON-LD 1.1 Framing, section 4: the framing algorithm).
use Rattle.std.specs.Prelude.{List, [], ◌∷◌, ◌++◌, ℕ, Bool, true, false, not, ◌&&◌, Option, Some, None, filter}
use Rattle.std.specs.List.{list_any}
use Rattle.lf_rdf.specs.declared.term.Term.{Term}
use Rattle.lf_rdf.specs.declared.question.GraphRef.{GraphRef}
use Rattle.lf_rdf.specs.declared.question.GraphRef.TheVariants.{Named}
use Rattle.lf_rdf.specs.Equality.{text_eq}
use Rattle.lf_model.specs.declared.frame.DefaultValue.{DefaultValue}
use Rattle.lf_model.specs.declared.frame.DefaultValue.TheVariants.{Null}
use Rattle.lf_model.specs.ValueData.{ListValue, literal, reference, list, ListValues, no_values, value, values_of}
use Rattle.lf_model.specs.TreeData.{TreeNode, TreeNodes, TreeEntry, node_entry, literal_entry, list_entry, fallback_entry, empty_fallback, TreeEntries, nodes_of, entries_of}
use Rattle.def_nested.specs.Nested.{Nested, flags_of, props_of, reverse_props_of, within_of, props_list, reverses_list}
use Rattle.def_datasets.specs.Views.{ViewProperty}
use Rattle.def_framing.specs.Views.{Views, Place}
use Rattle.def_framing.specs.Matching.{accepts, matches}
use Rattle.def_framing.specs.Results.{State, Result, gives, then, through, choose, item}
use Rattle.def_framing.specs.Steps.{enters, graph_frame, sub_for, is_output, item_frame, is_omitted}

-- a node of a graph is embedded by a frame, free or not, with the steps of the path and the state
-- before
abbrev pub Embedding : Type 0
Embedding = GraphRef → Term → Nested → Bool → List Place → State → Result TreeNode

-- one more node of a graph is embedded
abbrev pub embed_next :
    Embedding → GraphRef → Nested → Bool → List Place → List TreeNode → Term → State →
    Result (List TreeNode)
embed_next self graph frame free path done id state =
    then (self graph id frame free path state) (λ made after. gives (done ++ made ∷ []) after)

-- nodes of one graph are embedded one after another
abbrev pub embed_all :
    Embedding → GraphRef → Nested → Bool → List Place → List Term → State → Result (List TreeNode)
embed_all self graph frame free path ids state =
    through (embed_next self graph frame free path) [] ids state

-- the keys of the graph of this name that match its frame
abbrev pub entered_keys : Views → Term → Nested → List Term
entered_keys views name sub = filter (matches views (Named name) sub) (views.keys (Named name))

-- the named graph: where it is entered, its keys that match are embedded free in it
abbrev pub graph_part :
    Views → Embedding → GraphRef → Term → Nested → List Place → State → Result (List TreeNode)
graph_part views self graph id frame path state =
    choose (enters views graph id frame path)
    (embed_all self (Named id) (graph_frame (within_of frame)) true path
    (entered_keys views id (graph_frame (within_of frame))))
    (gives []) state

unfoldable mutual
  -- a value that the sub-frame accepts: a literal as it is, a reference by embedding it, a list
  -- with its accepted items
  pub emit :
      Views → Embedding → GraphRef → List Place → Nested → ListValue → State → Result TreeEntry
  emit views self graph path frame (literal term) state =
      then (item state) (λ counted after. gives (literal_entry term) after)
  emit views self graph path frame (reference id) state =
      then (self graph id frame false path state) (λ made after. gives (node_entry made) after)
  emit views self graph path frame (list items) state =
      then (item state)
      (λ counted before. then (emit_all views self graph path (item_frame frame) [] items before)
      (λ entries after. gives (list_entry (entries_of entries)) after))

  -- the values that a frame accepts are output one after another
  pub emit_all :
      Views → Embedding → GraphRef → List Place → Nested → List TreeEntry → ListValues → State →
      Result (List TreeEntry)
  emit_all views self graph path frame done no_values state = gives done state
  emit_all views self graph path frame done (value first rest) state =
      then
      (choose (accepts views graph frame first)
      (λ before.
      then (emit views self graph path frame first before)
      (λ made after. gives (done ++ made ∷ []) after))
      (gives done) state)
      (λ more after. emit_all views self graph path frame more rest after)

-- a property joins those that were output where a value of it was
abbrev pub with_property :
    List ℕ → List TreeEntry → List (List ℕ × TreeEntries) → List (List ℕ × TreeEntries)
with_property property [] done = done
with_property property (first ∷ rest) done = done ++ (property, entries_of (first ∷ rest)) ∷ []

-- one more property of the node, with the values that its sub-frame accepts
abbrev pub value_next :
    Views → Embedding → GraphRef → Nested → List Place → List (List ℕ × TreeEntries) →
    ViewProperty → State →
    Result (List (List ℕ × TreeEntries))
value_next views self graph frame path done held state =
    then (emit_all views self graph path (sub_for frame held.property) [] (values_of held.values)
    state)
    (λ entries after. gives (with_property held.property entries done) after)

-- the properties: each property of the node that isn't skipped, in order
abbrev pub value_part :
    Views → Embedding → GraphRef → Nested → List Place → List ViewProperty → State →
    Result (List (List ℕ × TreeEntries))
value_part views self graph frame path props state =
    through (value_next views self graph frame path) []
    (filter (λ held. is_output frame held.property) props) state

-- one more default value
abbrev pub fallback_next : List TreeEntry → DefaultValue → State → Result (List TreeEntry)
fallback_next done held state =
    then (item state) (λ counted after. gives (done ++ fallback_entry held ∷ []) after)

-- the default values of a property: null without `@default`, and an empty array for an empty one
abbrev pub default_entries : Option (List DefaultValue) → State → Result (List TreeEntry)
default_entries None state = fallback_next [] Null state
default_entries (Some []) state = gives (empty_fallback ∷ []) state
default_entries (Some (first ∷ rest)) state = through fallback_next [] (first ∷ rest) state

-- a property was output
abbrev pub is_there : List (List ℕ × TreeEntries) → List ℕ → Bool
is_there outputs property = list_any (λ made. text_eq made.0 property) outputs

-- a property of the frame takes its default: no value was output, and it isn't omitted
abbrev pub takes_default : Nested → List (List ℕ × TreeEntries) → List ℕ × Nested → Bool
takes_default frame outputs held = not (is_there outputs held.0) && not (is_omitted frame held.1)

-- one more property with its default values
abbrev pub default_next :
    List (List ℕ × TreeEntries) → List ℕ × Nested → State → Result (List (List ℕ × TreeEntries))
default_next done held state =
    then (default_entries (flags_of held.1).fallback state)
    (λ entries after. gives (done ++ (held.0, entries_of entries) ∷ []) after)

-- the defaults: each property of the frame that takes its default, in order
abbrev pub default_part :
    Nested → List (List ℕ × TreeEntries) → State → Result (List (List ℕ × TreeEntries))
default_part frame outputs state =
    through default_next [] (filter (takes_default frame outputs) (props_list (props_of frame)))
    state

-- a property of `@reverse` joins those that were output where a node was
abbrev pub with_reverse :
    List ℕ → List TreeNode → List (List ℕ × TreeNodes) → List (List ℕ × TreeNodes)
with_reverse property [] done = done
with_reverse property (first ∷ rest) done = done ++ (property, nodes_of (first ∷ rest)) ∷ []

-- the keys that have a reference to the node and match a sub-frame
abbrev pub arriving : Views → GraphRef → Term → List ℕ × Nested → List Term
arriving views graph id held = filter (matches views graph held.1) (views.pointing graph held.0 id)

-- one more reverse property, with the nodes that have this one under it
abbrev pub reverse_next :
    Views → Embedding → GraphRef → Term → List Place → List (List ℕ × TreeNodes) → List ℕ × Nested →
    State →
    Result (List (List ℕ × TreeNodes))
reverse_next views self graph id path done held state =
    then (embed_all self graph held.1 false path (arriving views graph id held) state)
    (λ nodes after. gives (with_reverse held.0 nodes done) after)

-- the reverse part: each property of `@reverse`, in order
abbrev pub reverse_part :
    Views → Embedding → GraphRef → Term → Nested → List Place → State →
    Result (List (List ℕ × TreeNodes))
reverse_part views self graph id frame path state =
    through (reverse_next views self graph id path) [] (reverses_list (reverse_props_of frame))
    state
