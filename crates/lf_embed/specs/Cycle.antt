-- What the functions of embedding give, where the definitions have no name for it (JSON-LD 1.1
-- Framing, section 4.2.3).
use Rattle.std.specs.Prelude.{List, [], ◌∷◌, ℕ, zero, suc, Bool, true, false, not, ◌&&◌, Option, Some, None}
use Rattle.lf_rdf.specs.declared.term.Term.{Term}
use Rattle.lf_rdf.specs.declared.question.GraphRef.{GraphRef}
use Rattle.lf_rdf.specs.declared.question.GraphRef.TheVariants.{Named}
use Rattle.lf_model.specs.declared.document.Limit.TheVariants.{Depth}
use Rattle.lf_model.specs.declared.frame.FrameReverse.{FrameReverse}
use Rattle.lf_model.specs.declared.value.Prop.{Prop}
use Rattle.lf_model.specs.declared.value.Value.{Value}
use Rattle.lf_model.specs.ValueBridge.{value_data}
use Rattle.lf_model.specs.ValueData.{ListValue, values_of}
use Rattle.lf_model.specs.TreeData.{TreeNode, TreeNodes, TreeEntry, TreeEntries, entries_of, list_entry}
use Rattle.lf_oracle.specs.NodeViews.{property_data}
use Rattle.def_nested.specs.Nested.{Nested, flags_of}
use Rattle.def_nested.specs.Unfolding.{Numbered}
use Rattle.def_datasets.specs.Views.{View, ViewProperty}
use Rattle.def_framing.specs.Embedding.{contents, embed, refer}
use Rattle.def_framing.specs.Matching.{accepts, matches}
use Rattle.def_framing.specs.Parts.{Embedding, emit, emit_all, reverse_next, with_property}
use Rattle.def_framing.specs.Results.{State, Result, choose, entered, gives, item, over, then, through}
use Rattle.def_framing.specs.Steps.{as_reference, is_output, item_frame, sub_for}
use Rattle.def_framing.specs.Views.{Views, Place}
use Rattle.lf_embed.specs.Made.{with_made}

-- the data of a property of a view
abbrev pub view_property : Prop → ViewProperty
view_property p = property_data p

-- a node is embedded by a view of it, in the room that the path has left
abbrev pub descend :
    Views → ℕ → GraphRef → Term → Nested → View → List Place → State → Result TreeNode
descend views zero graph id frame view path state = over Depth
descend views (suc room) graph id frame view path state =
    then (item state)
    (λ counted after.
    contents views (embed views room) graph id frame view (record { graph = graph; id = id } ∷ path)
    (entered (record { graph = graph; id = id }) after))

-- the same, or a reference
abbrev pub embed_viewed :
    Views → ℕ → GraphRef → Term → Nested → Bool → View → List Place → State → Result TreeNode
embed_viewed views room graph id frame free view path state =
    choose (not free
    && as_reference (flags_of frame).embed (record { graph = graph; id = id }) path state)
    (refer id)
    (descend views room graph id frame view path) state

-- an output where a test holds, and none otherwise
abbrev pub perhaps : {A : Type 0} → Bool → (State → Result A) → State → Result (Option A)
perhaps test made state = choose test
    (λ before. then (made before) (λ one after. gives (Some one) after)) (gives None) state

-- a node that a frame matches is embedded
abbrev pub matched :
    Views → Embedding → GraphRef → Nested → Bool → List Place → Term → State →
    Result (Option TreeNode)
matched views self graph frame free path id state =
    perhaps (matches views graph frame id) (self graph id frame free path) state

-- one more key joins the nodes before it, where the frame matches it
abbrev pub key_next :
    Views → Embedding → GraphRef → Nested → Bool → List Place → List TreeNode → Term → State →
    Result (List TreeNode)
key_next views self graph frame free path done id state =
    then (matched views self graph frame free path id state)
    (λ made after. gives (with_made made done) after)

-- those of these keys that a frame matches are embedded, in order
abbrev pub keys_part :
    Views → Embedding → GraphRef → Nested → Bool → List Place → List Term → State →
    Result (List TreeNode)
keys_part views self graph frame free path keys state =
    through (key_next views self graph frame free path) [] keys state

-- the nodes of the graph of this name
abbrev pub named_part :
    Views → Embedding → Term → Nested → List Place → State → Result (List TreeNode)
named_part views self name frame path state =
    keys_part views self (Named name) frame true path (views.keys (Named name)) state

-- a value that a frame accepts is output
abbrev pub emit_accepted :
    Views → Embedding → GraphRef → List Place → Nested → ListValue → State →
    Result (Option TreeEntry)
emit_accepted views self graph path frame held state =
    perhaps (accepts views graph frame held) (emit views self graph path frame held) state

-- one more value joins the outputs before it, where the frame accepts it
abbrev pub entry_next :
    Views → Embedding → GraphRef → List Place → Nested → List TreeEntry → Value → State →
    Result (List TreeEntry)
entry_next views self graph path frame done held state =
    then (emit_accepted views self graph path frame (value_data held) state)
    (λ made after. gives (with_made made done) after)

-- a list is counted, and its accepted items are output
abbrev pub emit_list :
    Views → Embedding → GraphRef → List Place → Nested → List ListValue → State →
    Result (Option TreeEntry)
emit_list views self graph path frame items state =
    then (item state)
    (λ counted before.
    then (emit_all views self graph path (item_frame frame) [] (values_of items) before)
    (λ entries after. gives (Some (list_entry (entries_of entries))) after))

-- the values of one property, or none where it is skipped
abbrev pub property_values :
    Views → Embedding → GraphRef → Nested → List Place → ViewProperty → State →
    Result (List TreeEntry)
property_values views self graph frame path held state =
    choose (is_output frame held.property)
    (emit_all views self graph path (sub_for frame held.property) [] (values_of held.values))
    (gives []) state

-- one more property joins those before it, where a value of it was output
abbrev pub property_next :
    Views → Embedding → GraphRef → Nested → List Place → List (List ℕ × TreeEntries) → Prop →
    State → Result (List (List ℕ × TreeEntries))
property_next views self graph frame path done held state =
    then (property_values views self graph frame path (view_property held) state)
    (λ entries after. gives (with_property held.property entries done) after)

-- the nodes that arrive by a reverse property
abbrev pub arriving_part :
    Views → Embedding → GraphRef → Term → List Place → List ℕ × Nested → State →
    Result (List TreeNode)
arriving_part views self graph id path held state =
    keys_part views self graph held.1 false path (views.pointing graph held.0 id) state

-- one more reverse property joins those before it, where a node arrives by it
abbrev pub arriving_next :
    Views → Embedding → GraphRef → Term → List Place → Numbered → List (List ℕ × TreeNodes) →
    FrameReverse → State → Result (List (List ℕ × TreeNodes))
arriving_next views self graph id path sub done held state =
    reverse_next views self graph id path done (held.property, sub held.frame) state

-- the reverse properties of a map
abbrev pub reverses_part :
    Views → Embedding → GraphRef → Term → List Place → Numbered → List FrameReverse → State →
    Result (List (List ℕ × TreeNodes))
reverses_part views self graph id path sub props state =
    through (arriving_next views self graph id path sub) [] props state
