-- What holds of matching and embedding.
use Rattle.std.specs.Prelude.{◌⊎◌, Some, ◌≡◌, ◌≢◌, List, ℕ, ◌+◌, ◌≤◌, Bool, true, false, is_some}
use Rattle.lf_rdf.specs.declared.term.Term.{Term}
use Rattle.lf_rdf.specs.declared.question.GraphRef.{GraphRef}
use Rattle.lf_rdf.specs.declared.question.GraphRef.TheVariants.{Named}
use Rattle.lf_model.specs.ValueData.{ListValue, ListValues, literal, reference, list}
use Rattle.lf_model.specs.TreeData.{TreeNode}
use Rattle.lf_model.specs.declared.document.Limit.TheVariants.{Depth}
use Rattle.lf_model.specs.declared.frame.Embed.TheVariants.{Once, Never}
use Rattle.lf_model.specs.declared.frame.IdTest.TheVariants as id_test
use Rattle.lf_model.specs.declared.frame.TypeTest.TheVariants as type_test
use Rattle.def_nested.specs.Nested.{Flags, Nested, Props, Reverses, Within, Kind, match_none, frame_map, no_props, prop, wild, node_frame, flags_of}
use Rattle.def_framing.specs.Views.{Views, Place, values_under}
use Rattle.def_framing.specs.Matching.{accepts, matches, is_empty}
use Rattle.def_framing.specs.Results.{State, gives, over, is_in, item_limit}
use Rattle.def_framing.specs.Steps.{enters}
use Rattle.def_framing.specs.Embedding.{embed, refer}
use Rattle.def_framing.specs.Items.{node_items}
use Rattle.def_framing.specs.Depths.{node_depth}
use Rattle.def_datasets.specs.Views.{View}
use Rattle.def_framing.specs.Outcome.{matched, outcome_in, depth_limit}

-- a wildcard accepts every value
abbrev pub WildAcceptsAll : Type 0
WildAcceptsAll =
    (views : Views) (graph : GraphRef) (flags : Flags) (props : Props) (reverses : Reverses)
    (within : Within)
    (held : ListValue) →
    accepts views graph (frame_map flags props reverses within wild) held ≡ true

-- a node frame accepts a reference where the node matches it, and a literal or a list never
abbrev pub NodeFrameAcceptsMatches : Type 0
NodeFrameAcceptsMatches =
    (views : Views) (graph : GraphRef) (flags : Flags) (props : Props) (reverses : Reverses)
    (within : Within) →
    ((id : Term) →
    accepts views graph (frame_map flags props reverses within node_frame) (reference id)
    ≡ matches views graph (frame_map flags props reverses within node_frame) id)
    × ((term : Term) →
    accepts views graph (frame_map flags props reverses within node_frame) (literal term)
    ≡ false)
    × ((items : ListValues) →
    accepts views graph (frame_map flags props reverses within node_frame) (list items)
    ≡ false)

-- a frame without entries matches every key, and nothing else
abbrev pub EmptyMatchesKeys : Type 0
EmptyMatchesKeys =
    (views : Views) (graph : GraphRef) (flags : Flags) (reverses : Reverses) (within : Within)
    (kind : Kind)
    (id : Term) → flags.ids ≡ id_test.Absent → flags.types ≡ type_test.Absent →
    matches views graph (frame_map flags no_props reverses within kind) id
    ≡ is_some (views.view graph id)

-- what matches is a key
abbrev pub MatchedIsKey : Type 0
MatchedIsKey =
    (views : Views) (graph : GraphRef) (form : Nested) (id : Term) →
    matches views graph form id ≡ true →
    is_some (views.view graph id) ≡ true

-- a frame asks that a property be absent
abbrev pub AsksAbsence : Props → List ℕ → Type 0
AsksAbsence no_props property = ⊥
AsksAbsence (prop name sub rest) property =
    ((name ≡ property) × (sub ≡ match_none)) ⊎ AsksAbsence rest property

-- a node that has a property with match-none is refused, whatever else the frame says
abbrev pub PresentIsRefused : Type 0
PresentIsRefused =
    (views : Views) (graph : GraphRef) (flags : Flags) (props : Props) (reverses : Reverses)
    (within : Within)
    (kind : Kind) (id : Term) (view : View) (property : List ℕ) → views.view graph id ≡ Some view →
    is_empty (values_under view property) ≡ false → AsksAbsence props property →
    matches views graph (frame_map flags props reverses within kind) id ≡ false

-- a node on the path is output as a reference, unless it is embedded free
abbrev pub PathIsLeftAlone : Type 0
PathIsLeftAlone =
    (views : Views) (room : ℕ) (graph : GraphRef) (id : Term) (form : Nested) (path : List Place)
    (state : State) →
    is_in path (record { graph = graph; id = id }) ≡ true →
    embed views room graph id form false path state ≡ refer id state

-- with `@once` a node that this tree has embedded is output as a reference, unless it is embedded
-- free
abbrev pub OnceIsOnce : Type 0
OnceIsOnce =
    (views : Views) (room : ℕ) (graph : GraphRef) (id : Term) (form : Nested) (path : List Place)
    (state : State) →
    (flags_of form).embed ≡ Once → is_in state.embedded (record { graph = graph; id = id }) ≡ true →
    embed views room graph id form false path state ≡ refer id state

-- with `@never` every node is, unless it is embedded free
abbrev pub NeverIsNever : Type 0
NeverIsNever =
    (views : Views) (room : ℕ) (graph : GraphRef) (id : Term) (form : Nested) (path : List Place)
    (state : State) →
    (flags_of form).embed ≡ Never → embed views room graph id form false path state ≡ refer id state

-- nodes are embedded free at the top and in a graph that is entered, and no node of such a graph is
-- on the path
abbrev pub EnteredGraphIsNew : Type 0
EnteredGraphIsNew =
    (views : Views) (graph : GraphRef) (name : Term) (form : Nested) (path : List Place)
    (id : Term) →
    enters views graph name form path ≡ true →
    is_in path (record { graph = Named name; id = id }) ≡ false

-- the count rises by the items of the output, and never past the limit
abbrev pub CountsItsItems : Type 0
CountsItsItems =
    (views : Views) (room : ℕ) (graph : GraphRef) (id : Term) (form : Nested) (free : Bool)
    (path : List Place)
    (before : State) (made : TreeNode) (after : State) →
    embed views room graph id form free path before ≡ gives made after →
    (after.count ≡ before.count + node_items made)
    × (before.count ≤ item_limit → after.count ≤ item_limit)

-- a tree has at most 65,536 items
abbrev pub TreeIsWithinLimit : Type 0
TreeIsWithinLimit =
    (views : Views) (form : Nested) (graph : GraphRef) (id : Term) (made : TreeNode) →
    outcome_in views form graph id ≡ matched made → node_items made ≤ item_limit

-- where the depth is no limit, more room changes nothing
abbrev pub RoomIsEnough : Type 0
RoomIsEnough =
    (views : Views) (room more : ℕ) (graph : GraphRef) (id : Term) (form : Nested) (free : Bool)
    (path : List Place)
    (state : State) → embed views room graph id form free path state ≢ over Depth →
    embed views (room + more) graph id form free path state
    ≡ embed views room graph id form free path state

-- a tree nests at most 256 nodes and a reference
abbrev pub TreeIsWithinDepth : Type 0
TreeIsWithinDepth =
    (views : Views) (form : Nested) (graph : GraphRef) (id : Term) (made : TreeNode) →
    outcome_in views form graph id ≡ matched made → node_depth made ≤ depth_limit + 1

-- nothing of a dataset counts but the views of its nodes
abbrev pub SameViewsSameTree : Type 0
SameViewsSameTree =
    (one two : Views) → ((graph : GraphRef) (id : Term) → one.view graph id ≡ two.view graph id) →
    ((graph : GraphRef) → one.keys graph ≡ two.keys graph) →
    ((graph : GraphRef) (property : List ℕ) (id : Term) →
    one.pointing graph property id ≡ two.pointing graph property id)
    → ((name : Term) → one.names_graph name ≡ two.names_graph name) →
    (form : Nested) (graph : GraphRef) (id : Term) →
    outcome_in one form graph id ≡ outcome_in two form graph id
