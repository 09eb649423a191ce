-- When a node is output as a reference, and when its graph is entered (JSON-LD 1.1 Framing, section
-- 2: the object embed flag and named graphs).
use Rattle.std.specs.Prelude.{List, [], ◌∷◌, ℕ, Bool, true, false, not, cond, ◌&&◌, ◌||◌, Option, Some, None, unwrap_or, is_some}
use Rattle.std.specs.List.{list_any}
use Rattle.lf_rdf.specs.declared.term.Term.{Term}
use Rattle.lf_rdf.specs.declared.question.GraphRef.{GraphRef}
use Rattle.lf_rdf.specs.declared.question.GraphRef.TheVariants.{Default, Named, Merged}
use Rattle.lf_rdf.specs.Equality.{text_eq}
use Rattle.lf_model.specs.declared.frame.Embed.{Embed}
use Rattle.lf_model.specs.declared.frame.Embed.TheVariants.{Once, Always, Never}
use Rattle.lf_model.specs.declared.frame.TypeTest.{TypeTest}
use Rattle.lf_model.specs.declared.frame.TypeTest.TheVariants as type_test
use Rattle.def_nested.specs.Nested.{Flags, Nested, Within, match_none, frame_map, no_graph, in_graph, wild, node_frame, value_pattern, list_pattern, list_pattern_of, plain, wildcard, flags_of, props_of, within_of, props_list}
use Rattle.def_datasets.specs.Views.{View}
use Rattle.def_framing.specs.Views.{Views, Place, graph_eq}
use Rattle.def_framing.specs.Results.{State, is_in}

-- a node that isn't embedded free is output as a reference: always, where it is on the path, or
-- where it was embedded
abbrev pub as_reference : Embed → Place → List Place → State → Bool
as_reference Never here path state = true
as_reference Always here path state = is_in path here
as_reference Once here path state = is_in path here || is_in state.embedded here

abbrev pub is_merged : GraphRef → Bool
is_merged Merged = true
is_merged Default = false
is_merged (Named _) = false

abbrev pub has_graph : Within → Bool
has_graph no_graph = false
has_graph (in_graph _) = true

-- no step of the path lies in the graph of this name
abbrev pub is_outside : List Place → Term → Bool
is_outside path name = not (list_any (λ step. graph_eq (Named name) step.graph) path)

-- the graph that a node names is entered: once on a path, and from the merged graph only where the
-- frame has `@graph`
abbrev pub enters : Views → GraphRef → Term → Nested → List Place → Bool
enters views graph id frame path =
    views.names_graph id && is_outside path id
    && (has_graph (within_of frame) || not (is_merged graph))

-- the frame for the nodes of that graph: that of `@graph`, or a wildcard
abbrev pub graph_frame : Within → Nested
graph_frame (in_graph sub) = sub
graph_frame no_graph = wildcard plain

-- the sub-frame of a property in a list of them
abbrev pub sub_at : List ℕ → List (List ℕ × Nested) → Option Nested
sub_at property [] = None
sub_at property (entry ∷ rest) =
    cond (text_eq entry.0 property) (Some entry.1) (sub_at property rest)

-- the sub-frame that a frame states for a property
abbrev pub stated : Nested → List ℕ → Option Nested
stated frame property = sub_at property (props_list (props_of frame))

-- for a property that it doesn't state: a wildcard with the frame's own flags
abbrev pub inherited : Flags → Nested
inherited flags =
    wildcard
    (record plain
    { embed = flags.embed; explicit = flags.explicit; require_all = flags.require_all })

-- the sub-frame by which a property's values are output
abbrev pub sub_for : Nested → List ℕ → Nested
sub_for frame property = unwrap_or (stated frame property) (inherited (flags_of frame))

-- with `@explicit` a property that the frame doesn't state is skipped
abbrev pub is_output : Nested → List ℕ → Bool
is_output frame property = not (flags_of frame).explicit || is_some (stated frame property)

-- the frame for the items of a list: the item pattern, a wildcard, or the wild sub-frame itself
abbrev pub item_frame : Nested → Nested
item_frame match_none = match_none
item_frame (frame_map _ _ _ _ (list_pattern_of item)) = item
item_frame (frame_map _ _ _ _ list_pattern) = wildcard plain
item_frame (frame_map flags props reverses within wild) = frame_map flags props reverses within wild
item_frame (frame_map flags props reverses within node_frame) =
    frame_map flags props reverses within node_frame
item_frame (frame_map flags props reverses within (value_pattern pattern)) =
    frame_map flags props reverses within (value_pattern pattern)

-- a node without types takes the frame's type default
abbrev pub types_by : TypeTest → List Term → List Term
types_by (type_test.Fallback types) [] = types
types_by (type_test.Fallback _) (first ∷ rest) = first ∷ rest
types_by type_test.Absent types = types
types_by type_test.Any types = types
types_by type_test.Never types = types
types_by (type_test.OneOf _) types = types

-- the first that is stated, else false
abbrev pub first_stated : Option Bool → Option Bool → Bool
first_stated (Some omit) other = omit
first_stated None (Some omit) = omit
first_stated None None = false

-- a property takes no default: by its sub-frame's `@omitDefault` where stated, else by the frame's
abbrev pub is_omitted : Nested → Nested → Bool
is_omitted frame sub = first_stated (flags_of sub).omit_default (flags_of frame).omit_default

-- what is no key has no types and no properties
abbrev pub seen : Term → Option View → View
seen id (Some view) = view
seen id None = record { id = id; types = []; props = [] }
