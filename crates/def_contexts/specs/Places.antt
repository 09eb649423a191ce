-- Where a sub-frame stands (JSON-LD 1.1 Framing, section 4.1).
use Rattle.std.specs.Prelude.{[], ◌∷◌, Bool, true, false, ◌&&◌, Option, Some, None, Result, Ok, Err}
use Rattle.lf_model.specs.declared.table.TermTable.{TermTable}
use Rattle.lf_model.specs.declared.table.TermDef.{TermDef}
use Rattle.lf_model.specs.declared.table.Container.{Container}
use Rattle.lf_model.specs.declared.table.Container.TheVariants as container
use Rattle.lf_model.specs.declared.scalar.Scalar.{Scalar}
use Rattle.lf_model.specs.declared.frame.IdTest.TheVariants as id_test
use Rattle.lf_model.specs.declared.error.LdError.{LdError}
use Rattle.lf_model.specs.declared.error.LdError.TheVariants.{InvalidFrame, InvalidReverseValue}
use Rattle.lf_model.specs.JsonData.{JsonValue, array}
use Rattle.def_nested.specs.Nested.{Nested, Kind, match_none, frame_map, no_props, no_reverses, no_graph, wild, node_frame, value_pattern, list_pattern, list_pattern_of, plain, wildcard}
use Rattle.def_contexts.specs.Outcomes.{◌>>=◌}
use Rattle.def_contexts.specs.GivenValues.{Given, reference, plain_value, given}
use Rattle.def_contexts.specs.ValuePatterns.{pattern_of}

-- a sub-frame is the value of a property, the item of a list pattern, or the value of `@graph` or
-- of a reverse property; the top frame is none
pub data Place : Type 0 where
  of_property : Option TermDef → Place
  of_item : Option TermDef → Place
  of_graph : Place
  of_reverse : Place
  of_top : Place

-- the term under which a value stands
abbrev pub term_at : Place → Option TermDef
term_at (of_property term) = term
term_at (of_item term) = term
term_at _ = None

-- the error of a value that can't stand at a place
abbrev pub place_error : Place → LdError
place_error of_reverse = InvalidReverseValue
place_error _ = InvalidFrame

-- whether a place takes maps alone
abbrev pub takes_maps_alone : Place → Bool
takes_maps_alone (of_property term) = false
takes_maps_alone (of_item term) = false
takes_maps_alone _ = true

-- whether `@default` may stand in a map at a place
abbrev pub takes_default : Place → Bool
takes_default (of_property term) = true
takes_default (of_item term) = true
takes_default _ = false

abbrev pub is_language_container : Container → Bool
is_language_container container.Language = true
is_language_container container.LanguageSet = true
is_language_container _ = false

-- whether the values of a place stand under a term with the container `@language`
abbrev pub under_language : Option TermDef → Bool
under_language (Some d) = is_language_container d.container
under_language None = false

-- the list pattern that holds an item pattern
abbrev pub list_holding : Nested → Nested
list_holding sub = frame_map plain no_props no_reverses no_graph (list_pattern_of sub)

abbrev pub list_unless_list : Nested → Kind → Nested
list_unless_list sub wild = sub
list_unless_list sub list_pattern = sub
list_unless_list sub (list_pattern_of _) = sub
list_unless_list sub node_frame = list_holding sub
list_unless_list sub (value_pattern _) = list_holding sub

-- a sub-frame under a term with the container `@list` is the item of a list pattern, unless it is
-- match-none, wild or a list pattern
abbrev pub as_list : Nested → Nested
as_list match_none = match_none
as_list (frame_map flags props reverses within kind) =
    list_unless_list (frame_map flags props reverses within kind) kind

abbrev pub in_container : Container → Nested → Nested
in_container container.List sub = as_list sub
in_container _ sub = sub

-- a sub-frame as the value of its property
abbrev pub placed : Place → Nested → Nested
placed (of_property (Some d)) sub = in_container d.container sub
placed _ sub = sub

-- null drops a property, and gives no item
abbrev pub null_at : Place → Result (Option Nested) LdError
null_at (of_property term) = Ok None
null_at (of_item term) = Ok None
null_at place = Err (place_error place)

-- the empty array is match-none for a property, and the empty map elsewhere
abbrev pub empty_at : Place → Nested
empty_at (of_property term) = match_none
empty_at (of_item term) = match_none
empty_at _ = wildcard plain

-- a text, number or truth value as a sub-frame: a node frame of one id, or a value pattern of one
-- value
abbrev pub frame_of_given : Given → Nested
frame_of_given (reference node) =
    frame_map (record plain { ids = id_test.OneOf (node ∷ []) }) no_props no_reverses no_graph
    node_frame
frame_of_given (plain_value s datatype language) =
    frame_map plain no_props no_reverses no_graph (value_pattern (pattern_of s datatype language))

abbrev pub scalar_under :
    TermTable → Option TermDef → Scalar → Place → Result (Option Nested) LdError
scalar_under table term s place = do
  g ← given table term s
  Ok (Some (placed place (frame_of_given g)))

abbrev pub scalar_at : TermTable → Scalar → Place → Result (Option Nested) LdError
scalar_at table s (of_property term) = scalar_under table term s (of_property term)
scalar_at table s (of_item term) = scalar_under table term s (of_item term)
scalar_at table s place = Err (place_error place)

abbrev pub is_array : JsonValue → Bool
is_array (array items) = true
is_array _ = false

-- an array in an array, where maps alone are taken
abbrev pub is_array_too_deep : Place → JsonValue → Bool
is_array_too_deep place value = takes_maps_alone place && is_array value
