-- What the keys of a map have given so far, and the sub-frame that they make (JSON-LD 1.1 Framing,
-- section 4.1).
use Rattle.std.specs.Prelude.{List, [], ◌∷◌, ℕ, Bool, true, false, Option, Some, None, Result, Ok, Err}
use Rattle.std.specs.Ordering.{match_ordering, nat_cmp}
use Rattle.std.specs.Cmp.Lexicographic.{slice_cmp}
use Rattle.lf_model.specs.declared.frame.ValuePattern.{ValuePattern}
use Rattle.lf_model.specs.declared.error.LdError.{LdError}
use Rattle.lf_model.specs.declared.error.LdError.TheVariants.{InvalidReverseValue}
use Rattle.def_nested.specs.Nested.{Flags, Nested, Props, Reverses, Within, Kind, match_none, frame_map, no_props, prop, no_reverses, reverse_prop, no_graph, in_graph, wild, node_frame, value_pattern, list_pattern, list_pattern_of, plain}
use Rattle.def_contexts.specs.ValuePatterns.{no_pattern}
use Rattle.def_contexts.specs.FrameKeys.{MapClass, value_map, list_map}
use Rattle.def_contexts.specs.Places.{Place}

-- what the keys read so far gave, and which keywords, properties and reverse properties they were
pub record Reading : Type 0 where
  pub flags : Flags
  pub props : Props
  pub reverses : Reverses
  pub within : Within
  pub pattern : ValuePattern
  pub item : Option Nested
  pub keywords : List (List ℕ)
  pub properties : List (List ℕ)
  pub reversed : List (List ℕ)
  pub flags_alone : Bool

abbrev pub unread : Reading
unread =
    record {
      flags = plain;
      props = no_props;
      reverses = no_reverses;
      within = no_graph;
      pattern = no_pattern;
      item = None;
      keywords = [];
      properties = [];
      reversed = [];
      flags_alone = true;
    }

-- how the value of a key is read as a sub-frame at a place
abbrev pub Reader : Type 0
Reader = Place → Result (Option Nested) LdError

-- how the value of `@reverse` is read
abbrev pub ReverseReader : Type 0
ReverseReader = Reading → Result Reading LdError

-- a property in its place in byte order
abbrev pub put_prop : List ℕ → Nested → Props → Props
put_prop iri sub no_props = prop iri sub no_props
put_prop iri sub (prop own other rest) =
    match_ordering (slice_cmp nat_cmp iri own) (prop iri sub (prop own other rest))
    (prop iri sub rest)
    (prop own other (put_prop iri sub rest))

abbrev pub put_reverse : List ℕ → Nested → Reverses → Reverses
put_reverse iri sub no_reverses = reverse_prop iri sub no_reverses
put_reverse iri sub (reverse_prop own other rest) =
    match_ordering (slice_cmp nat_cmp iri own) (reverse_prop iri sub (reverse_prop own other rest))
    (reverse_prop iri sub rest) (reverse_prop own other (put_reverse iri sub rest))

-- a property that null dropped is given and adds nothing
abbrev pub with_property : List ℕ → Option Nested → Reading → Reading
with_property iri (Some sub) reading =
    record reading {
      props = put_prop iri sub reading.props;
      properties = iri ∷ reading.properties;
      flags_alone = false;
    }
with_property iri None reading = record reading { properties = iri ∷ reading.properties }

abbrev pub with_reverse : List ℕ → Option Nested → Reading → Result Reading LdError
with_reverse iri (Some sub) reading =
    Ok (record reading {
      reverses = put_reverse iri sub reading.reverses;
      reversed = iri ∷ reading.reversed;
      flags_alone = false;
    })
with_reverse iri None reading = Err InvalidReverseValue

abbrev pub within_found : Option Nested → Within
within_found (Some sub) = in_graph sub
within_found None = no_graph

-- the item of a list pattern; match-none gives none
abbrev pub item_found : Option Nested → Option Nested
item_found (Some match_none) = None
item_found (Some (frame_map flags props reverses within kind)) =
    Some (frame_map flags props reverses within kind)
item_found None = None

abbrev pub list_kind : Option Nested → Kind
list_kind (Some sub) = list_pattern_of sub
list_kind None = list_pattern

-- a map of flags and `@default` alone is wild
abbrev pub node_kind : Bool → Kind
node_kind true = wild
node_kind false = node_frame

abbrev pub kind_of : MapClass → Reading → Kind
kind_of value_map reading = value_pattern reading.pattern
kind_of list_map reading = list_kind reading.item
kind_of _ reading = node_kind reading.flags_alone

-- the sub-frame of a map whose keys are read
abbrev pub frame_read : MapClass → Reading → Nested
frame_read class reading =
    frame_map reading.flags reading.props reading.reverses reading.within (kind_of class reading)
