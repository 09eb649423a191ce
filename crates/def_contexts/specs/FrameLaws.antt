-- Laws of frames.
use Rattle.std.specs.Prelude.{◌≡◌, List, ℕ, Bool, true, false, ◌&&◌, Ok, Err, IsTrue, codes, Some}
use Rattle.std.specs.Ordering.{is_lt, nat_cmp}
use Rattle.std.specs.Cmp.Lexicographic.{slice_cmp}
use Rattle.lf_model.specs.declared.error.LdError.{LdError}
use Rattle.lf_model.specs.declared.error.LdError.TheVariants as ld
use Rattle.lf_model.specs.JsonData.{JsonValue, JsonMembers, array, object, no_items, item}
use Rattle.def_nested.specs.Nested.{Nested, Props, Reverses, Within, Kind, match_none, frame_map, no_props, prop, no_reverses, reverse_prop, no_graph, in_graph, wild, node_frame, value_pattern, list_pattern, list_pattern_of}
use Rattle.def_contexts.specs.Members.{value_of}
use Rattle.def_contexts.specs.Table.{table_of}
use Rattle.def_contexts.specs.Frames.{FrameMeaning, frame_of}

-- an IRI stands before all properties that follow
abbrev pub precedes : List ℕ → Props → Bool
precedes iri no_props = true
precedes iri (prop own sub rest) = is_lt (slice_cmp nat_cmp iri own) && precedes iri rest

abbrev pub precedes_reverses : List ℕ → Reverses → Bool
precedes_reverses iri no_reverses = true
precedes_reverses iri (reverse_prop own sub rest) =
    is_lt (slice_cmp nat_cmp iri own) && precedes_reverses iri rest

-- a sub-frame that is no match-none
abbrev pub is_map : Nested → Bool
is_map match_none = false
is_map (frame_map _ _ _ _ _) = true

-- a map without properties, reverse properties and `@graph`
abbrev pub is_bare : Props → Reverses → Within → Bool
is_bare no_props no_reverses no_graph = true
is_bare _ _ _ = false

-- only a node frame has these
abbrev pub fits_kind : Kind → Props → Reverses → Within → Bool
fits_kind node_frame _ _ _ = true
fits_kind _ props reverses within = is_bare props reverses within

-- A nested frame as frames give it: at each level properties are in byte order without repeats,
-- patterns and wildcards have none, and match-none stands for properties alone
abbrev mutual
  pub is_sound : Nested → Bool
  is_sound match_none = true
  is_sound (frame_map flags props reverses within kind) =
      are_sound props && are_sound_reverses reverses && is_sound_within within && is_sound_kind kind
      && fits_kind kind props reverses within

  pub are_sound : Props → Bool
  are_sound no_props = true
  are_sound (prop iri sub rest) = precedes iri rest && is_sound sub && are_sound rest

  pub are_sound_reverses : Reverses → Bool
  are_sound_reverses no_reverses = true
  are_sound_reverses (reverse_prop iri sub rest) =
      precedes_reverses iri rest && is_map sub && is_sound sub && are_sound_reverses rest

  pub is_sound_within : Within → Bool
  is_sound_within no_graph = true
  is_sound_within (in_graph sub) = is_map sub && is_sound sub

  pub is_sound_kind : Kind → Bool
  is_sound_kind wild = true
  is_sound_kind node_frame = true
  is_sound_kind (value_pattern pattern) = true
  is_sound_kind list_pattern = true
  is_sound_kind (list_pattern_of sub) = is_map sub && is_sound sub

-- the nested frame of a frame is sound
abbrev pub FramesAreSound : Type 0
FramesAreSound =
    (frame : JsonValue) (f : FrameMeaning) → frame_of frame ≡ Ok f → IsTrue (is_sound f.nested)

-- the terms of a frame are those of its context
abbrev pub FrameTermsAreItsContexts : Type 0
FrameTermsAreItsContexts =
    (frame : JsonValue) (f : FrameMeaning) → frame_of frame ≡ Ok f → table_of f.context ≡ Ok f.table

-- the error that comes from compaction alone
abbrev pub is_frame_error : LdError → Bool
is_frame_error ld.IriConfusedWithPrefix = false
is_frame_error _ = true

-- a frame is refused by the other errors alone
abbrev pub FrameErrorsAreNamed : Type 0
FrameErrorsAreNamed =
    (frame : JsonValue) (e : LdError) → frame_of frame ≡ Err e → IsTrue (is_frame_error e)

-- an array of one map is that map
abbrev pub OneMapInAnArray : Type 0
OneMapInAnArray = (members : JsonMembers) →
    frame_of (array (item (object members) no_items)) ≡ frame_of (object members)

-- an error of the context of a frame is the frame's
abbrev pub ContextErrorsComeFirst : Type 0
ContextErrorsComeFirst =
    (members : JsonMembers) (context : JsonValue) (e : LdError) →
    value_of (codes "@context") members ≡ Some context →
    table_of context ≡ Err e → frame_of (object members) ≡ Err e
