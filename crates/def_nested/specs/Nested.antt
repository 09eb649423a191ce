-- Nested frames (JSON-LD 1.1 Framing, section 4.1: a frame is a map whose properties hold
-- sub-frames).
use Rattle.std.specs.Prelude.{List, [], ◌∷◌, ℕ, Bool, false, Option, None}
use Rattle.lf_model.specs.declared.frame.IdTest.{IdTest}
use Rattle.lf_model.specs.declared.frame.IdTest.TheVariants as id_test
use Rattle.lf_model.specs.declared.frame.TypeTest.{TypeTest}
use Rattle.lf_model.specs.declared.frame.TypeTest.TheVariants as type_test
use Rattle.lf_model.specs.declared.frame.Embed.{Embed}
use Rattle.lf_model.specs.declared.frame.Embed.TheVariants as embed_flag
use Rattle.lf_model.specs.declared.frame.ValuePattern.{ValuePattern}
use Rattle.lf_model.specs.declared.frame.DefaultValue.{DefaultValue}

-- the parts of a frame's map that hold no sub-frame
pub record Flags : Type 0 where
  pub ids : IdTest
  pub types : TypeTest
  pub embed : Embed
  pub explicit : Bool
  pub require_all : Bool
  pub omit_default : Option Bool
  pub fallback : Option (List DefaultValue)

mutual
  -- a sub-frame: match-none, which asks that a property be absent, or a map
  pub data Nested : Type 0 where
    match_none : Nested
    frame_map : Flags → Props → Reverses → Within → Kind → Nested

  -- the properties of a map and their sub-frames, in order
  pub data Props : Type 0 where
    no_props : Props
    prop : List ℕ → Nested → Props → Props

  -- the properties of `@reverse` and their sub-frames, in order
  pub data Reverses : Type 0 where
    no_reverses : Reverses
    reverse_prop : List ℕ → Nested → Reverses → Reverses

  -- the sub-frame of `@graph`, where it stands
  pub data Within : Type 0 where
    no_graph : Within
    in_graph : Nested → Within

  -- what a map is: a wildcard, a node frame, a value pattern, or a list pattern with or without an
  -- item pattern
  pub data Kind : Type 0 where
    wild : Kind
    node_frame : Kind
    value_pattern : ValuePattern → Kind
    list_pattern : Kind
    list_pattern_of : Nested → Kind

-- the flags of a map that states none
abbrev pub plain : Flags
plain =
    record {
      ids = id_test.Absent;
      types = type_test.Absent;
      embed = embed_flag.Once;
      explicit = false;
      require_all = false;
      omit_default = None;
      fallback = None;
    }

-- a wildcard with these flags
abbrev pub wildcard : Flags → Nested
wildcard flags = frame_map flags no_props no_reverses no_graph wild

-- the parts of a sub-frame; match-none has those of the empty map
abbrev pub flags_of : Nested → Flags
flags_of match_none = plain
flags_of (frame_map flags _ _ _ _) = flags

abbrev pub props_of : Nested → Props
props_of match_none = no_props
props_of (frame_map _ props _ _ _) = props

abbrev pub reverse_props_of : Nested → Reverses
reverse_props_of match_none = no_reverses
reverse_props_of (frame_map _ _ reverses _ _) = reverses

abbrev pub within_of : Nested → Within
within_of match_none = no_graph
within_of (frame_map _ _ _ within _) = within

-- the properties of a map and their sub-frames as a list
abbrev pub props_list : Props → List (List ℕ × Nested)
props_list no_props = []
props_list (prop property sub rest) = (property, sub) ∷ props_list rest

-- the properties of `@reverse` and their sub-frames as a list
abbrev pub reverses_list : Reverses → List (List ℕ × Nested)
reverses_list no_reverses = []
reverses_list (reverse_prop property sub rest) = (property, sub) ∷ reverses_list rest
