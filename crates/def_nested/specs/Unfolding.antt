-- The nested frame that a table of numbered maps stands for: a map names its sub-frames by larger
-- numbers.
use Rattle.std.specs.Prelude.{List, [], ◌∷◌, ℕ, ◌+◌, Bool, true, false, nat_eq, nat_lt, Option, Some, None}
use Rattle.lf_model.specs.declared.frame.Frame.{Frame}
use Rattle.lf_model.specs.declared.frame.FrameNode.{FrameNode}
use Rattle.lf_model.specs.declared.frame.FrameProp.{FrameProp}
use Rattle.lf_model.specs.declared.frame.FrameReverse.{FrameReverse}
use Rattle.lf_model.specs.declared.frame.FrameKind.{FrameKind}
use Rattle.lf_model.specs.declared.frame.FrameKind.TheVariants as frame_kind
use Rattle.def_nested.specs.Nested.{Flags, Nested, Props, Reverses, Within, Kind, match_none, frame_map, no_props, prop, no_reverses, reverse_prop, no_graph, in_graph, wild, node_frame, value_pattern, list_pattern, list_pattern_of}

-- what a number stands for, where it is given by a map of numbers
abbrev pub Numbered : Type 0
Numbered = ℕ → Nested

-- the sub-frame of a number that may be missing; a missing one is match-none
abbrev pub sub_frame : Numbered → Option ℕ → Nested
sub_frame sub (Some number) = sub number
sub_frame sub None = match_none

abbrev pub build_props : Numbered → List FrameProp → Props
build_props sub [] = no_props
build_props sub (p ∷ rest) = prop p.property (sub_frame sub p.frame) (build_props sub rest)

abbrev pub build_reverses : Numbered → List FrameReverse → Reverses
build_reverses sub [] = no_reverses
build_reverses sub (p ∷ rest) = reverse_prop p.property (sub p.frame) (build_reverses sub rest)

abbrev pub build_within : Numbered → Option ℕ → Within
build_within sub (Some number) = in_graph (sub number)
build_within sub None = no_graph

abbrev pub build_kind : Numbered → FrameKind → Kind
build_kind sub frame_kind.Wild = wild
build_kind sub frame_kind.Node = node_frame
build_kind sub (frame_kind.Value pattern) = value_pattern pattern
build_kind sub (frame_kind.List (Some number)) = list_pattern_of (sub number)
build_kind sub (frame_kind.List None) = list_pattern

-- the parts of a map that hold no sub-frame
abbrev pub row_flags : FrameNode → Flags
row_flags row =
    record {
      ids = row.ids;
      types = row.types;
      embed = row.embed;
      explicit = row.explicit;
      require_all = row.require_all;
      omit_default = row.omit_default;
      fallback = row.fallback;
    }

-- the nested frame of one map, by what its numbers stand for
abbrev pub build : Numbered → FrameNode → Nested
build sub row =
    frame_map (row_flags row) (build_props sub row.props) (build_reverses sub row.reverse)
    (build_within sub row.graph)
    (build_kind sub row.kind)

-- a number stands for something where the test says so
abbrev pub guarded : Bool → Numbered → Numbered
guarded true sub number = sub number
guarded false sub number = match_none

-- a map sees the numbers that are larger than its own, and no others
abbrev pub above : ℕ → Numbered → Numbered
above own sub number = guarded (nat_lt own number) sub number

-- one more map before those that later numbers stand for
abbrev pub with_row : Bool → FrameNode → ℕ → Numbered → Numbered
with_row true row own later number = build (above own later) row
with_row false row own later number = later number

-- what each number stands for, by the maps from the first number on
unfoldable pub unfold_from : ℕ → List FrameNode → Numbered
unfold_from first [] number = match_none
unfold_from first (row ∷ rest) number =
    with_row (nat_eq number first) row first (unfold_from (first + 1) rest) number

-- the nested frame of each number of a table
abbrev pub nested : List FrameNode → Numbered
nested rows = unfold_from 0 rows

-- the nested frame that a frame stands for: that of node 0
abbrev pub nested_frame : Frame → Nested
nested_frame f = nested f.nodes 0
