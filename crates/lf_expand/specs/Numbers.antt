-- The numbers of a frame's maps: while the frame is read each map stands behind those that it
-- holds, and in the end before them.
use Rattle.std.specs.Prelude.{◌≡◌, ◌<◌, ◌-◌, ℕ, List, length, slice_get, map, Option, Some, None}
use Rattle.std.specs.Option.{option_map}
use Rattle.std.specs.List.{AllByRecursion}
use Rattle.lf_sorted.specs.declared.map.Entry.{Entry}
use Rattle.lf_model.specs.declared.frame.FrameNode.{FrameNode}
use Rattle.lf_model.specs.declared.frame.FrameProp.{FrameProp}
use Rattle.lf_model.specs.declared.frame.FrameReverse.{FrameReverse}
use Rattle.lf_model.specs.declared.frame.FrameKind.{FrameKind}
use Rattle.lf_model.specs.declared.frame.FrameKind.TheVariants as frame_kind
use Rattle.lf_expand.specs.declared.rows.Row.{Row}

-- a number counted from the last one
abbrev pub turned : ℕ → ℕ → ℕ
turned last number = last - number

abbrev pub turned_prop : ℕ → Entry (Option ℕ) → FrameProp
turned_prop last e = record { property = e.key; frame = option_map (turned last) e.value }

abbrev pub turned_props : ℕ → List (Entry (Option ℕ)) → List FrameProp
turned_props last entries = map (turned_prop last) entries

abbrev pub turned_reverse : ℕ → Entry ℕ → FrameReverse
turned_reverse last e = record { property = e.key; frame = turned last e.value }

abbrev pub turned_reverses : ℕ → List (Entry ℕ) → List FrameReverse
turned_reverses last entries = map (turned_reverse last) entries

abbrev pub turned_kind : ℕ → FrameKind → FrameKind
turned_kind last frame_kind.Wild = frame_kind.Wild
turned_kind last frame_kind.Node = frame_kind.Node
turned_kind last (frame_kind.Value pattern) = frame_kind.Value pattern
turned_kind last (frame_kind.List item) = frame_kind.List (option_map (turned last) item)

-- a map with the numbers of its sub-frames counted from the last one
abbrev pub turned_row : ℕ → Row → FrameNode
turned_row last row =
    record {
      ids = row.flags.ids;
      types = row.flags.types;
      embed = row.flags.embed;
      explicit = row.flags.explicit;
      require_all = row.flags.require_all;
      omit_default = row.flags.omit_default;
      props = turned_props last row.props;
      reverse = turned_reverses last row.reverse;
      graph = option_map (turned last) row.graph;
      kind = turned_kind last row.kind;
      fallback = row.flags.fallback;
    }

-- a number is larger than a map's own, and one of the table
abbrev pub IsLater : ℕ → ℕ → Option ℕ → Type 0
IsLater own bound (Some number) = (own < number) × (number < bound)
IsLater own bound None = Unit {0}

abbrev pub KindIsLater : ℕ → ℕ → FrameKind → Type 0
KindIsLater own bound (frame_kind.List item) = IsLater own bound item
KindIsLater own bound frame_kind.Wild = Unit {0}
KindIsLater own bound frame_kind.Node = Unit {0}
KindIsLater own bound (frame_kind.Value pattern) = Unit {0}

-- a map names sub-frames of the table by numbers larger than its own
pub record NamesLater (own bound : ℕ) (row : FrameNode) : Type 0 where
  pub props : AllByRecursion (λ (p : FrameProp). IsLater own bound p.frame) row.props
  pub reverses :
      AllByRecursion (λ (p : FrameReverse). (own < p.frame) × (p.frame < bound)) row.reverse
  pub graph : IsLater own bound row.graph
  pub kind : KindIsLater own bound row.kind

-- so does each map of a table
abbrev pub NamesLargerNumbers : List FrameNode → Type 0
NamesLargerNumbers rows =
    (own : ℕ) (row : FrameNode) → slice_get rows own ≡ Some row → NamesLater own (length rows) row
