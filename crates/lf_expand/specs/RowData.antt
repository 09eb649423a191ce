-- What the maps of a frame stand for while it is read: each stands behind those that it holds.
use Rattle.std.specs.Prelude.{◌≡◌, ◌<◌, ◌≤◌, ℕ, nat_eq, Bool, true, false, List, [], ◌∷◌, length, reverse, Option, Some, None}
use Rattle.lf_sorted.specs.declared.map.Entry.{Entry}
use Rattle.lf_model.specs.declared.frame.IdTest.TheVariants as id_test
use Rattle.lf_model.specs.declared.frame.TypeTest.TheVariants as type_test
use Rattle.lf_model.specs.declared.frame.Embed.TheVariants as embed_flag
use Rattle.lf_model.specs.declared.frame.FrameKind.{FrameKind}
use Rattle.lf_model.specs.declared.frame.FrameKind.TheVariants as frame_kind
use Rattle.lf_expand.specs.declared.rows.Flags as program
use Rattle.lf_expand.specs.declared.rows.Row.{Row}
use Rattle.def_nested.specs.Nested.{Flags, Nested, Props, Reverses, match_none, frame_map, no_props, prop, no_reverses, reverse_prop}
use Rattle.def_nested.specs.Unfolding.{Numbered, sub_frame, build_within, build_kind}

abbrev pub flags_data : program.Flags → Flags
flags_data f =
    record {
      ids = f.ids;
      types = f.types;
      embed = f.embed;
      explicit = f.explicit;
      require_all = f.require_all;
      omit_default = f.omit_default;
      fallback = f.fallback;
    }

-- the flags of a map that states none, and a map without keys
abbrev pub plain_flags : program.Flags
plain_flags =
    record {
      ids = id_test.Absent;
      types = type_test.Absent;
      embed = embed_flag.Once;
      explicit = false;
      require_all = false;
      omit_default = None;
      fallback = None;
    }

abbrev pub plain_row : FrameKind → Row
plain_row kind = record { flags = plain_flags; props = []; reverse = []; graph = None; kind = kind }

abbrev pub seen_props : Numbered → List (Entry (Option ℕ)) → Props
seen_props sub [] = no_props
seen_props sub (e ∷ rest) = prop e.key (sub_frame sub e.value) (seen_props sub rest)

abbrev pub seen_reverses : Numbered → List (Entry ℕ) → Reverses
seen_reverses sub [] = no_reverses
seen_reverses sub (e ∷ rest) = reverse_prop e.key (sub e.value) (seen_reverses sub rest)

-- the nested frame of one map, by what its numbers stand for
abbrev pub seen_row : Numbered → Row → Nested
seen_row sub row =
    frame_map (flags_data row.flags) (seen_props sub row.props) (seen_reverses sub row.reverse)
    (build_within sub row.graph) (build_kind sub row.kind)

-- the last map, or what the maps before it stand for
abbrev pub at_row : Bool → Row → Numbered → Numbered
at_row true row older number = seen_row older row
at_row false row older number = older number

-- what each number stands for, by the maps from the last one down
unfoldable pub from_last : List Row → Numbered
from_last [] number = match_none
from_last (row ∷ older) number = at_row (nat_eq number (length older)) row (from_last older) number

-- what each number stands for
abbrev pub built : List Row → Numbered
built rows = from_last (reverse rows)

-- the numbers of a map lie below a bound
abbrev pub IsBelow : Option ℕ → ℕ → Type 0
IsBelow (Some number) bound = number < bound
IsBelow None bound = Unit {0}

abbrev pub PropsWithin : ℕ → List (Entry (Option ℕ)) → Type 0
PropsWithin bound [] = Unit {0}
PropsWithin bound (e ∷ rest) = IsBelow e.value bound × PropsWithin bound rest

abbrev pub ReversesWithin : ℕ → List (Entry ℕ) → Type 0
ReversesWithin bound [] = Unit {0}
ReversesWithin bound (e ∷ rest) = (e.value < bound) × ReversesWithin bound rest

abbrev pub KindWithin : ℕ → FrameKind → Type 0
KindWithin bound frame_kind.Wild = Unit {0}
KindWithin bound frame_kind.Node = Unit {0}
KindWithin bound (frame_kind.Value pattern) = Unit {0}
KindWithin bound (frame_kind.List item) = IsBelow item bound

pub record RowWithin (bound : ℕ) (row : Row) : Type 0 where
  pub props : PropsWithin bound row.props
  pub reverses : ReversesWithin bound row.reverse
  pub graph : IsBelow row.graph bound
  pub kind : KindWithin bound row.kind

-- each map names maps before it alone
abbrev pub DescendsFrom : List Row → Type 0
DescendsFrom [] = Unit {0}
DescendsFrom (row ∷ older) = RowWithin (length older) row × DescendsFrom older

abbrev pub Descends : List Row → Type 0
Descends rows = DescendsFrom (reverse rows)

-- maps were put behind those that there were
pub record Keeps (old new : List Row) : Type 0 where
  pub grows : length old ≤ length new
  pub same : (number : ℕ) → number < length old → built new number ≡ built old number
  pub descends : Descends old → Descends new

-- a number was made that stands for a nested frame
pub record IsPlaced (old new : List Row) (number : ℕ) (sub : Nested) : Type 0 where
  pub keeps : Keeps old new
  pub within : number < length new
  pub is : built new number ≡ sub

-- whether a map is put into a list pattern where a list is wanted
abbrev pub needs_list : FrameKind → Bool
needs_list frame_kind.Wild = false
needs_list frame_kind.Node = true
needs_list (frame_kind.Value pattern) = true
needs_list (frame_kind.List item) = false
