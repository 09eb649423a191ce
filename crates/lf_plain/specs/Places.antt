-- The place of a term among others in order of their ids.
use Rattle.std.specs.Prelude.{◌≡◌, ◌≤◌, ℕ, List, length, Option, Some, None}
use Rattle.std.specs.List.{insert}
use Rattle.lf_rdf.specs.declared.term.Term.{Term}
use Rattle.def_datasets.specs.Sorted.{put}
use Rattle.def_datasets.specs.Order.{id_cmp}

-- a term comes before the one at a place, or at the end; none is the place of a term that is there
abbrev pub IsPlace : Term → List Term → Option ℕ → Type 0
IsPlace term terms None = put id_cmp term terms ≡ terms
IsPlace term terms (Some place) =
    (place ≤ length terms) × (put id_cmp term terms ≡ insert terms place term)
