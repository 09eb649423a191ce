-- The term that is chosen for an IRI and a value (JSON-LD 1.1 Processing Algorithms and API,
-- section 6.3: term selection): the least of all terms with this IRI that stand in a slot of the
-- pick.
use Rattle.std.specs.Prelude.{List, [], ◌∷◌, ℕ, Bool, true, false, ◌&&◌, Option, Some, None, if◌then◌else◌, length, filter}
use Rattle.std.specs.Ordering.{nat_cmp, is_lt}
use Rattle.std.specs.List.{list_any, position_or_len}
use Rattle.std.specs.Cmp.Lexicographic.{slice_cmp}
use Rattle.lf_rdf.specs.Equality.{text_eq, option_eq}
use Rattle.lf_model.specs.declared.table.TermTable.{TermTable}
use Rattle.lf_model.specs.declared.table.TermDef.{TermDef}
use Rattle.lf_model.specs.declared.table.Container.{Container}
use Rattle.lf_model.specs.declared.table.Container.TheVariants as container
use Rattle.def_selection.specs.declared.pick.Pick.{Pick}
use Rattle.def_selection.specs.Slots.{slot, slot_eq, slots}

-- two containers are one
abbrev pub container_eq : Container → Container → Bool
container_eq container.NoContainer container.NoContainer = true
container_eq container.Set container.Set = true
container_eq container.List container.List = true
container_eq container.Language container.Language = true
container_eq container.LanguageSet container.LanguageSet = true
container_eq _ _ = false

-- the term is one for this IRI
abbrev pub stands_for : List ℕ → TermDef → Bool
stands_for iri term = option_eq text_eq term.iri (Some iri)

-- the term stands in the pick's slot of this name
abbrev pub stands_in : TermTable → Pick → TermDef → List ℕ → Bool
stands_in table pick term name = list_any (slot_eq (slot pick.kind name)) (slots table term)

-- the term may be chosen: it has the IRI, a container of the pick, and stands in one of the pick's
-- slots
abbrev pub fits : TermTable → List ℕ → Pick → TermDef → Bool
fits table iri pick term =
    stands_for iri term && list_any (container_eq term.container) pick.containers
    && list_any (stands_in table pick term) pick.preferred

-- what decides among those that fit: the place of the container, the place of the slot, the length
-- and the bytes
abbrev pub rank : TermTable → Pick → TermDef → List ℕ
rank table pick term =
    position_or_len (container_eq term.container) pick.containers
    ∷ position_or_len (stands_in table pick term) pick.preferred
    ∷ length term.name
    ∷ term.name

-- a rank is less than another, compared number by number
abbrev pub ranks_less : List ℕ → List ℕ → Bool
ranks_less a b = is_lt (slice_cmp nat_cmp a b)

-- the one of the lesser rank
abbrev pub lesser : {A : Type 0} → (A → List ℕ) → A → Option A → Option A
lesser rank_of one None = Some one
lesser rank_of one (Some other) =
    if ranks_less (rank_of other) (rank_of one) then Some other else Some one

-- the one of the least rank, where there is any
abbrev pub least : {A : Type 0} → (A → List ℕ) → List A → Option A
least rank_of [] = None
least rank_of (one ∷ rest) = lesser rank_of one (least rank_of rest)

-- the chosen term, where any fits
abbrev pub chosen : TermTable → List ℕ → Pick → Option TermDef
chosen table iri pick = least (rank table pick) (filter (fits table iri pick) table.terms)
