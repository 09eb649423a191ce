-- Compact IRIs, found by the lengths of the IRIs of prefixes.
use Rattle.std.specs.Prelude.{List, [], ◌∷◌, ℕ, nat_lt, Bool, Option, Some, None, if◌then◌else◌, length, take, filter_map, slice_get}
use Rattle.std.specs.Option.{option_and_then, option_map_or}
use Rattle.lf_model.specs.declared.table.TermTable.{TermTable}
use Rattle.lf_model.specs.declared.table.TermDef.{TermDef}
use Rattle.def_selection.specs.Chosen.{least, lesser}
use Rattle.def_selection.specs.Iris.{compact_iri, is_free, term_named}
use Rattle.lf_select.specs.Prefixes.{ranks_at, Groups, Ranks}
use Rattle.lf_select.specs.declared.prefixes.Ranked.{Ranked}

-- the shorter text, then the lesser
abbrev pub text_rank : List ℕ → List ℕ
text_rank text = length text ∷ text

-- a compact IRI that may be used
abbrev pub if_free : TermTable → List ℕ → Bool → Option (List ℕ) → Option (List ℕ)
if_free table iri has_value None = None
if_free table iri has_value (Some compact) =
    if is_free iri has_value (term_named table compact) then Some compact else None

-- the compact IRI that a term makes, where it may be used
abbrev pub candidate : TermTable → List ℕ → Bool → TermDef → Option (List ℕ)
candidate table iri has_value term = if_free table iri has_value (compact_iri iri term)

-- and the one that the term at a place makes
abbrev pub candidate_at : TermTable → List ℕ → Bool → ℕ → Option (List ℕ)
candidate_at table iri has_value place =
    option_and_then (candidate table iri has_value) (slice_get table.terms place)

-- the better of a compact IRI and the best so far
abbrev pub nearer : Option (List ℕ) → Option (List ℕ) → Option (List ℕ)
nearer None best = best
nearer (Some compact) best = lesser text_rank compact best

-- the compact IRI that the term of an entry makes
abbrev pub candidate_of : TermTable → List ℕ → Bool → Ranked × ℕ → Option (List ℕ)
candidate_of table iri has_value entry = candidate_at table iri has_value entry.1

-- the best of those that the terms of some entries make
abbrev pub best_of : TermTable → List ℕ → Bool → List (Ranked × ℕ) → Option (List ℕ)
best_of table iri has_value entries =
    least text_rank (filter_map (candidate_of table iri has_value) entries)

-- the terms for the front of this length
abbrev pub group : Groups → List ℕ → ℕ → Option Ranks
group groups iri front =
    if nat_lt front (length iri) then ranks_at groups (take front iri) else None

abbrev pub entries_at : Groups → List ℕ → ℕ → List (Ranked × ℕ)
entries_at groups iri front = option_map_or (λ ranks. ranks.entries) (group groups iri front) []

-- the best over fronts of these lengths
abbrev pub shortest : TermTable → Groups → List ℕ → Bool → List ℕ → Option (List ℕ)
shortest table groups iri has_value [] = None
shortest table groups iri has_value (front ∷ fronts) =
    nearer (best_of table iri has_value (entries_at groups iri front))
    (shortest table groups iri has_value fronts)
