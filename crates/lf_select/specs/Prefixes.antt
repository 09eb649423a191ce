-- The terms that may be prefixes, by their IRIs, and those of one IRI in order of their names.
use Rattle.std.specs.Prelude.{◌≡◌, List, ℕ, ◌≤◌, nat_eq, Bool, true, ◌&&◌, Option, Some, Vec, is_some, length, slice_get}
use Rattle.std.specs.List.{list_any}
use Rattle.std.specs.Option.{option_and_then}
use Rattle.std.specs.Ordering.{nat_cmp, ordering_then}
use Rattle.std.specs.declared.cmp.Ordering.{Ordering}
use Rattle.std.specs.Cmp.Lexicographic.{slice_cmp}
use Rattle.std.specs.BTreeMap.{BTreeMap, get, get_by}
use Rattle.std.specs.declared.alloc.Global.{Global}
use Rattle.lf_rdf.specs.Equality.{text_eq}
use Rattle.lf_model.specs.declared.table.TermTable.{TermTable}
use Rattle.lf_model.specs.declared.table.TermDef.{TermDef}
use Rattle.lf_select.specs.declared.prefixes.Ranked.{Ranked}

-- a name by its length and then its bytes
abbrev pub ranked : List ℕ → Ranked
ranked name = record { length = length name; name = name }

abbrev pub rank_cmp : Ranked → Ranked → Ordering
rank_cmp a b = ordering_then (nat_cmp a.length b.length) (slice_cmp nat_cmp a.name b.name)

abbrev pub rank_eq : Ranked → Ranked → Bool
rank_eq a b = nat_eq a.length b.length && text_eq a.name b.name

abbrev pub Ranks : Type 0
Ranks = BTreeMap Ranked ℕ

abbrev pub Groups : Type 0
Groups = BTreeMap (Vec ℕ Global) Ranks

-- the terms of an IRI
abbrev pub ranks_at : Groups → List ℕ → Option Ranks
ranks_at groups iri = get_by (λ k. slice_cmp nat_cmp iri k.items) groups

-- the place of an IRI's name
abbrev pub prefix_at : Groups → List ℕ → Ranked → Option ℕ
prefix_at groups iri key = option_and_then (λ ranks. get rank_cmp ranks key) (ranks_at groups iri)

-- at the place stands a prefix of this IRI and name
pub record IsPrefixAt (table : TermTable) (iri : List ℕ) (key : Ranked) (place : ℕ) : Type 0 where
  pub term : TermDef
  pub here : slice_get table.terms place ≡ Some term
  pub may : term.prefix ≡ true
  pub stands : term.iri ≡ Some iri
  pub named : key ≡ ranked term.name

-- a name is found under an IRI, and the IRI's length among the lengths
abbrev pub IsGrouped : Groups → List ℕ → List ℕ → List ℕ → Type 0
IsGrouped groups lengths iri name =
    (is_some (prefix_at groups iri (ranked name)) ≡ true)
    × (list_any (λ n. nat_eq n (length iri)) lengths ≡ true)

-- what is found are prefixes, and each term from a place on that may be a prefix is found
pub record AreGroupedFrom (table : TermTable) (groups : Groups) (lengths : List ℕ) (from : ℕ) :
    Type 0 where
  pub prefixes :
      (iri : List ℕ) (key : Ranked) (place : ℕ) → prefix_at groups iri key ≡ Some place →
      IsPrefixAt table iri key place
  pub found :
      (place : ℕ) (term : TermDef) (iri : List ℕ) → from ≤ place →
      slice_get table.terms place ≡ Some term → term.prefix ≡ true
      → term.iri ≡ Some iri → IsGrouped groups lengths iri term.name

abbrev pub AreGrouped : TermTable → Groups → List ℕ → Type 0
AreGrouped table groups lengths = AreGroupedFrom table groups lengths 0
