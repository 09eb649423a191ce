-- The terms of a table by their names.
use Rattle.std.specs.Prelude.{◌≡◌, List, ℕ, Bool, ◌&&◌, Option, drop, is_some, slice_get}
use Rattle.std.specs.List.{list_any}
use Rattle.std.specs.Option.{option_and_then}
use Rattle.std.specs.Ordering.{nat_cmp}
use Rattle.std.specs.Cmp.Lexicographic.{slice_cmp}
use Rattle.std.specs.BTreeMap.{BTreeMap, get}
use Rattle.lf_rdf.specs.Equality.{text_eq}
use Rattle.lf_model.specs.declared.table.TermTable.{TermTable}
use Rattle.lf_model.specs.declared.table.TermDef.{TermDef}
use Rattle.def_contexts.specs.Expansion.{find_term}

abbrev pub Names : Type 0
Names = BTreeMap (List ℕ) ℕ

-- the place under a name
abbrev pub named : Names → List ℕ → Option ℕ
named names name = get (slice_cmp nat_cmp) names name

-- the names of the terms from a place on
abbrev pub AreNamedFrom : TermTable → Names → ℕ → Type 0
AreNamedFrom table names place =
    (name : List ℕ) →
    option_and_then (slice_get table.terms) (named names name)
    ≡ find_term name (drop place table.terms)

abbrev pub AreNamed : TermTable → Names → Type 0
AreNamed table names = (name : List ℕ) →
    option_and_then (slice_get table.terms) (named names name) ≡ find_term name table.terms

-- a term that may be a prefix has this name
abbrev pub is_prefix_name : List TermDef → List ℕ → Bool
is_prefix_name terms name = list_any (λ term. text_eq term.name name && term.prefix) terms

abbrev pub ArePrefixesFrom : TermTable → Names → ℕ → Type 0
ArePrefixesFrom table names place =
    (name : List ℕ) → is_some (named names name) ≡ is_prefix_name (drop place table.terms) name

abbrev pub ArePrefixes : TermTable → Names → Type 0
ArePrefixes table names =
    (name : List ℕ) → is_some (named names name) ≡ is_prefix_name table.terms name
