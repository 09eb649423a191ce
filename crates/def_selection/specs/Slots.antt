-- The slots in which a term stands (JSON-LD 1.1 Processing Algorithms and API, section 4.3: an
-- inverse context files each term under its IRI, its container, and a language or a type).
use Rattle.std.specs.Prelude.{List, [], ◌∷◌, ℕ, Bool, true, false, ◌&&◌, Option, Some, None, if◌then◌else◌}
use Rattle.lf_rdf.specs.Equality.{text_eq}
use Rattle.lf_model.specs.declared.table.TermTable.{TermTable}
use Rattle.lf_model.specs.declared.table.TermDef.{TermDef}
use Rattle.def_selection.specs.declared.pick.PickKind.{PickKind}
use Rattle.def_selection.specs.declared.pick.PickKind.TheVariants.{AnyKind, LanguageKind, TypeKind}
use Rattle.def_selection.specs.Keywords.{at_any, at_none, at_null, at_reverse}

-- a slot: one of the three maps, and the language, type or keyword under it
pub record Slot : Type 0 where
  pub kind : PickKind
  pub name : List ℕ

abbrev pub slot : PickKind → List ℕ → Slot
slot kind name = record { kind = kind; name = name }

-- two kinds are one
abbrev pub kind_eq : PickKind → PickKind → Bool
kind_eq AnyKind AnyKind = true
kind_eq LanguageKind LanguageKind = true
kind_eq TypeKind TypeKind = true
kind_eq _ _ = false

-- two slots are one
abbrev pub slot_eq : Slot → Slot → Bool
slot_eq a b = kind_eq a.kind b.kind && text_eq a.name b.name

-- a term without a coercion and a language of its own: the table's language, if any, no language
-- and no type
abbrev pub unmapped_slots : Option (List ℕ) → List Slot
unmapped_slots (Some language) =
    slot LanguageKind language ∷ slot LanguageKind at_none ∷ slot TypeKind at_none ∷ []
unmapped_slots None = slot LanguageKind at_none ∷ slot TypeKind at_none ∷ []

-- the language of its own, or null
abbrev pub language_slots : Option (List ℕ) → List Slot
language_slots (Some language) = slot LanguageKind language ∷ []
language_slots None = slot LanguageKind at_null ∷ []

-- the coercion `@none` is every language and every type
abbrev pub coerced_slots : List ℕ → List Slot
coerced_slots coercion =
    if text_eq coercion at_none
    then slot LanguageKind at_any ∷ slot TypeKind at_any ∷ slot AnyKind at_any ∷ []
    else slot TypeKind coercion ∷ []

-- by the coercion, else by the term's language, else by the table's language
abbrev pub mapped_slots : Option (List ℕ) → Option (List ℕ) → Option (Option (List ℕ)) → List Slot
mapped_slots default (Some coercion) _ = coerced_slots coercion
mapped_slots default None (Some language) = language_slots language
mapped_slots default None None = unmapped_slots default

-- the slots of a term that has an IRI: a reverse term stands in one, and every other term also in
-- (any, `@none`)
abbrev pub slots : TermTable → TermDef → List Slot
slots table term =
    if term.reverse then slot TypeKind at_reverse ∷ []
    else slot AnyKind at_none ∷ mapped_slots table.language term.coercion term.language
