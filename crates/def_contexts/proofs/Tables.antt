-- The laws of term tables.
use Rattle.std.proofs.Common.{◌≡◌, ℕ, Bool, true, false, not, ◌&&◌, List, [], ◌∷◌, Some, is_some, Ok, IsTrue, refl, sym, ap, ◌∙◌, subst, true≢false, cond}
use Rattle.std.specs.List.{list_any, list_all}
use Rattle.std.specs.Cmp.Lexicographic.{bytes_decides}
use Rattle.lf_model.specs.declared.table.TermTable.{TermTable}
use Rattle.lf_model.specs.declared.table.TermDef.{TermDef}
use Rattle.lf_model.specs.declared.error.LdError.{LdError}
use Rattle.lf_model.specs.declared.error.LdError.TheVariants as ld
use Rattle.lf_model.specs.JsonData.{JsonValue, JsonItems, JsonMembers, null, truth, whole, fraction, text, array, object, no_items, item}
use Rattle.lf_rdf.specs.Equality.{text_eq}
use Rattle.def_contexts.specs.Texts.{is_empty}
use Rattle.def_contexts.specs.Keywords.{is_keyword, has_keyword_form}
use Rattle.def_contexts.specs.Expansion.{find_term}
use Rattle.def_contexts.specs.Table.{terms_of, table_of}
use Rattle.def_contexts.specs.Defining.{Entry}
use Rattle.def_contexts.specs.TableLaws.{TermsAscend, TermsAreSound, VocabIsAbsolute, TableTermsGiveTheirIri, is_sound_term, is_term_name, is_term_iri}
use Rattle.def_contexts.specs.Causes.{ErrorsHaveCauses, ErrorsAreNamed, is_context_error, is_remote_error, is_local_error, is_definition_error, definition_cause, value_cause, entry_cause, map_cause, context_cause, items_cause}
use Rattle.def_contexts.proofs.Expanding.{first_true, second_true, terms_give}
use Rattle.def_contexts.proofs.Holding.{Holds}
use Rattle.def_contexts.proofs.Sound.{IsSound}
use Rattle.def_contexts.proofs.TableHolding.{and-false, value-none, table-holds}

sound : (context : JsonValue) (table : TermTable) → table_of context ≡ Ok table → IsSound table
sound context table e = subst (Holds (λ e. IsTrue (context_cause e context)) IsSound) e (table-holds context)

pub errors_have_causes : ErrorsHaveCauses
errors_have_causes context e h = subst (Holds (λ e. IsTrue (context_cause e context)) IsSound) h (table-holds context)

pub terms_ascend : TermsAscend
terms_ascend context table e = (sound context table e).ascending

pub terms_are_sound : TermsAreSound
terms_are_sound context table e = (sound context table e).terms

pub vocab_is_absolute : VocabIsAbsolute
vocab_is_absolute context table e = (sound context table e).vocab

-- what is found in a list has what all have, and the name that was looked up
found-sound : (name : List ℕ) (terms : List TermDef) (d : TermDef) → list_all is_sound_term terms ≡ true → find_term name terms ≡ Some d → is_term_name name ≡ true
found-sound name [] d h found = absurd (true≢false (sym (ap is_some found)))
found-sound name (e ∷ rest) d h found =
    by (text_eq name e.name) refl found (λ later. found-sound name rest d (second_true (is_sound_term e) (list_all is_sound_term rest) h) later)
  where
    here : is_term_name e.name ≡ true
    here = first_true (is_term_name e.name) (is_term_iri e.iri) (first_true (is_sound_term e) (list_all is_sound_term rest) h)

    by : (same : Bool) → text_eq name e.name ≡ same → cond same (Some e) (find_term name rest) ≡ Some d → (find_term name rest ≡ Some d → is_term_name name ≡ true) → is_term_name name ≡ true
    by true same found later = ap is_term_name ((bytes_decides name e.name).0 same) ∙ here
    by false same found later = later found

not-true : (b : Bool) → not b ≡ true → b ≡ false
not-true false h = refl
not-true true h = sym h

pub table_terms_give : TableTermsGiveTheirIri
table_terms_give context table name d e found =
    let named : is_term_name name ≡ true = found-sound name table.terms d (terms_are_sound context table e) found in
    let plain : (not (is_empty name) && not (is_keyword name)) ≡ true = first_true _ (not (has_keyword_form name)) named in
    terms_give table name d
    (not-true (is_keyword name) (second_true (not (is_empty name)) (not (is_keyword name)) plain))
    (not-true (has_keyword_form name) (second_true (not (is_empty name) && not (is_keyword name)) (not (has_keyword_form name)) named))
    found

-- an error of which no cause in a context speaks
record IsUnspoken (e : LdError) : Type 0 where
  in_maps : (given : JsonMembers) → map_cause e given ≡ list_any (entry_cause e) (terms_of given)
  in_entries : (entry : Entry) → entry_cause e entry ≡ (is_term_name entry.name && value_cause e entry.name entry.value)
  in_definitions : (name : List ℕ) (given : JsonMembers) → definition_cause e name given ≡ false
  no_definition : is_definition_error e ≡ false
  no_remote : is_remote_error e ≡ false
  no_local : is_local_error e ≡ false

any-none : (test : Entry → Bool) (terms : List Entry) → ((entry : Entry) → test entry ≡ false) → list_any test terms ≡ false
any-none test [] none = refl
any-none test (entry ∷ rest) none = rw (none entry, any-none test rest none) refl

entry-none : (e : LdError) (entry : Entry) → IsUnspoken e → entry_cause e entry ≡ false
entry-none e entry u =
    u.in_entries entry
    ∙ and-false (is_term_name entry.name) (value_cause e entry.name entry.value)
    (value-none e entry.name entry.value (u.in_definitions entry.name) u.no_definition)

mutual
  context-none : (e : LdError) (context : JsonValue) → IsUnspoken e → context_cause e context ≡ false
  context-none e null u = refl
  context-none e (text url) u = u.no_remote
  context-none e (array items) u = items-none e items u
  context-none e (object given) u =
      u.in_maps given ∙ any-none (entry_cause e) (terms_of given) (λ entry. entry-none e entry u)
  context-none e (truth b) u = u.no_local
  context-none e (whole n) u = u.no_local
  context-none e fraction u = u.no_local

  items-none : (e : LdError) (items : JsonItems) → IsUnspoken e → items_cause e items ≡ false
  items-none e no_items u = refl
  items-none e (item value rest) u = rw (context-none e value u, items-none e rest u) refl

unspoken :
    (e : LdError) (context : JsonValue) → IsUnspoken e → IsTrue (context_cause e context) → IsTrue (is_context_error e)
unspoken e context u h = absurd (true≢false (sym h ∙ context-none e context u))

named : (e : LdError) (context : JsonValue) → IsTrue (context_cause e context) → IsTrue (is_context_error e)
named ld.CollidingKeywords context h = unspoken ld.CollidingKeywords context (record { in_maps = λ _. refl; in_entries = λ _. refl; in_definitions = λ _ _. refl; no_definition = refl; no_remote = refl; no_local = refl }) h
named ld.InvalidEmbedValue context h = unspoken ld.InvalidEmbedValue context (record { in_maps = λ _. refl; in_entries = λ _. refl; in_definitions = λ _ _. refl; no_definition = refl; no_remote = refl; no_local = refl }) h
named ld.InvalidIdValue context h = unspoken ld.InvalidIdValue context (record { in_maps = λ _. refl; in_entries = λ _. refl; in_definitions = λ _ _. refl; no_definition = refl; no_remote = refl; no_local = refl }) h
named ld.InvalidReverseValue context h = unspoken ld.InvalidReverseValue context (record { in_maps = λ _. refl; in_entries = λ _. refl; in_definitions = λ _ _. refl; no_definition = refl; no_remote = refl; no_local = refl }) h
named ld.InvalidFrame context h = unspoken ld.InvalidFrame context (record { in_maps = λ _. refl; in_entries = λ _. refl; in_definitions = λ _ _. refl; no_definition = refl; no_remote = refl; no_local = refl }) h
named ld.InvalidTypeValue context h = unspoken ld.InvalidTypeValue context (record { in_maps = λ _. refl; in_entries = λ _. refl; in_definitions = λ _ _. refl; no_definition = refl; no_remote = refl; no_local = refl }) h
named ld.InvalidValueObject context h = unspoken ld.InvalidValueObject context (record { in_maps = λ _. refl; in_entries = λ _. refl; in_definitions = λ _ _. refl; no_definition = refl; no_remote = refl; no_local = refl }) h
named ld.IriConfusedWithPrefix context h = unspoken ld.IriConfusedWithPrefix context (record { in_maps = λ _. refl; in_entries = λ _. refl; in_definitions = λ _ _. refl; no_definition = refl; no_remote = refl; no_local = refl }) h
named _ context h = refl

pub errors_are_named : ErrorsAreNamed
errors_are_named context e h = named e context (errors_have_causes context e h)
