-- Tables that are in order, and whose names, IRIs and vocabulary mapping are such as contexts give.
use Rattle.std.proofs.Common.{◌≡◌, ℕ, Bool, true, false, ◌&&◌, ◌||◌, List, [], ◌∷◌, ◌++◌, refl, sym, true≢false, nat_eq}
use Rattle.std.specs.List.{list_all}
use Rattle.lf_model.specs.declared.table.TermTable.{TermTable}
use Rattle.lf_model.specs.declared.table.TermDef.{TermDef}
use Rattle.def_contexts.specs.Texts.{is_absolute, is_letter, is_scheme_byte, ends_scheme}
use Rattle.def_contexts.specs.Drafts.{Draft, defined, forgotten}
use Rattle.def_contexts.specs.Table.{empty_table}
use Rattle.def_contexts.specs.TableLaws.{ascends, is_sound_term, is_absolute_or_none}
use Rattle.def_contexts.proofs.Expanding.{first_true, second_true}
use Rattle.def_contexts.proofs.Ordered.{both_true, all-put, all-filter, ascends-put, ascends-filter}

pub record IsSound (table : TermTable) : Type 0 where
  pub ascending : ascends table.terms ≡ true
  pub terms : list_all is_sound_term table.terms ≡ true
  pub vocab : is_absolute_or_none table.vocab ≡ true

abbrev pub IsSoundDraft : Draft → Type 0
IsSoundDraft draft = IsSound draft.table

pub empty-sound : IsSound empty_table
empty-sound = record { ascending = refl; terms = refl; vocab = refl }

pub defined-sound : (d : TermDef) (draft : Draft) → is_sound_term d ≡ true → IsSoundDraft draft → IsSoundDraft (defined d draft)
defined-sound d draft h sound =
    record {
      ascending = ascends-put d draft.table.terms sound.ascending;
      terms = all-put is_sound_term d draft.table.terms h sound.terms;
      vocab = sound.vocab;
    }

pub forgotten-sound : (name : List ℕ) (draft : Draft) → IsSoundDraft draft → IsSoundDraft (forgotten name draft)
forgotten-sound name draft sound =
    record {
      ascending = ascends-filter _ draft.table.terms sound.ascending;
      terms = all-filter is_sound_term _ draft.table.terms sound.terms;
      vocab = sound.vocab;
    }

scheme-append : (rest more : List ℕ) → ends_scheme rest ≡ true → ends_scheme (rest ++ more) ≡ true
scheme-append [] more h = absurd (true≢false (sym h))
scheme-append (b ∷ rest) more h = by (nat_eq b 58) (is_scheme_byte b) h (scheme-append rest more)
  where
    by : (colon part : Bool) → (colon || (part && ends_scheme rest)) ≡ true → (ends_scheme rest ≡ true → ends_scheme (rest ++ more) ≡ true) → (colon || (part && ends_scheme (rest ++ more))) ≡ true
    by true part h k = refl
    by false true h k = k h
    by false false h k = h

-- an absolute IRI stays absolute with more behind it
pub absolute-append : (iri more : List ℕ) → is_absolute iri ≡ true → is_absolute (iri ++ more) ≡ true
unfolding is_absolute
absolute-append [] more h = absurd (true≢false (sym h))
absolute-append (b ∷ rest) more h =
    both_true (is_letter b) (ends_scheme (rest ++ more)) (first_true (is_letter b) (ends_scheme rest) h)
    (scheme-append rest more (second_true (is_letter b) (ends_scheme rest) h))
