-- How keywords, terms and absolute texts expand.
use Rattle.std.proofs.Common.{◌≡◌, ℕ, Bool, true, false, ◌&&◌, ◌||◌, nat_eq, List, [], ◌∷◌, Some, None, unwrap_or, refl, sym, ap, ◌∙◌, true≢false, eqb-true, cond}
use Rattle.std.specs.Cmp.{nat_eq_equiv, partial_equiv_from_equiv}
use Rattle.lf_model.specs.declared.table.TermTable.{TermTable}
use Rattle.def_contexts.specs.Keywords.{keywords, is_keyword, has_keyword_form}
use Rattle.def_contexts.specs.Texts.{is_letter, is_absolute, ends_scheme, is_scheme_byte, has_byte, before_colon, after_colon}
use Rattle.def_contexts.specs.Expansion.{find_term, by_prefix, by_split, by_vocab, as_is, split, expand}
use Rattle.def_contexts.specs.ExpansionLaws.{KeywordsStay, TermsGiveTheirIri, AbsoluteTextsStay}

pub keywords_stay : KeywordsStay
unfolding expand
keywords_stay table text vocab h = rw h refl

pub terms_give : TermsGiveTheirIri
unfolding expand
terms_give table text d not_keyword not_form found = rw (not_keyword, not_form, found) refl

-- a letter is no `@`
pub letter-no_at : (b : ℕ) → is_letter b ≡ true → nat_eq b 64 ≡ false
letter-no_at b h = by (nat_eq b 64) refl
  where
    by : (test : Bool) → nat_eq b 64 ≡ test → test ≡ false
    by false e = refl
    by true e = absurd (true≢false (sym h ∙ ap is_letter (eqb-true b 64 e)))

-- what begins with no `@` is no keyword
pub no_at-no_keyword : (b : ℕ) (rest : List ℕ) → nat_eq b 64 ≡ false → is_keyword (b ∷ rest) ≡ false
unfolding keywords is_keyword
no_at-no_keyword b rest h = rw h refl

pub no_at-no_form : (b : ℕ) (rest : List ℕ) → nat_eq b 64 ≡ false → has_keyword_form (b ∷ rest) ≡ false
unfolding has_keyword_form
no_at-no_form b [] h = refl
no_at-no_form b (c ∷ rest) h = rw h refl

pub first_true : (a b : Bool) → (a && b) ≡ true → a ≡ true
first_true true b h = refl
first_true false b h = h

pub second_true : (a b : Bool) → (a && b) ≡ true → b ≡ true
second_true true b h = h
second_true false b h = absurd (true≢false (sym h))

eqb-comm : (m n : ℕ) → nat_eq m n ≡ nat_eq n m
eqb-comm m n = (partial_equiv_from_equiv nat_eq_equiv).symm m n

-- a scheme ends in a `:`
pub scheme-colon : (rest : List ℕ) → ends_scheme rest ≡ true → has_byte 58 rest ≡ true
scheme-colon [] h = h
scheme-colon (b ∷ rest) h = by (nat_eq b 58) refl h (scheme-colon rest)
  where
    by :
        (test : Bool) → nat_eq b 58 ≡ test → (test || (is_scheme_byte b && ends_scheme rest)) ≡ true →
        (ends_scheme rest ≡ true → has_byte 58 rest ≡ true) → (nat_eq 58 b || has_byte 58 rest) ≡ true
    by true e h more = rw (eqb-comm 58 b, e) refl
    by false e h more = rw (eqb-comm 58 b, e) (more (second_true (is_scheme_byte b) (ends_scheme rest) h))

-- what is cut in two stays where it is absolute and its prefix gives nothing
split-stays :
    (table : TermTable) (text : List ℕ) (as_it_is : Bool) → is_absolute text ≡ true →
    by_prefix (find_term (before_colon text) table.terms) (after_colon text) ≡ None →
    by_split table text (cond as_it_is as_is (split (before_colon text) (after_colon text))) ≡ Some text
split-stays table text true absolute free = refl
split-stays table text false absolute free = rw (free, absolute) refl

pub absolute_stay : AbsoluteTextsStay
unfolding expand is_absolute
absolute_stay table [] vocab absolute no_term free = absurd (true≢false (sym absolute ∙ nothing))
  where
    nothing : is_absolute [] ≡ false
    nothing = refl
absolute_stay table (b ∷ rest) vocab absolute no_term free =
    let letter : is_letter b ≡ true = first_true (is_letter b) (ends_scheme rest) absolute in
    let colon : has_byte 58 rest ≡ true = scheme-colon rest (second_true (is_letter b) (ends_scheme rest) absolute) in
    let no_at : nat_eq b 64 ≡ false = letter-no_at b letter in
    rw (no_at-no_keyword b rest no_at, no_at-no_form b rest no_at, no_term, colon)
    (ap (λ found. Some (unwrap_or found (by_vocab vocab table.vocab (b ∷ rest)))) (split-stays table (b ∷ rest) _ absolute free))
