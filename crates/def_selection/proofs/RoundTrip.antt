-- Expansion gives back what was compacted.
use Rattle.std.proofs.Common.{◌≡◌, ◌≢◌, ℕ, Bool, true, false, not, ◌&&◌, ◌||◌, List, [], ◌∷◌, ◌++◌, Option, Some, None, cond, refl, sym, ap, subst, ◌∙◌, ◌⊎◌, inl, inr, nat_eq, unwrap_or}
use Rattle.std.specs.List.{Contains, list_any, list_all}
use Rattle.std.specs.Option.{option_or}
use Rattle.std.proofs.lemmas.Bool.{and_parts, and_from, both_ways, eqb-true, eq-eqb, or_parts, or_right, false_from_ne_true, not_from_false}
use Rattle.lf_rdf.specs.Equality.{text_eq}
use Rattle.lf_model.specs.declared.table.TermTable.{TermTable}
use Rattle.lf_model.specs.declared.table.TermDef.{TermDef}
use Rattle.def_contexts.specs.Keywords.{has_keyword_form, is_keyword, keywords}
use Rattle.def_contexts.specs.Texts.{after_colon, before_colon, begins_authority, ends_scheme, has_byte, has_later_colon, is_absolute, is_letter, is_scheme_byte}
use Rattle.def_contexts.specs.Expansion.{as_is, by_prefix, by_split, by_term, by_vocab, expand, find_term, followed_by, if_absolute, maps_to_keyword, split, split_at, split_of, unsplit}
use Rattle.def_selection.specs.declared.pick.Pick.{Pick}
use Rattle.def_selection.specs.Iris.{is_confused, short}
use Rattle.def_selection.specs.Laws.{IsCompactFor, IsRestFor, IsTermFor}
use Rattle.def_selection.specs.RoundTrip.{IsOrdinary, IsPlain}
use Rattle.def_selection.proofs.Members.{first_in, in_cases, none_in, passes_some, rest_in, some_passes}
use Rattle.def_selection.proofs.Fits.{text_eq-itself, text_eq-same}
use Rattle.def_selection.proofs.Shortened.{short-steps}

-- what all elements pass
each_passes : {X : Type 0} (p : X → Bool) (xs : List X) (x : X) → list_all p xs ≡ true → Contains xs x → p x ≡ true
each_passes p [] x all held = absurd (none_in x held)
each_passes p (y ∷ ys) x all held =
    let both = and_parts (p y) (list_all p ys) all in
    elim (in_cases y ys x held) [ inl same ↦ ap p (sym same) ∙ both.0 | inr more ↦ each_passes p ys x both.1 more ]

-- all keywords have the form of a keyword
keyword-form : (text : List ℕ) → is_keyword text ≡ true → has_keyword_form text ≡ true
unfolding is_keyword has_keyword_form keywords
keyword-form text e =
    let (word, held, same) = some_passes (text_eq text) keywords e in
    ap has_keyword_form (text_eq-same text word same) ∙ each_passes has_keyword_form keywords word refl held

no_keyword : (text : List ℕ) → has_keyword_form text ≡ false → is_keyword text ≡ false
no_keyword text e = false_from_ne_true (is_keyword text) (λ k. both_ways (has_keyword_form text) e (keyword-form text k))

-- what decides where no keyword and no term does
abbrev behind : TermTable → List ℕ → Bool → List ℕ
behind table text vocab = unwrap_or (by_split table text (split_of text)) (by_vocab vocab table.vocab text)

expand-plain : (table : TermTable) (text : List ℕ) (vocab : Bool) → has_keyword_form text ≡ false
    → expand table text vocab ≡ unwrap_or (by_term vocab (find_term text table.terms)) (Some (behind table text vocab))
unfolding expand
expand-plain table text vocab e =
    let rest : Option (List ℕ) = unwrap_or (by_term vocab (find_term text table.terms)) (Some (behind table text vocab)) in
    ap (λ b. cond b (Some text) (cond (has_keyword_form text) None rest)) (no_keyword text e)
    ∙ ap (λ b. cond b None rest) e

-- a term of this name stands for the IRI, and what else decides gives it too
by-either : (vocab : Bool) (iri : List ℕ) (o : Option TermDef) (rest : List ℕ) → ((term : TermDef) → o ≡ Some term → term.iri ≡ Some iri)
    → rest ≡ iri → unwrap_or (by_term vocab o) (Some rest) ≡ Some iri
by-either vocab iri None rest own same = ap Some same
by-either vocab iri (Some term) rest own same = go (vocab || maps_to_keyword term.iri)
  where
    go : (b : Bool) → unwrap_or (cond b (Some term.iri) None) (Some rest) ≡ Some iri
    go true = own term refl
    go false = ap Some same

found-named : (name : List ℕ) (terms : List TermDef) (term : TermDef) → find_term name terms ≡ Some term → Contains terms term × (name ≡ term.name)
found-named name [] term e = cc
found-named name (first ∷ rest) term e = go (text_eq name first.name) refl e (found-named name rest term)
  where
    go : (b : Bool) → text_eq name first.name ≡ b → cond b (Some first) (find_term name rest) ≡ Some term
        → (find_term name rest ≡ Some term → Contains rest term × (name ≡ term.name)) → Contains (first ∷ rest) term × (name ≡ term.name)
    go true at e' ih =
        let same : first ≡ term = cc in
        (subst (λ t. Contains (first ∷ rest) t) same (first_in first rest), text_eq-same name first.name at ∙ ap (λ t. t.name) same)
    go false at e' ih = let more = ih e' in (rest_in first rest term more.0, more.1)

-- a prefix, a colon and a rest are cut at that colon
turned : (b : ℕ) → nat_eq 58 b ≡ false → nat_eq b 58 ≡ false
turned b e = false_from_ne_true (nat_eq b 58) (λ same. both_ways (nat_eq 58 b) e (eq-eqb 58 b (sym (eqb-true b 58 same))))

before-cut : (name rest : List ℕ) → has_byte 58 name ≡ false → before_colon (name ++ 58 ∷ rest) ≡ name
before-cut [] rest e = refl
before-cut (b ∷ more) rest e =
    let both = or_parts (nat_eq 58 b) (has_byte 58 more) e in
    ap (λ c. cond c [] (b ∷ before_colon (more ++ 58 ∷ rest))) (turned b both.0) ∙ ap (λ xs. b ∷ xs) (before-cut more rest both.1)

after-cut : (name rest : List ℕ) → has_byte 58 name ≡ false → after_colon (name ++ 58 ∷ rest) ≡ rest
after-cut [] rest e = refl
after-cut (b ∷ more) rest e =
    let both = or_parts (nat_eq 58 b) (has_byte 58 more) e in
    ap (λ c. cond c (more ++ 58 ∷ rest) (after_colon (more ++ 58 ∷ rest))) (turned b both.0) ∙ after-cut more rest both.1

has-colon : (name rest : List ℕ) → has_byte 58 (name ++ 58 ∷ rest) ≡ true
has-colon [] rest = refl
has-colon (b ∷ more) rest = or_right (nat_eq 58 b) (has_byte 58 (more ++ 58 ∷ rest)) (has-colon more rest)

has-later : (name rest : List ℕ) → name ≢ [] → has_later_colon (name ++ 58 ∷ rest) ≡ true
has-later [] rest some = absurd (some refl)
has-later (b ∷ more) rest some = has-colon more rest

-- a text with a later colon
split-there : (text : List ℕ) → has_later_colon text ≡ true → split_of text ≡ split_at (before_colon text) (after_colon text)
split-there text e = ap (λ b. cond b (split_at (before_colon text) (after_colon text)) unsplit) e

split-none : (text : List ℕ) → has_later_colon text ≡ false → split_of text ≡ unsplit
split-none text e = ap (λ b. cond b (split_at (before_colon text) (after_colon text)) unsplit) e

-- the compact IRI step
compact-back : (table : TermTable) (iri text : List ℕ) → IsOrdinary table → IsPlain table iri text → IsCompactFor table iri text
    → by_split table text (split_of text) ≡ Some iri
compact-back table iri text ordinary plain c =
    let name : List ℕ = c.term.name in
    let rest : List ℕ = c.rest in
    let colonless : has_byte 58 name ≡ false = ordinary.no_colon c.term c.listed c.may_prefix in
    let before : before_colon text ≡ name = ap before_colon (sym c.written) ∙ before-cut name rest colonless in
    let after : after_colon text ≡ rest = ap after_colon (sym c.written) ∙ after-cut name rest colonless in
    let there : has_later_colon text ≡ true =
    ap has_later_colon (sym c.written) ∙ has-later name rest (ordinary.prefix_name c.term c.listed c.may_prefix) in
    ap (by_split table text) (split-there text there ∙ (λ i. split_at (before i) (after i)))
    ∙ ap (λ b. by_split table text (cond (b || begins_authority rest) as_is (split name rest))) (ordinary.no_blank c.term c.listed c.may_prefix)
    ∙ go (begins_authority rest) refl after
  where
    go : (b : Bool) → begins_authority c.rest ≡ b → after_colon text ≡ c.rest → by_split table text (cond b as_is (split c.term.name c.rest)) ≡ Some iri
    go true at after' = ap Some (plain.no_authority c (ap begins_authority after' ∙ at))
    go false at after' =
        ap (λ o. option_or (by_prefix o c.rest) (if_absolute text)) (ordinary.found c.term c.listed)
        ∙ ap (λ b. option_or (cond b (followed_by c.term.iri c.rest) None) (if_absolute text)) c.may_prefix
        ∙ ap (λ o. option_or (followed_by o c.rest) (if_absolute text)) c.has_iri
        ∙ ap Some c.whole

-- a text with a colon hasn't the form of a keyword, and neither has an absolute IRI
no_and : (b : Bool) → (b && false) ≡ false
no_and true = refl
no_and false = refl

colon-letters : (name rest : List ℕ) → list_all is_letter (name ++ 58 ∷ rest) ≡ false
colon-letters [] rest = refl
colon-letters (b ∷ more) rest = ap (λ c. is_letter b && c) (colon-letters more rest) ∙ no_and (is_letter b)

colon-form : (name rest : List ℕ) → name ≢ [] → has_keyword_form (name ++ 58 ∷ rest) ≡ false
unfolding has_keyword_form
colon-form [] rest some = absurd (some refl)
colon-form (b ∷ []) rest some = ap (λ c. nat_eq b 64 && c) (colon-letters [] rest) ∙ no_and (nat_eq b 64)
colon-form (b ∷ c ∷ more) rest some = ap (λ d. nat_eq b 64 && d) (colon-letters (c ∷ more) rest) ∙ no_and (nat_eq b 64)

no_letter : is_letter 64 ≡ false
no_letter = refl

absolute-form : (iri : List ℕ) → is_absolute iri ≡ true → has_keyword_form iri ≡ false
unfolding is_absolute has_keyword_form
absolute-form [] e = refl
absolute-form (b ∷ []) e = refl
absolute-form (b ∷ c ∷ rest) e =
    let letter = (and_parts (is_letter b) (ends_scheme (c ∷ rest)) e).0 in
    ap (λ d. d && list_all is_letter (c ∷ rest))
    (false_from_ne_true (nat_eq b 64) (λ same. both_ways (is_letter 64) no_letter (subst (λ n. is_letter n ≡ true) (eqb-true b 64 same) letter)))

-- an absolute IRI has a later colon
scheme-later : (xs : List ℕ) → ends_scheme xs ≡ true → has_byte 58 xs ≡ true
scheme-later [] e = e
scheme-later (b ∷ rest) e = go (nat_eq b 58) refl e (scheme-later rest)
  where
    go : (c : Bool) → nat_eq b 58 ≡ c → (c || is_scheme_byte b && ends_scheme rest) ≡ true → (ends_scheme rest ≡ true → has_byte 58 rest ≡ true)
        → (nat_eq 58 b || has_byte 58 rest) ≡ true
    go true at e' ih = ap (λ c. c || has_byte 58 rest) (eq-eqb 58 b (sym (eqb-true b 58 at)))
    go false at e' ih = or_right (nat_eq 58 b) (has_byte 58 rest) (ih (and_parts (is_scheme_byte b) (ends_scheme rest) e').1)

absolute-later : (iri : List ℕ) → is_absolute iri ≡ true → has_later_colon iri ≡ true
unfolding is_absolute
absolute-later [] e = cc
absolute-later (b ∷ rest) e = scheme-later rest (and_parts (is_letter b) (ends_scheme rest) e).1

-- a prefix of this scheme before no `//` would have been confused
no_prefix : (table : TermTable) (iri : List ℕ) (term : TermDef) → is_absolute iri ≡ true → is_confused table iri ≡ false
    → begins_authority (after_colon iri) ≡ false → find_term (before_colon iri) table.terms ≡ Some term → term.prefix ≡ true → ⊥
no_prefix table iri term absolute clear alone at may =
    let found = found-named (before_colon iri) table.terms term at in
    let named : TermDef → Bool = λ t. text_eq t.name (before_colon iri) && t.prefix in
    let same : text_eq term.name (before_colon iri) ≡ true = subst (λ n. text_eq term.name n ≡ true) (sym found.1) (text_eq-itself term.name) in
    let some : list_any named table.terms ≡ true = passes_some named table.terms term found.0 (and_from (text_eq term.name (before_colon iri)) term.prefix same may) in
    both_ways (is_confused table iri) clear
    (and_from (is_absolute iri && list_any named table.terms) (not (begins_authority (after_colon iri)))
    (and_from (is_absolute iri) (list_any named table.terms) absolute some) (not_from_false (begins_authority (after_colon iri)) alone))

-- the IRI itself
itself-back : (table : TermTable) (iri : List ℕ) → is_absolute iri ≡ true → is_confused table iri ≡ false → by_split table iri (split_of iri) ≡ Some iri
itself-back table iri absolute clear =
    ap (by_split table iri) (split-there iri (absolute-later iri absolute))
    ∙ go (text_eq (before_colon iri) (95 ∷ []) || begins_authority (after_colon iri)) refl
  where
    itself : if_absolute iri ≡ Some iri
    itself = ap (λ b. cond b (Some iri) None) absolute

    prefixed : (o : Option TermDef) → find_term (before_colon iri) table.terms ≡ o → begins_authority (after_colon iri) ≡ false
        → option_or (by_prefix o (after_colon iri)) (if_absolute iri) ≡ Some iri
    prefixed None at alone = itself
    prefixed (Some term) at alone =
        ap (λ b. option_or (cond b (followed_by term.iri (after_colon iri)) None) (if_absolute iri))
        (false_from_ne_true term.prefix (no_prefix table iri term absolute clear alone at))
        ∙ itself

    go : (b : Bool) → (text_eq (before_colon iri) (95 ∷ []) || begins_authority (after_colon iri)) ≡ b
        → by_split table iri (cond b as_is (split (before_colon iri) (after_colon iri))) ≡ Some iri
    go true at = refl
    go false at =
        prefixed (find_term (before_colon iri) table.terms) refl
        (or_parts (text_eq (before_colon iri) (95 ∷ [])) (begins_authority (after_colon iri)) at).1

-- what decides where no keyword and no term does is the IRI
split-back : (table : TermTable) (iri text : List ℕ) (vocab : Bool) → by_split table text (split_of text) ≡ Some iri → behind table text vocab ≡ iri
split-back table iri text vocab e = ap (λ o. unwrap_or o (by_vocab vocab table.vocab text)) e

rest-back : (table : TermTable) (iri text : List ℕ) → IsPlain table iri text → IsRestFor table iri text → behind table text true ≡ iri
rest-back table iri text plain r =
    ap (λ s. unwrap_or (by_split table text s) (by_vocab true table.vocab text)) (split-none text (plain.no_colon r))
    ∙ ap (λ o. by_vocab true o text) r.mapping
    ∙ r.whole

pub gives-back : (table : TermTable) (iri : List ℕ) (vocab : Bool) (pick : Pick) (text : List ℕ) → IsOrdinary table → is_absolute iri ≡ true
    → short table iri vocab pick ≡ Some text → IsPlain table iri text → expand table text vocab ≡ Some iri
gives-back table iri vocab pick text ordinary absolute e plain = go (short-steps table iri vocab pick text e)
  where
    either : has_keyword_form text ≡ false → ((term : TermDef) → find_term text table.terms ≡ Some term → term.iri ≡ Some iri) → behind table text vocab ≡ iri → expand table text vocab ≡ Some iri
    either form own same =
        expand-plain table text vocab form ∙ by-either vocab iri (find_term text table.terms) (behind table text vocab) own same

    go : ((vocab ≡ true) × (IsTermFor table iri text ⊎ IsRestFor table iri text)) ⊎ (IsCompactFor table iri text ⊎ ((is_confused table iri ≡ false) × (text ≡ iri)))
        → expand table text vocab ≡ Some iri
    go (inl (on, inl named)) =
        expand-plain table text vocab (ap has_keyword_form (sym named.name) ∙ ordinary.no_form named.term named.listed)
        ∙ ap (λ v. unwrap_or (by_term v (find_term text table.terms)) (Some (behind table text vocab))) on
        ∙ ap (λ o. unwrap_or (by_term true o) (Some (behind table text vocab)))
        (ap (λ n. find_term n table.terms) (sym named.name) ∙ ordinary.found named.term named.listed)
        ∙ named.has_iri
    go (inl (on, inr rest)) =
        either (plain.no_form rest) (λ term found. absurd (cc (rest.no_term, found)))
        (ap (behind table text) on ∙ rest-back table iri text plain rest)
    go (inr (inl compact)) =
        either (ap has_keyword_form (sym compact.written) ∙ colon-form compact.term.name compact.rest (ordinary.prefix_name compact.term compact.listed compact.may_prefix))
        compact.own_term (split-back table iri text vocab (compact-back table iri text ordinary plain compact))
    go (inr (inr (clear, same))) =
        either (ap has_keyword_form same ∙ absolute-form iri absolute) (plain.own_term same)
        (split-back table iri text vocab (subst (λ t. by_split table t (split_of t) ≡ Some iri) (sym same) (itself-back table iri absolute clear)))
