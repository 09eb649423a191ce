-- What a compacted IRI tells, and when there is none.
use Rattle.std.proofs.Common.{◌≡◌, ℕ, Bool, true, false, not, ◌&&◌, ◌||◌, List, [], ◌∷◌, ◌++◌, length, take, drop, Option, Some, None, cond, refl, sym, ap, subst, ◌∙◌, ◌⊎◌, inl, inr, nat_eq, nat_lt, is_some}
use Rattle.std.specs.List.{Contains, list_any, filter, filter_map, cons_option, starts_with}
use Rattle.std.specs.Option.{option_map, option_or}
use Rattle.std.specs.Cmp.Lexicographic.{bytes_decides}
use Rattle.std.proofs.lemmas.Bool.{and_parts, eqb-true, not-true, or_parts}
use Rattle.std.proofs.lemmas.List.{take-append-drop}
use Rattle.lf_rdf.specs.Equality.{text_eq}
use Rattle.lf_model.specs.declared.table.TermTable.{TermTable}
use Rattle.lf_model.specs.declared.table.TermDef.{TermDef}
use Rattle.def_contexts.specs.Keywords.{is_keyword}
use Rattle.def_contexts.specs.Texts.{after_colon, before_colon, begins_authority, ends_scheme, is_absolute, is_letter, is_scheme_byte}
use Rattle.def_selection.specs.declared.pick.Pick.{Pick}
use Rattle.def_selection.specs.Chosen.{chosen, stands_for}
use Rattle.def_selection.specs.Iris.{short, by_vocab, by_prefix, compact_iri, is_confused, is_free, rest_after, term_named, unless_taken}
use Rattle.def_selection.specs.Laws.{IsTermFor, IsRestFor, IsCompactFor}
use Rattle.def_selection.proofs.Members.{filter_in, first_in, rest_in, in_cases, none_in, some_passes}
use Rattle.def_selection.proofs.Least.{least_in}
use Rattle.def_selection.proofs.Fits.{chosen-fits, stands_for-same, text_eq-same}

-- the first that there is
or_cases_of : {A : Type 0} (o p : Option A) (x : A) → option_or o p ≡ Some x → (o ≡ Some x) ⊎ (p ≡ Some x)
or_cases_of None p x e = inr e
or_cases_of (Some y) p x e = inl e

no_first : {A : Type 0} (o p : Option A) → option_or o p ≡ None → p ≡ None
no_first None p e = e
no_first (Some y) p e = cc

-- a choice that gives something
chosen_then : {A : Type 0} (b : Bool) (o : Option A) (x : A) → cond b o None ≡ Some x → (b ≡ true) × (o ≡ Some x)
chosen_then true o x e = (refl, e)
chosen_then false o x e = cc

-- a refusal or a value
unrefused : {A : Type 0} (b : Bool) (x y : A) → cond b None (Some x) ≡ Some y → (b ≡ false) × (y ≡ x)
unrefused true x y e = cc
unrefused false x y e = (refl, cc)

mapped : {A B : Type 0} (f : A → B) (o : Option A) (y : B) → option_map f o ≡ Some y → (x : A) × (o ≡ Some x) × (f x ≡ y)
mapped f None y e = cc
mapped f (Some x) y e = (x, refl, cc)

-- what follows a start makes up the text with it
rest-whole : (text : List ℕ) (o : Option (List ℕ)) (rest : List ℕ) → rest_after text o ≡ Some rest → (start : List ℕ) × (o ≡ Some start) × (start ++ rest ≡ text)
rest-whole text None rest e = cc
rest-whole text (Some start) rest e =
    let given = chosen_then (starts_with nat_eq text start && nat_lt (length start) (length text)) (Some (drop (length start) text)) rest e in
    let begins = and_parts (starts_with nat_eq text start) (nat_lt (length start) (length text)) given.0 in
    let front : start ≡ take (length start) text = (bytes_decides start (take (length start) text)).0 begins.0 in
    let back : drop (length start) text ≡ rest = cc (given.1) in
    (start, refl, (λ i. front i ++ sym back i) ∙ take-append-drop (length start) text)

-- there is none where none is told
is_none : {A : Type 0} (o : Option A) → is_some o ≡ false → o ≡ None
is_none None e = refl
is_none (Some x) e = cc

untaken : (table : TermTable) (o : Option (List ℕ)) (rest : List ℕ) → unless_taken table o ≡ Some rest
    → (o ≡ Some rest) × (term_named table rest ≡ None) × (is_keyword rest ≡ false)
untaken table None rest e = cc
untaken table (Some other) rest e =
    let (free, same) = unrefused (is_some (term_named table other) || is_keyword other) other rest e in
    let both = or_parts (is_some (term_named table other)) (is_keyword other) free in (
      ap Some (sym same),
      ap (term_named table) same ∙ is_none (term_named table other) both.0,
      ap is_keyword same ∙ both.1,
    )

-- a compact IRI that is free is the name of no term of another IRI
free-own : (iri : List ℕ) (has_value : Bool) (o : Option TermDef) → is_free iri has_value o ≡ true → (named : TermDef) → o ≡ Some named → named.iri ≡ Some iri
free-own iri has_value None free named e = cc
free-own iri has_value (Some term) free named e =
    let same : term ≡ named = cc in
    subst (λ t. t.iri ≡ Some iri) same (stands_for-same iri term.iri (and_parts (not has_value) (stands_for iri term) free).1)

-- an element that a partial function made
made_from : {A B : Type 0} (h : A → Option B) (xs : List A) (y : B) → Contains (filter_map h xs) y → (x : A) × Contains xs x × (h x ≡ Some y)
made_from h [] y held = absurd (none_in y held)
made_from h (x ∷ xs) y held = go (h x) refl held (made_from h xs y)
  where
    later : (z : _) × Contains xs z × (h z ≡ Some y) → (z : _) × Contains (x ∷ xs) z × (h z ≡ Some y)
    later (z, there, e) = (z, rest_in x xs z there, e)

    go : (o : Option _) → h x ≡ o → Contains (cons_option o (filter_map h xs)) y → (Contains (filter_map h xs) y → (z : _) × Contains xs z × (h z ≡ Some y)) → (z : _) × Contains (x ∷ xs) z × (h z ≡ Some y)
    go None at held' ih = later (ih held')
    go (Some w) at held' ih =
        elim (in_cases w (filter_map h xs) y held') [
          | inl same ↦ (x, first_in x xs, at ∙ ap Some same)
          | inr more ↦ later (ih more)
        ]

compact-parts : (iri : List ℕ) (term : TermDef) (text : List ℕ) → compact_iri iri term ≡ Some text
    → (term.prefix ≡ true) × ((start rest : List ℕ) × (term.iri ≡ Some start) × (start ++ rest ≡ iri) × (term.name ++ 58 ∷ rest ≡ text))
compact-parts iri term text e =
    let given = chosen_then term.prefix (option_map (λ rest. term.name ++ 58 ∷ rest) (rest_after iri term.iri)) text e in
    let (rest, at, written) = mapped (λ rest. term.name ++ 58 ∷ rest) (rest_after iri term.iri) text given.1 in
    let (start, has, whole) = rest-whole iri term.iri rest at in
    (given.0, (start, rest, has, whole, written))

by_term-tells : (table : TermTable) (iri : List ℕ) (pick : Pick) (text : List ℕ) → option_map (λ t. t.name) (chosen table iri pick) ≡ Some text → IsTermFor table iri text
by_term-tells table iri pick text e =
    let (term, at, name) = mapped (λ t. t.name) (chosen table iri pick) text e in
    let fits = chosen-fits table iri pick term at in
    record { term = term; listed = fits.0; has_iri = fits.1.has_iri; name = name }

by_vocab-tells : (table : TermTable) (iri text : List ℕ) → by_vocab table iri ≡ Some text → IsRestFor table iri text
by_vocab-tells table iri text e =
    let (left, no_term, no_keyword) = untaken table (rest_after iri table.vocab) text e in
    let (start, mapping, whole) = rest-whole iri table.vocab text left in
    record { start = start; mapping = mapping; whole = whole; no_term = no_term; no_keyword = no_keyword }

by_prefix-tells : (table : TermTable) (iri : List ℕ) (has_value : Bool) (text : List ℕ) → by_prefix table iri has_value ≡ Some text → IsCompactFor table iri text
by_prefix-tells table iri has_value text e =
    let free : List ℕ → Bool = λ compact. is_free iri has_value (term_named table compact) in
    let kept = filter_in free (filter_map (compact_iri iri) table.terms) text (least_in (λ compact. length compact ∷ compact) (filter free (filter_map (compact_iri iri) table.terms)) text e) in
    let (term, listed, at) = made_from (compact_iri iri) table.terms text kept.0 in
    let (may, (start, rest, has, whole, written)) = compact-parts iri term text at in
    record { term = term; start = start; rest = rest; listed = listed; may_prefix = may; has_iri = has; whole = whole; written = written; own_term = free-own iri has_value (term_named table text) kept.1 }

-- the step that gave a compacted IRI; the IRI itself only where it isn't confused
pub short-steps : (table : TermTable) (iri : List ℕ) (vocab : Bool) (pick : Pick) (text : List ℕ) → short table iri vocab pick ≡ Some text
    → ((vocab ≡ true) × (IsTermFor table iri text ⊎ IsRestFor table iri text))
    ⊎ (IsCompactFor table iri text ⊎ ((is_confused table iri ≡ false) × (text ≡ iri)))
short-steps table iri vocab pick text e =
    elim (or_cases_of _ _ text e) [
      | inl term ↦ let given = chosen_then vocab _ text term in inl (given.0, inl (by_term-tells table iri pick text given.1))
      | inr more ↦ elim (or_cases_of _ _ text more) [
        | inl rest ↦ let given = chosen_then vocab _ text rest in inl (given.0, inr (by_vocab-tells table iri text given.1))
        | inr still ↦ elim (or_cases_of _ _ text still) [
          | inl compact ↦ inr (inl (by_prefix-tells table iri pick.has_value text compact))
          | inr itself ↦ inr (inr (unrefused (is_confused table iri) iri text itself))
        ]
      ]
    ]

pub short-tells : (table : TermTable) (iri : List ℕ) (vocab : Bool) (pick : Pick) (text : List ℕ) → short table iri vocab pick ≡ Some text
    → ((vocab ≡ true) × (IsTermFor table iri text ⊎ IsRestFor table iri text)) ⊎ (IsCompactFor table iri text ⊎ (text ≡ iri))
short-tells table iri vocab pick text e =
    elim (short-steps table iri vocab pick text e) [
      | inl named ↦ inl named
      | inr (inl compact) ↦ inr (inl compact)
      | inr (inr itself) ↦ inr (inr itself.1)
    ]

-- a text with a scheme is what stands before its colon, the colon, and what stands after it
scheme-cut : (xs : List ℕ) → ends_scheme xs ≡ true → before_colon xs ++ 58 ∷ after_colon xs ≡ xs
scheme-cut [] e = cc
scheme-cut (b ∷ rest) e = go (nat_eq b 58) refl e (scheme-cut rest)
  where
    go : (c : Bool) → nat_eq b 58 ≡ c → (c || is_scheme_byte b && ends_scheme rest) ≡ true
        → (ends_scheme rest ≡ true → before_colon rest ++ 58 ∷ after_colon rest ≡ rest)
        → cond c [] (b ∷ before_colon rest) ++ 58 ∷ cond c rest (after_colon rest) ≡ b ∷ rest
    go true at e' ih = ap (λ n. n ∷ rest) (sym (eqb-true b 58 at))
    go false at e' ih = ap (λ xs. b ∷ xs) (ih (and_parts (is_scheme_byte b) (ends_scheme rest) e').1)

absolute-cut : (xs : List ℕ) → is_absolute xs ≡ true → before_colon xs ++ 58 ∷ after_colon xs ≡ xs
unfolding is_absolute
absolute-cut [] e = cc
absolute-cut (b ∷ rest) e = go (nat_eq b 58) refl (scheme-cut rest (and_parts (is_letter b) (ends_scheme rest) e).1)
  where
    go : (c : Bool) → nat_eq b 58 ≡ c → before_colon rest ++ 58 ∷ after_colon rest ≡ rest
        → cond c [] (b ∷ before_colon rest) ++ 58 ∷ cond c rest (after_colon rest) ≡ b ∷ rest
    go true at whole = ap (λ n. n ∷ rest) (sym (eqb-true b 58 at))
    go false at whole = ap (λ xs. b ∷ xs) whole

refused : {A : Type 0} (b : Bool) (x : A) → cond b None (Some x) ≡ None → b ≡ true
refused true x e = refl
refused false x e = cc

pub only-confused : (table : TermTable) (iri : List ℕ) (vocab : Bool) (pick : Pick) → short table iri vocab pick ≡ None
    → (term : TermDef) × (rest : List ℕ) × Contains table.terms term × (term.prefix ≡ true)
    × (term.name ++ 58 ∷ rest ≡ iri) × (begins_authority rest ≡ false)
only-confused table iri vocab pick e =
    let scheme : List ℕ = before_colon iri in
    let rest : List ℕ = after_colon iri in
    let named : TermDef → Bool = λ term. text_eq term.name scheme && term.prefix in
    let named_by : Option (List ℕ) = cond vocab (option_map (λ t. t.name) (chosen table iri pick)) None in
    let left : Option (List ℕ) = cond vocab (by_vocab table iri) None in
    let last : Option (List ℕ) = cond (is_confused table iri) None (Some iri) in
    let confused : is_confused table iri ≡ true =
    refused (is_confused table iri) iri
    (no_first (by_prefix table iri pick.has_value) last
    (no_first left (option_or (by_prefix table iri pick.has_value) last)
    (no_first named_by (option_or left (option_or (by_prefix table iri pick.has_value) last)) e))) in
    let outer = and_parts (is_absolute iri && list_any named table.terms) (not (begins_authority rest)) confused in
    let inner = and_parts (is_absolute iri) (list_any named table.terms) outer.0 in
    let (term, listed, holds) = some_passes named table.terms inner.1 in
    let both = and_parts (text_eq term.name scheme) term.prefix holds in (
      term,
      rest,
      listed,
      both.1,
      ap (λ n. n ++ 58 ∷ rest) (text_eq-same term.name scheme both.0) ∙ absolute-cut iri inner.0,
      not-true _ outer.1,
    )
