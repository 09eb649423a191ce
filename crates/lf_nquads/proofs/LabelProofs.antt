-- The longest label, found with the dots that may stand at its end.
use Rattle.std.proofs.Common.{◌≡◌, ℕ, ◌+◌, ◌<◌, ◌≤◌, Bool, true, false, List, [], ◌∷◌, ◌++◌, length, Option, Some, None, refl, sym, ap, subst, ◌∙◌, append_assoc, arith, inl, inr}
use Rattle.std.specs.Prelude.{nat_eq, not, ◌&&◌, ◌||◌}
use Rattle.std.specs.List.{list_all}
use Rattle.std.proofs.lemmas.Bool.{and_parts, and_from, cases_lt, or_cases, or_left, or_right, eqb-true, false≢true}
use Rattle.std.proofs.lemmas.List.{length-append}
use Rattle.std.proofs.lemmas.List.Folds.{list_all-append}
use Rattle.def_patch_texts.specs.Characters.{is_digit, is_pn_chars_u, is_label_char, is_label, ends_well}
use Rattle.def_patch_texts.specs.Reading.{front_at}
use Rattle.def_patch_texts.proofs.Fronts.{front_again}
use Rattle.def_patch_texts.proofs.Takes.{front_takes}
use Rattle.lf_nquads.specs.Scanning.{first_is}

abbrev pub is_dot : ℕ → Bool
is_dot c = nat_eq c 46

-- the longest label so far, then dots, and then this text
pub record LabelSoFar (start end rest : List ℕ) : Type 0 where
  pub label : List ℕ
  pub dots : List ℕ
  pub begins : start ≡ label ++ end
  pub goes_on : end ≡ dots ++ rest
  pub fits : is_label label ≡ true
  pub dotted : list_all is_dot dots ≡ true

pub label_begins : (start rest : List ℕ) (c : ℕ) → start ≡ c ∷ rest → (is_pn_chars_u c || is_digit c) ≡ true → LabelSoFar start rest rest
label_begins start rest c e h = record { label = c ∷ []; dots = []; begins = e; goes_on = refl; fits = label_of_one c h; dotted = refl }
  where
    no_dot_first : (c : ℕ) (b : Bool) → nat_eq c 46 ≡ b → (is_pn_chars_u c || is_digit c) ≡ true → not b ≡ true
    no_dot_first c true e h = let same : c ≡ 46 = eqb-true c 46 e in absurd (false≢true (subst (λ (x : ℕ). (is_pn_chars_u x || is_digit x) ≡ true) same h))
    no_dot_first c false e h = refl

    label_of_one : (c : ℕ) → (is_pn_chars_u c || is_digit c) ≡ true → is_label (c ∷ []) ≡ true
    label_of_one c h = and_from _ _ (and_from _ _ h refl) (no_dot_first c (nat_eq c 46) refl h)

pub label_dot : (start end rest after : List ℕ) (c : ℕ) → LabelSoFar start end rest → rest ≡ c ∷ after → nat_eq c 46 ≡ true → LabelSoFar start end after
label_dot start end rest after c l e dot = record {
  label = l.label;
  dots = l.dots ++ c ∷ [];
  begins = l.begins;
  goes_on = l.goes_on ∙ ap (λ (t : List ℕ). l.dots ++ t) e ∙ sym (append_assoc l.dots (c ∷ []) after);
  fits = l.fits;
  dotted = list_all-append is_dot l.dots (c ∷ []) ∙ and_from _ _ l.dotted (and_from _ _ dot refl);
}

ends_well-last : (f : ℕ) (xs : List ℕ) (c : ℕ) → ends_well f (xs ++ c ∷ []) ≡ not (nat_eq c 46)
ends_well-last f [] c = refl
ends_well-last f (x ∷ xs) c = ends_well-last x xs c

pub dots_are_chars : (dots : List ℕ) → list_all is_dot dots ≡ true → list_all is_label_char dots ≡ true
dots_are_chars [] h = refl
dots_are_chars (d ∷ dots) h =
    let parts = and_parts (is_dot d) (list_all is_dot dots) h in
    let same : d ≡ 46 = eqb-true d 46 parts.0 in
    and_from _ _ (subst (λ (x : ℕ). is_label_char x ≡ true) (sym same) refl) (dots_are_chars dots parts.1)

pub longer_label : (label xs : List ℕ) (c : ℕ) → is_label label ≡ true → list_all is_label_char xs ≡ true → is_label_char c ≡ true → nat_eq c 46 ≡ false → is_label (label ++ (xs ++ c ∷ [])) ≡ true
longer_label [] xs c h hx hc other = absurd (false≢true h)
longer_label (f ∷ label) xs c h hx hc other =
    let outer = and_parts ((is_pn_chars_u f || is_digit f) && list_all is_label_char label) (ends_well f label) h in
    let inner = and_parts (is_pn_chars_u f || is_digit f) (list_all is_label_char label) outer.0 in
    let all : list_all is_label_char (label ++ (xs ++ c ∷ [])) ≡ true =
    list_all-append is_label_char label (xs ++ c ∷ []) ∙ and_from _ _ inner.1 (list_all-append is_label_char xs (c ∷ []) ∙ and_from _ _ hx (and_from _ _ hc refl)) in
    let well : ends_well f (label ++ (xs ++ c ∷ [])) ≡ true =
    ap (ends_well f) (sym (append_assoc label xs (c ∷ []))) ∙ ends_well-last f (label ++ xs) c ∙ ap not other in
    and_from _ _ (and_from _ _ inner.0 all) well

pub label_more : (start end rest after : List ℕ) (c : ℕ) → LabelSoFar start end rest → rest ≡ c ∷ after → is_label_char c ≡ true → nat_eq c 46 ≡ false → LabelSoFar start after after
label_more start end rest after c l e hc other = record {
  label = l.label ++ (l.dots ++ c ∷ []);
  dots = [];
  begins =
      l.begins
      ∙ ap (λ (t : List ℕ). l.label ++ t) (l.goes_on ∙ ap (λ (t : List ℕ). l.dots ++ t) e ∙ sym (append_assoc l.dots (c ∷ []) after))
      ∙ sym (append_assoc l.label (l.dots ++ c ∷ []) after);
  goes_on = refl;
  fits = longer_label l.label l.dots c l.fits (dots_are_chars l.dots l.dotted) hc other;
  dotted = refl;
}

-- ---- no longer front is a label

pub front_within : (p : ℕ → Bool) (xs ys longer more : List ℕ) → first_is p ys ≡ false → xs ++ ys ≡ longer ++ more → list_all p longer ≡ true → length longer ≤ length xs
front_within p xs ys [] more stop e h = omega arith
front_within p [] [] (l ∷ longer) more stop e h = absurd cc
front_within p [] (y ∷ ys) (l ∷ longer) more stop e h =
    let same : l ≡ y = cc in
    absurd (false≢true (sym stop ∙ subst (λ (x : ℕ). p x ≡ true) same (and_parts (p l) (list_all p longer) h).0))
front_within p (x ∷ xs) ys (l ∷ longer) more stop e h =
    let tail : xs ++ ys ≡ longer ++ more = cc in
    let next : length longer ≤ length xs = front_within p xs ys longer more stop tail (and_parts (p l) (list_all p longer) h).1 in
    omega arith

dots_end_badly : (f : ℕ) (dots ys longer more : List ℕ) → list_all is_dot dots ≡ true → dots ++ ys ≡ longer ++ more → 0 < length longer → length longer ≤ length dots → ends_well f longer ≡ false
dots_end_badly f dots ys [] more h e some le = absurd (omega arith)
dots_end_badly f [] ys (l ∷ longer) more h e some le = absurd (omega arith)
dots_end_badly f (d ∷ dots) ys (l ∷ []) more h e some le =
    let same : l ≡ d = cc in
    let dot : nat_eq l 46 ≡ true = subst (λ (x : ℕ). is_dot x ≡ true) (sym same) (and_parts (is_dot d) (list_all is_dot dots) h).0 in ap not dot
dots_end_badly f (d ∷ dots) ys (l ∷ k ∷ longer) more h e some le =
    let tail : dots ++ ys ≡ (k ∷ longer) ++ more = cc in
    dots_end_badly l dots ys (k ∷ longer) more (and_parts (is_dot d) (list_all is_dot dots) h).1 tail (omega arith) (omega arith)

ends_badly : (f : ℕ) (xs dots ys longer more : List ℕ) → list_all is_dot dots ≡ true → xs ++ (dots ++ ys) ≡ longer ++ more → length xs < length longer → length longer ≤ length xs + length dots → ends_well f longer ≡ false
ends_badly f [] dots ys longer more h e lt le = dots_end_badly f dots ys longer more h e lt (omega arith)
ends_badly f (x ∷ xs) dots ys [] more h e lt le = absurd (omega arith)
ends_badly f (x ∷ xs) dots ys (l ∷ longer) more h e lt le =
    let tail : xs ++ (dots ++ ys) ≡ longer ++ more = cc in
    ends_badly l xs dots ys longer more h tail (omega arith) (omega arith)

first_label_char : (c : ℕ) → (is_pn_chars_u c || is_digit c) ≡ true → is_label_char c ≡ true
first_label_char c h =
    elim (or_cases (is_pn_chars_u c) (is_digit c) h) [ inl u ↦ rw u refl | inr d ↦ digit_label c d ]
  where
    digit_label : (c : ℕ) → is_digit c ≡ true → is_label_char c ≡ true
    digit_label c d = or_left _ _ (or_left _ _ (or_left _ _ (or_left _ _ (or_right (is_pn_chars_u c || nat_eq c 45) (is_digit c) d))))

label_chars : (label : List ℕ) → is_label label ≡ true → list_all is_label_char label ≡ true
label_chars [] h = refl
label_chars (c ∷ label) h =
    let outer = and_parts ((is_pn_chars_u c || is_digit c) && list_all is_label_char label) (ends_well c label) h in
    let inner = and_parts (is_pn_chars_u c || is_digit c) (list_all is_label_char label) outer.0 in
    and_from _ _ (first_label_char c inner.0) inner.1

label_ends_well : (label : List ℕ) → is_label label ≡ true → ends_well 0 label ≡ true
label_ends_well [] h = absurd (false≢true h)
label_ends_well (c ∷ label) h = (and_parts ((is_pn_chars_u c || is_digit c) && list_all is_label_char label) (ends_well c label) h).1

label_full : (label : List ℕ) → is_label label ≡ true → length label ≡ 0 → ⊥
label_full [] h e = false≢true h
label_full (c ∷ label) h e = absurd (omega arith)

pub label_found : (start end rest : List ℕ) (l : LabelSoFar start end rest) → first_is is_label_char rest ≡ false → front_at is_label start ≡ Some (l.label, end)
label_found start end rest l stop =
    ap (front_at is_label) l.begins
    ∙ front_again is_label l.label end l.fits (label_full l.label l.fits)
    (λ longer more same fits.
    let spelled : l.label ++ (l.dots ++ rest) ≡ longer ++ more = ap (λ (t : List ℕ). l.label ++ t) (sym l.goes_on) ∙ same in
    let within : length longer ≤ length (l.label ++ l.dots) =
    front_within is_label_char (l.label ++ l.dots) rest longer more stop (append_assoc l.label l.dots rest ∙ spelled) (label_chars longer fits) in
    elim (cases_lt (length l.label) (length longer)) [
      | inl lt ↦
          absurd (false≢true (sym (ends_badly 0 l.label l.dots rest longer more l.dotted spelled lt (omega (arith, within, length-append l.label l.dots))) ∙ label_ends_well longer fits))
      | inr ge ↦ ge
    ])

pub no_label : (start : List ℕ) → first_is (λ c. is_pn_chars_u c || is_digit c) start ≡ false → (label more : List ℕ) → start ≡ label ++ more → is_label label ≡ true → ⊥
no_label start h [] more e fits = false≢true fits
no_label start h (c ∷ label) more e fits =
    let outer = and_parts ((is_pn_chars_u c || is_digit c) && list_all is_label_char label) (ends_well c label) fits in
    let first = (and_parts (is_pn_chars_u c || is_digit c) (list_all is_label_char label) outer.0).0 in
    false≢true (sym h ∙ ap (first_is (λ c. is_pn_chars_u c || is_digit c)) e ∙ first)

-- nothing is found where no front passes the test
pub none_found : (test : List ℕ → Bool) (start : List ℕ) → ((front more : List ℕ) → start ≡ front ++ more → test front ≡ true → ⊥) → front_at test start ≡ None
none_found test start never = go (front_at test start) refl
  where
    go : (o : Option (List ℕ × List ℕ)) → front_at test start ≡ o → o ≡ None
    go None e = refl
    go (Some x) e = let t = front_takes test start x e in absurd (never x.0 x.1 t.parts t.fits)
