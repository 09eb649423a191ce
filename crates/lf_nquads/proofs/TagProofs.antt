-- The longest language tag, found from left to right.
use Rattle.std.proofs.Common.{◌≡◌, ℕ, ◌+◌, ◌≤◌, Bool, true, false, List, [], ◌∷◌, ◌++◌, length, Some, None, refl, sym, ap, subst, ◌∙◌, append_assoc, arith, inl, inr}
use Rattle.std.specs.Prelude.{nat_eq, not, ◌||◌}
use Rattle.std.proofs.lemmas.Bool.{and_parts, cases_lt, eqb-true, false≢true}
use Rattle.std.proofs.lemmas.List.{length-append, append-nil}
use Rattle.def_patch_texts.specs.Characters.{is_tag, is_tag_rest}
use Rattle.def_patch_texts.specs.Reading.{front_at}
use Rattle.def_patch_texts.proofs.Fronts.{front_again}
use Rattle.lf_nquads.specs.Scanning.{first_is, is_tag_char}
use Rattle.lf_nquads.proofs.LabelProofs.{none_found}

-- the tag that ends here, what was read behind it, and what may follow: a `-` behind which a character is needed, or nothing
pub record TagSoFar (start end rest : List ℕ) (needed digits : Bool) : Type 0 where
  pub tag : List ℕ
  pub read : List ℕ
  pub begins : start ≡ tag ++ end
  pub spelled : start ≡ read ++ rest
  pub goes_on : (more : List ℕ) → is_tag (read ++ more) ≡ is_tag_rest needed digits more
  pub whole : needed ≡ false → read ≡ tag
  pub most : length read ≤ length tag + 1
  pub fits : (length tag ≡ 0 → ⊥) → is_tag tag ≡ true

pub tag_begins : (start : List ℕ) → TagSoFar start start start true false
tag_begins start = record {
  tag = [];
  read = [];
  begins = refl;
  spelled = refl;
  goes_on = λ more. refl;
  whole = λ e. absurd (false≢true (sym e));
  most = omega arith;
  fits = λ some. absurd (some refl);
}

pub goes_further : (read : List ℕ) (needed digits : Bool) (c : ℕ) → ((more : List ℕ) → is_tag (read ++ more) ≡ is_tag_rest needed digits more) → is_tag_char needed digits c ≡ true
    → (more : List ℕ) → is_tag ((read ++ c ∷ []) ++ more) ≡ is_tag_rest (nat_eq c 45) (digits || nat_eq c 45) more
goes_further read needed digits c before h more =
    ap is_tag (append_assoc read (c ∷ []) more) ∙ before (c ∷ more) ∙ rw h refl

pub tag_more : (start end rest after : List ℕ) (needed digits : Bool) (c : ℕ) → TagSoFar start end rest needed digits → rest ≡ c ∷ after → is_tag_char needed digits c ≡ true → nat_eq c 45 ≡ false
    → TagSoFar start after after (nat_eq c 45) (digits || nat_eq c 45)
tag_more start end rest after needed digits c t e h other =
    let further = goes_further t.read needed digits c t.goes_on h in
    let spelled : start ≡ (t.read ++ c ∷ []) ++ after = t.spelled ∙ ap (λ (x : List ℕ). t.read ++ x) e ∙ sym (append_assoc t.read (c ∷ []) after) in
    let fits : is_tag (t.read ++ c ∷ []) ≡ true = ap is_tag (sym (append-nil (t.read ++ c ∷ []))) ∙ further [] ∙ ap not other in
    record {
      tag = t.read ++ c ∷ [];
      read = t.read ++ c ∷ [];
      begins = spelled;
      spelled = spelled;
      goes_on = further;
      whole = λ e. refl;
      most = omega arith;
      fits = λ some. fits;
    }

pub dash_not_needed : (needed digits : Bool) (c : ℕ) → is_tag_char needed digits c ≡ true → nat_eq c 45 ≡ true → needed ≡ false
dash_not_needed true true c h e = let same : c ≡ 45 = eqb-true c 45 e in absurd (false≢true (subst (λ (x : ℕ). is_tag_char true true x ≡ true) same h))
dash_not_needed true false c h e = let same : c ≡ 45 = eqb-true c 45 e in absurd (false≢true (subst (λ (x : ℕ). is_tag_char true false x ≡ true) same h))
dash_not_needed false digits c h e = refl

pub tag_dash : (start end rest after : List ℕ) (needed digits : Bool) (c : ℕ) → TagSoFar start end rest needed digits → rest ≡ c ∷ after → is_tag_char needed digits c ≡ true → nat_eq c 45 ≡ true
    → TagSoFar start end after (nat_eq c 45) (digits || nat_eq c 45)
tag_dash start end rest after needed digits c t e h dash =
    let same : t.read ≡ t.tag = t.whole (dash_not_needed needed digits c h dash) in
    record {
      tag = t.tag;
      read = t.read ++ c ∷ [];
      begins = t.begins;
      spelled = t.spelled ∙ ap (λ (x : List ℕ). t.read ++ x) e ∙ sym (append_assoc t.read (c ∷ []) after);
      goes_on = goes_further t.read needed digits c t.goes_on h;
      whole = λ no_dash. absurd (false≢true (sym no_dash ∙ dash));
      most = omega (arith, length-append t.read (c ∷ []), ap length same);
      fits = t.fits;
    }

-- ---- no longer front is a tag

-- what is longer than a front begins with it
longer_begins : (xs ys longer more : List ℕ) → xs ++ ys ≡ longer ++ more → length xs ≤ length longer → (rest : List ℕ) × (longer ≡ xs ++ rest) × (ys ≡ rest ++ more)
longer_begins [] ys longer more e le = (longer, refl, e)
longer_begins (x ∷ xs) ys [] more e le = absurd (omega arith)
longer_begins (x ∷ xs) ys (l ∷ longer) more e le =
    let tail : xs ++ ys ≡ longer ++ more = cc in
    let same : l ≡ x = cc in
    let r = longer_begins xs ys longer more tail (omega arith) in
    (r.0, ap (λ (h : ℕ). h ∷ longer) same ∙ ap (λ (t : List ℕ). x ∷ t) r.1, r.2)

stops_here : (needed digits : Bool) (ys rest more : List ℕ) → first_is (is_tag_char needed digits) ys ≡ false → ys ≡ rest ++ more → is_tag_rest needed digits rest ≡ true → (rest ≡ []) × (needed ≡ false)
stops_here true digits ys [] more stop e h = absurd (false≢true h)
stops_here false digits ys [] more stop e h = (refl, refl)
stops_here needed digits ys (r ∷ rest) more stop e h =
    let first : is_tag_char needed digits r ≡ true = (and_parts (is_tag_char needed digits r) (is_tag_rest (nat_eq r 45) (digits || nat_eq r 45) rest) h).0 in
    absurd (false≢true (sym stop ∙ ap (first_is (is_tag_char needed digits)) e ∙ first))

tag_bound : (start end rest : List ℕ) (needed digits : Bool) (t : TagSoFar start end rest needed digits) → first_is (is_tag_char needed digits) rest ≡ false
    → (longer more : List ℕ) → start ≡ longer ++ more → is_tag longer ≡ true → length longer ≤ length t.tag
tag_bound start end rest needed digits t stop longer more same fits =
    elim (cases_lt (length t.tag) (length longer)) [
      | inl lt ↦
          let le : length t.read ≤ length longer = omega (arith, t.most) in
          let b = longer_begins t.read rest longer more (sym t.spelled ∙ same) le in
          let s = stops_here needed digits rest b.0 more stop b.2 (sym (t.goes_on b.0) ∙ ap is_tag (sym b.1) ∙ fits) in
          let all : longer ≡ t.tag = b.1 ∙ ap (λ (x : List ℕ). t.read ++ x) s.0 ∙ append-nil t.read ∙ t.whole s.1 in
          omega (arith, ap length all)
      | inr ge ↦ ge
    ]

pub tag_found : (start end rest : List ℕ) (needed digits : Bool) (t : TagSoFar start end rest needed digits) → first_is (is_tag_char needed digits) rest ≡ false → (length t.tag ≡ 0 → ⊥)
    → front_at is_tag start ≡ Some (t.tag, end)
tag_found start end rest needed digits t stop some =
    ap (front_at is_tag) t.begins
    ∙ front_again is_tag t.tag end (t.fits some) some
    (λ longer more same fits. tag_bound start end rest needed digits t stop longer more (t.begins ∙ same) fits)

tag_full : (tag : List ℕ) → is_tag tag ≡ true → length tag ≡ 0 → ⊥
tag_full [] h e = false≢true h
tag_full (c ∷ tag) h e = absurd (omega arith)

pub no_tag : (start end rest : List ℕ) (needed digits : Bool) (t : TagSoFar start end rest needed digits) → first_is (is_tag_char needed digits) rest ≡ false → length t.tag ≡ 0
    → front_at is_tag start ≡ None
no_tag start end rest needed digits t stop none =
    none_found is_tag start (λ front more same fits.
    let le : length front ≤ length t.tag = tag_bound start end rest needed digits t stop front more same fits in
    tag_full front fits (omega arith))
