-- How far escapes go: as far as some digits that may follow name a character that may stand there.
use Rattle.std.proofs.Common.{◌≡◌, ℕ, zero, suc, ◌+◌, ◌*◌, ◌<◌, ◌≤◌, Bool, true, false, cond, List, [], ◌∷◌, ◌++◌, length, take, drop, Option, Some, None, refl, sym, ap, ◌∙◌, append_assoc, arith, inl, inr}
use Rattle.std.specs.Prelude.{nat_eq, nat_le, ◌&&◌, ◌||◌}
use Rattle.std.specs.Str.{all_scalars}
use Rattle.std.specs.List.{list_all}
use Rattle.std.proofs.lemmas.Bool.{and_parts, and_right, cases_lt, eqb-true, eq-eqb, ne_eqb, false_from_ne_true, false≢true, le-leb, lt-leb, or_right}
use Rattle.std.proofs.lemmas.List.{length-append}
use Rattle.std.proofs.lemmas.Option.{none-some}
use Rattle.def_patch_texts.specs.declared.kind.LineKind.{LineKind}
use Rattle.def_patch_texts.specs.declared.kind.LineKind.TheVariants.{BadEscape}
use Rattle.def_patch_texts.specs.Terminals.{Allowed}
use Rattle.def_patch_texts.specs.Characters.{is_between, is_digit, is_hex_digit, hex_digit, hex_number}
use Rattle.def_patch_texts.specs.BadLine.{any_iris, absolute_before, whole_before}
use Rattle.def_patch_texts.specs.Reading.{numbered_at, unicode_at}
use Rattle.lf_nquads.proofs.Hex.{digit_below}
use Rattle.lf_nquads.proofs.Walks.{Lang, Mode, lax_mode, absolute_mode, whole_mode, allowed_in, Opens, Found, Step, any_step, shift, Finish, inside_end, inside_stop}

-- ---- digits that may still name a character that passes a test

abbrev pub passes : (ℕ → Bool) → ℕ → Bool
passes p v = all_scalars (v ∷ []) && p v

pub any_below : ℕ → (ℕ → Bool) → Bool
any_below zero f = false
any_below (suc n) f = f n || any_below n f

-- some so many digits behind this number name such a character
pub can : (ℕ → Bool) → ℕ → ℕ → Bool
can p zero v = passes p v
can p (suc n) v = any_below 16 (λ d. can p n (v * 16 + d))

any_gives : (n : ℕ) (f : ℕ → Bool) → any_below n f ≡ true → (d : ℕ) × (d < n) × (f d ≡ true)
unfolding any_below
any_gives zero f e = absurd (false≢true e)
any_gives (suc n) f e = go (f n) refl e (any_gives n f)
  where
    go : (b : Bool) → f n ≡ b → (b || any_below n f) ≡ true → (any_below n f ≡ true → (d : ℕ) × (d < n) × (f d ≡ true)) → (d : ℕ) × (d < suc n) × (f d ≡ true)
    go true b e more = (n, omega arith, b)
    go false b e more = let m = more e in (m.0, (let lt : m.0 < n = m.1 in omega arith), m.2)

any_from : (n : ℕ) (f : ℕ → Bool) (d : ℕ) → d < n → f d ≡ true → any_below n f ≡ true
unfolding any_below
any_from zero f d lt e = absurd (omega arith)
any_from (suc n) f d lt e =
    elim (cases_lt d n) [
      | inl below ↦ rw (any_from n f d below e) (or_right (f n) true refl)
      | inr ge ↦ let same : d ≡ n = omega arith in rw (sym (ap f same) ∙ e) refl
    ]

abbrev digit_of : ℕ → ℕ
digit_of d = cond (nat_le 10 d) (87 + d) (48 + d)

low_digit : (d : ℕ) → d < 10 → is_digit (48 + d) ≡ true
low_digit d low = rw (le-leb 48 (48 + d) (omega arith), le-leb (48 + d) 57 (omega arith)) refl

high_digit : (d : ℕ) → 10 ≤ d → is_digit (87 + d) ≡ false
high_digit d high = rw (le-leb 48 (87 + d) (omega arith), lt-leb (87 + d) 57 (omega arith)) refl

high_capital : (d : ℕ) → 10 ≤ d → is_between 65 70 (87 + d) ≡ false
high_capital d high = rw (le-leb 65 (87 + d) (omega arith), lt-leb (87 + d) 70 (omega arith)) refl

high_small : (d : ℕ) → 10 ≤ d → d < 16 → is_between 97 102 (87 + d) ≡ true
high_small d high lt = rw (le-leb 97 (87 + d) (omega arith), le-leb (87 + d) 102 (omega arith)) refl

digit_is_hex : (d : ℕ) → d < 16 → is_hex_digit (digit_of d) ≡ true
digit_is_hex d lt =
    elim (cases_lt d 10) [
      | inl low ↦ rw (lt-leb 10 d low, low_digit d low) refl
      | inr high ↦ rw (le-leb 10 d high, high_digit d high, high_capital d high, high_small d high lt) refl
    ]

digit_has : (d : ℕ) → d < 16 → hex_digit (digit_of d) ≡ d
digit_has d lt =
    elim (cases_lt d 10) [
      | inl low ↦ rw (lt-leb 10 d low, low_digit d low) (omega arith)
      | inr high ↦ rw (le-leb 10 d high, high_digit d high, high_capital d high) (omega arith)
    ]

-- ---- what is read digit by digit

-- so many digits behind this text, which began with a backslash, and what then follows the character that they name
abbrev pub digits : (ℕ → Bool) → (ℕ → Lang) → List ℕ → ℕ → ℕ → Lang
digits p N before zero v A text = cond (passes p v && A.escape (before ++ text) text) (N v A text) (Some BadEscape)
digits p N before (suc n) v A [] = Some BadEscape
digits p N before (suc n) v A (c ∷ text) = cond (is_hex_digit c) (digits p N (before ++ c ∷ []) n (v * 16 + hex_digit c) A text) (Some BadEscape)

abbrev pub over_number : Option (ℕ × List ℕ) → (ℕ × List ℕ → Option LineKind) → Option LineKind
over_number None k = Some BadEscape
over_number (Some named) k = k named

-- what follows a character that may stand there
abbrev pub named_then : (ℕ → Bool) → (ℕ → Lang) → Allowed → List ℕ → ℕ × List ℕ → Option LineKind
named_then p N A start named = cond (p named.0 && A.escape start named.1) (N named.0 A named.1) (Some BadEscape)

abbrev numbered_from : ℕ → ℕ → List ℕ → Option (ℕ × List ℕ)
numbered_from n v text =
    cond (nat_eq (length (take n text)) n && list_all is_hex_digit (take n text) && all_scalars (hex_number v (take n text) ∷ [])) (Some (hex_number v (take n text), drop n text)) None

nat_eq-suc : (a b : ℕ) → nat_eq (suc a) (suc b) ≡ nat_eq a b
nat_eq-suc a b = go (nat_eq a b) refl
  where
    go : (r : Bool) → nat_eq a b ≡ r → nat_eq (suc a) (suc b) ≡ r
    go true e = let same : a ≡ b = eqb-true a b e in eq-eqb (suc a) (suc b) (ap (λ (x : ℕ). suc x) same)
    go false e = ne_eqb (suc a) (suc b) (λ same. let back : a ≡ b = omega arith in false≢true (sym e ∙ eq-eqb a b back))

no_digits : (n : ℕ) → nat_eq 0 (suc n) ≡ false
no_digits n = ne_eqb 0 (suc n) (λ e. omega arith)

one_digit : {X : Type 0} (x h y z : Bool) (s : X) → cond (x && (h && y) && z) (Some s) None ≡ cond h (cond (x && y && z) (Some s) None) None
one_digit true true y z s = refl
one_digit true false y z s = refl
one_digit false true y z s = refl
one_digit false false y z s = refl

over_cond : (h : Bool) (o : Option (ℕ × List ℕ)) (k : ℕ × List ℕ → Option LineKind) → over_number (cond h o None) k ≡ cond h (over_number o k) (Some BadEscape)
over_cond true o k = refl
over_cond false o k = refl

last_digit : (s q : Bool) (v : ℕ) (text : List ℕ) (k : ℕ × List ℕ → Option LineKind) (a : Option LineKind) → k (v, text) ≡ cond q a (Some BadEscape)
    → over_number (cond s (Some (v, text)) None) k ≡ cond (s && q) a (Some BadEscape)
last_digit true q v text k a e = e
last_digit false q v text k a e = refl

and_three : (s p e : Bool) → (s && (p && e)) ≡ (s && p && e)
and_three true p e = refl
and_three false p e = refl

by_digits : (p : ℕ → Bool) (N : ℕ → Lang) (A : Allowed) (before : List ℕ) (n v : ℕ) (text : List ℕ)
    → over_number (numbered_from n v text) (named_then p N A (before ++ text)) ≡ digits p N before n v A text
by_digits p N A before zero v text =
    last_digit (all_scalars (v ∷ [])) (p v && A.escape (before ++ text) text) v text (named_then p N A (before ++ text)) (N v A text) refl
    ∙ ap (λ (b : Bool). cond b (N v A text) (Some BadEscape)) (and_three (all_scalars (v ∷ [])) (p v) (A.escape (before ++ text) text))
by_digits p N A before (suc n) v [] = rw (no_digits n) refl
by_digits p N A before (suc n) v (c ∷ text) =
    let more : numbered_from (suc n) v (c ∷ text) ≡ cond (is_hex_digit c) (numbered_from n (v * 16 + hex_digit c) text) None =
    rw (nat_eq-suc (length (take n text)) n) (one_digit (nat_eq (length (take n text)) n) (is_hex_digit c) (list_all is_hex_digit (take n text)) (all_scalars (hex_number (v * 16 + hex_digit c) (take n text) ∷ [])) (hex_number (v * 16 + hex_digit c) (take n text), drop n text)) in
    let start : before ++ c ∷ text ≡ (before ++ c ∷ []) ++ text = sym (append_assoc before (c ∷ []) text) in
    ap (λ (o : Option (ℕ × List ℕ)). over_number o (named_then p N A (before ++ c ∷ text))) more
    ∙ over_cond (is_hex_digit c) (numbered_from n (v * 16 + hex_digit c) text) (named_then p N A (before ++ c ∷ text))
    ∙ ap (λ (o : Option LineKind). cond (is_hex_digit c) o (Some BadEscape))
    (ap (λ (s : List ℕ). over_number (numbered_from n (v * 16 + hex_digit c) text) (named_then p N A s)) start
    ∙ by_digits p N A (before ++ c ∷ []) n (v * 16 + hex_digit c) text)

-- ---- digits behind which none names such a character

can_not : (p : ℕ → Bool) (n v c : ℕ) → can p (suc n) v ≡ false → is_hex_digit c ≡ true → can p n (v * 16 + hex_digit c) ≡ false
unfolding can
can_not p n v c h hex =
    false_from_ne_true (can p n (v * 16 + hex_digit c)) (λ e.
    false≢true (sym h ∙ any_from 16 (λ d. can p n (v * 16 + d)) (hex_digit c) (digit_below c hex) e))

can_zero : (p : ℕ → Bool) (v : ℕ) → can p 0 v ≡ passes p v
unfolding can
can_zero p v = refl

cannot : (p : ℕ → Bool) (N : ℕ → Lang) (A : Allowed) (before : List ℕ) (n v : ℕ) (text : List ℕ) → can p n v ≡ false → digits p N before n v A text ≡ Some BadEscape
cannot p N A before zero v text h = let none : passes p v ≡ false = sym (can_zero p v) ∙ h in rw none refl
cannot p N A before (suc n) v [] h = refl
cannot p N A before (suc n) v (c ∷ text) h = go (is_hex_digit c) refl (λ hex. cannot p N A (before ++ c ∷ []) n (v * 16 + hex_digit c) text (can_not p n v c h hex))
  where
    go : (b : Bool) → is_hex_digit c ≡ b → (is_hex_digit c ≡ true → digits p N (before ++ c ∷ []) n (v * 16 + hex_digit c) A text ≡ Some BadEscape)
        → cond b (digits p N (before ++ c ∷ []) n (v * 16 + hex_digit c) A text) (Some BadEscape) ≡ Some BadEscape
    go true e more = more e
    go false e more = refl

-- ---- digits that may follow

-- how it may end where no escape is cut
pub record Half (L : Lang) : Type 0 where
  pub finish : List ℕ
  pub lax : L any_iris finish ≡ None
  pub absolute : (k : ℕ) → length finish ≤ k → L (absolute_before k) finish ≡ None

half_of : (L : Lang) → Finish L → Half L
half_of L f = record { finish = f.finish; lax = f.done lax_mode (length f.finish) (omega arith); absolute = λ k le. f.done absolute_mode k le }

pub half_lax : (L : Lang) → Half L → Opens L lax_mode []
half_lax L h = (h.finish, h.lax)

pub half_absolute : (L : Lang) → Half L → Opens L absolute_mode []
half_absolute L h = (h.finish, h.absolute (length h.finish) (omega arith))

can_digit : (p : ℕ → Bool) (n v : ℕ) → can p (suc n) v ≡ true → (d : ℕ) × (d < 16) × (can p n (v * 16 + d) ≡ true)
unfolding can
can_digit p n v h = any_gives 16 (λ d. can p n (v * 16 + d)) h

half_digits : (p : ℕ → Bool) (N : ℕ → Lang) → ((d : ℕ) → Finish (N d)) → (before : List ℕ) (n v : ℕ) → can p n v ≡ true → Half (digits p N before n v)
half_digits p N f before zero v h =
    let fits : passes p v ≡ true = sym (can_zero p v) ∙ h in
    let last = half_of (N v) (f v) in
    record { finish = last.finish; lax = rw fits last.lax; absolute = λ k le. rw fits (last.absolute k le) }
half_digits p N f before (suc n) v h =
    let d = can_digit p n v h in
    let c : ℕ = digit_of d.0 in
    let hex : is_hex_digit c ≡ true = digit_is_hex d.0 d.1 in
    let value : hex_digit c ≡ d.0 = digit_has d.0 d.1 in
    let more = half_digits p N f (before ++ c ∷ []) n (v * 16 + hex_digit c) (ap (λ (x : ℕ). can p n (v * 16 + x)) value ∙ d.2) in
    record { finish = c ∷ more.finish; lax = rw hex more.lax; absolute = λ k le. rw hex (more.absolute k (omega arith)) }

-- ---- a front that ends inside an escape cuts it

both : (b : Bool) → cond b (Some BadEscape) (Some BadEscape) ≡ Some BadEscape
both true = refl
both false = refl

cut_number : (p : ℕ → Bool) (N : ℕ → Lang) (k : ℕ) (before : List ℕ) (n v : ℕ) (text : List ℕ) → length text < k → k < length (before ++ text) → digits p N before n v (whole_before k) text ≡ Some BadEscape
cut_number p N k before zero v text lt gt =
    let no_front : nat_le (length (before ++ text)) k ≡ false = lt-leb (length (before ++ text)) k gt in
    let no_back : nat_le k (length text) ≡ false = lt-leb k (length text) lt in
    rw (no_front, no_back, and_right (passes p v) false refl) refl
cut_number p N k before (suc n) v [] lt gt = refl
cut_number p N k before (suc n) v (c ∷ text) lt gt =
    let size : length (before ++ c ∷ text) ≡ length ((before ++ c ∷ []) ++ text) = ap length (sym (append_assoc before (c ∷ []) text)) in
    ap (λ (o : Option LineKind). cond (is_hex_digit c) o (Some BadEscape)) (cut_number p N k (before ++ c ∷ []) n (v * 16 + hex_digit c) text (omega arith) (omega (arith, size)))
    ∙ both (is_hex_digit c)

never_digits : (p : ℕ → Bool) (N : ℕ → Lang) (before : List ℕ) (n v : ℕ) → 0 < length before → Opens (digits p N before (suc n) v) whole_mode [] → ⊥
never_digits p N before n v some o = go o.0 o.1
  where
    go : (more : List ℕ) → digits p N before (suc n) v (whole_before (length more)) more ≡ None → ⊥
    go [] e = none-some BadEscape (sym e)
    go (c ∷ more) e =
        none-some BadEscape (sym e
        ∙ ap (λ (o : Option LineKind). cond (is_hex_digit c) o (Some BadEscape))
        (cut_number p N (suc (length more)) (before ++ c ∷ []) n (v * 16 + hex_digit c) more (omega arith) (omega (arith, length-append (before ++ c ∷ []) more, length-append before (c ∷ []))))
        ∙ both (is_hex_digit c))

-- ---- the walk over digits

-- what follows is walked, where it is shorter
abbrev pub Walked : (ℕ → Lang) → ℕ → Type 0
Walked N size = (d : ℕ) (t : List ℕ) → length t < size → Found (N d) t

-- an escape that ends before the rest begins is allowed
mode_allows : (m : Mode) (k : ℕ) (start t : List ℕ) → k ≤ length t → (allowed_in m k).escape start t ≡ true
mode_allows lax_mode k start t le = refl
mode_allows absolute_mode k start t le = refl
mode_allows whole_mode k start t le = rw (le-leb k (length t) le) (or_right (nat_le (length start) k) true refl)

step_last : (p : ℕ → Bool) (N : ℕ → Lang) (before : List ℕ) (v c : ℕ) → is_hex_digit c ≡ true → passes p (v * 16 + hex_digit c) ≡ true → Step (digits p N before 1 v) (N (v * 16 + hex_digit c)) c
step_last p N before v c hex fits = record {
  goes = λ m k t le. rw (hex, fits, mode_allows m k ((before ++ c ∷ []) ++ t) t le) refl;
  strict = λ t. rw (hex, fits) refl;
}

walk_digits : (p : ℕ → Bool) (N : ℕ → Lang) → ((d : ℕ) → Finish (N d)) → (before : List ℕ) → 0 < length before → (n v : ℕ) → can p (suc n) v ≡ true
    → (text : List ℕ) → Walked N (length text) → Found (digits p N before (suc n) v) text
walk_digits p N f before some n v h [] w =
    let half = half_digits p N f before (suc n) v h in
    let L : Lang = digits p N before (suc n) v in
    inside_end L (half_lax L half) (half_absolute L half) (never_digits p N before n v some) refl
walk_digits p N f before some n v h (c ∷ t) w =
    go n (is_hex_digit c) (can p n (v * 16 + hex_digit c)) refl refl h
    (λ m e. walk_digits p N f (before ++ c ∷ []) (omega (arith, length-append before (c ∷ []))) m (v * 16 + hex_digit c) e t (λ d u lt. w d u (omega arith)))
  where
    stuck_at : (n : ℕ) → can p (suc n) v ≡ true → ((A : Allowed) (t : List ℕ) → digits p N before (suc n) v A (c ∷ t) ≡ Some BadEscape) → Found (digits p N before (suc n) v) (c ∷ t)
    stuck_at n h dead =
        let half = half_digits p N f before (suc n) v h in
        let L : Lang = digits p N before (suc n) v in
        inside_stop L c t (half_lax L half) (half_absolute L half) (never_digits p N before n v some) dead

    go : (n : ℕ) (b q : Bool) → is_hex_digit c ≡ b → can p n (v * 16 + hex_digit c) ≡ q → can p (suc n) v ≡ true
        → ((m : ℕ) → can p (suc m) (v * 16 + hex_digit c) ≡ true → Found (digits p N (before ++ c ∷ []) (suc m) (v * 16 + hex_digit c)) t)
        → Found (digits p N before (suc n) v) (c ∷ t)
    go n false q hex e h more = stuck_at n h (λ A t. rw hex refl)
    go n true false hex e h more = stuck_at n h (λ A t. rw hex (cannot p N A (before ++ c ∷ []) n (v * 16 + hex_digit c) t e))
    go zero true true hex e h more =
        shift (digits p N before 1 v) (N (v * 16 + hex_digit c)) c (step_last p N before v c hex (sym (can_zero p (v * 16 + hex_digit c)) ∙ e)) t
        (w (v * 16 + hex_digit c) t (omega arith))
    go (suc m) true true hex e h more =
        shift (digits p N before (suc (suc m)) v) (digits p N (before ++ c ∷ []) (suc m) (v * 16 + hex_digit c)) c
        (any_step (digits p N before (suc (suc m)) v) (digits p N (before ++ c ∷ []) (suc m) (v * 16 + hex_digit c)) c (λ A t. rw hex refl)) t (more m e)

-- ---- behind a backslash

-- a short escape, or an escape by number, and then what follows the character
abbrev pub by_short : Option ℕ → (ℕ → Bool) → (ℕ → Lang) → ℕ → Lang
by_short (Some d) p N letter A text = cond (A.escape (92 ∷ letter ∷ text) text) (N d A text) (Some BadEscape)
by_short None p N letter A text =
    cond (nat_eq letter 117) (digits p N (92 ∷ 117 ∷ []) 4 0 A text) (cond (nat_eq letter 85) (digits p N (92 ∷ 85 ∷ []) 8 0 A text) (Some BadEscape))

abbrev pub behind : (ℕ → Option ℕ) → (ℕ → Bool) → (ℕ → Lang) → Lang
behind short p N A [] = Some BadEscape
behind short p N A (letter ∷ text) = by_short (short letter) p N letter A text

-- `\u0041` may stand there
pub record Opened (short : ℕ → Option ℕ) (p : ℕ → Bool) : Type 0 where
  pub four : can p 4 0 ≡ true
  pub eight : can p 8 0 ≡ true
  pub no_short : short 117 ≡ None

opened_half : (short : ℕ → Option ℕ) (p : ℕ → Bool) (N : ℕ → Lang) → ((d : ℕ) → Finish (N d)) → Opened short p → Half (behind short p N)
opened_half short p N f o =
    let half = half_digits p N f (92 ∷ 117 ∷ []) 4 0 o.four in
    record { finish = 117 ∷ half.finish; lax = rw o.no_short half.lax; absolute = λ k le. rw o.no_short (half.absolute k (omega arith)) }

two_ways : (a b : Bool) (x y : Option LineKind) → x ≡ Some BadEscape → y ≡ Some BadEscape → cond a x (cond b y (Some BadEscape)) ≡ Some BadEscape
two_ways true b x y ex ey = ex
two_ways false true x y ex ey = ey
two_ways false false x y ex ey = refl

cut_behind : (p : ℕ → Bool) (N : ℕ → Lang) (letter : ℕ) (text : List ℕ) (s : Option ℕ) → by_short s p N letter (whole_before (suc (length text))) text ≡ Some BadEscape
cut_behind p N letter text (Some d) =
    let no_front : nat_le (length (92 ∷ letter ∷ text)) (suc (length text)) ≡ false = lt-leb (length (92 ∷ letter ∷ text)) (suc (length text)) (omega arith) in
    let no_back : nat_le (suc (length text)) (length text) ≡ false = lt-leb (suc (length text)) (length text) (omega arith) in
    rw (no_front, no_back) refl
cut_behind p N letter text None =
    two_ways (nat_eq letter 117) (nat_eq letter 85) _ _
    (cut_number p N (suc (length text)) (92 ∷ 117 ∷ []) 4 0 text (omega arith) (omega arith))
    (cut_number p N (suc (length text)) (92 ∷ 85 ∷ []) 8 0 text (omega arith) (omega arith))

never_behind : (short : ℕ → Option ℕ) (p : ℕ → Bool) (N : ℕ → Lang) → Opens (behind short p N) whole_mode [] → ⊥
never_behind short p N o = go o.0 o.1
  where
    go : (more : List ℕ) → behind short p N (whole_before (length more)) more ≡ None → ⊥
    go [] e = none-some BadEscape (sym e)
    go (letter ∷ more) e = none-some BadEscape (sym e ∙ cut_behind p N letter more (short letter))

pub walk_behind : (short : ℕ → Option ℕ) (p : ℕ → Bool) (N : ℕ → Lang) → ((d : ℕ) → Finish (N d)) → Opened short p → (text : List ℕ) → Walked N (length text) → Found (behind short p N) text
walk_behind short p N f o [] w =
    let half = opened_half short p N f o in
    inside_end (behind short p N) (half_lax (behind short p N) half) (half_absolute (behind short p N) half) (never_behind short p N) refl
walk_behind short p N f o (letter ∷ t) w = go (short letter) refl
  where
    half : Half (behind short p N)
    half = opened_half short p N f o

    by_number : short letter ≡ None → (a b : Bool) → nat_eq letter 117 ≡ a → nat_eq letter 85 ≡ b → Found (behind short p N) (letter ∷ t)
    by_number e true b h g =
        shift (behind short p N) (digits p N (92 ∷ 117 ∷ []) 4 0) letter
        (any_step (behind short p N) (digits p N (92 ∷ 117 ∷ []) 4 0) letter (λ A t. rw (e, h) refl)) t
        (walk_digits p N f (92 ∷ 117 ∷ []) (omega arith) 3 0 o.four t (λ d u lt. w d u (omega arith)))
    by_number e false true h g =
        shift (behind short p N) (digits p N (92 ∷ 85 ∷ []) 8 0) letter
        (any_step (behind short p N) (digits p N (92 ∷ 85 ∷ []) 8 0) letter (λ A t. rw (e, h, g) refl)) t
        (walk_digits p N f (92 ∷ 85 ∷ []) (omega arith) 7 0 o.eight t (λ d u lt. w d u (omega arith)))
    by_number e false false h g =
        inside_stop (behind short p N) letter t (half_lax (behind short p N) half) (half_absolute (behind short p N) half) (never_behind short p N)
        (λ A t. rw (e, h, g) refl)

    go : (s : Option ℕ) → short letter ≡ s → Found (behind short p N) (letter ∷ t)
    go (Some d) e =
        shift (behind short p N) (N d) letter
        (record { goes = λ m k t le. rw (e, mode_allows m k (92 ∷ letter ∷ t) t le) refl; strict = λ t. rw e refl })
        t (w d t (omega arith))
    go None e = by_number e (nat_eq letter 117) (nat_eq letter 85) refl refl

can_from : (p : ℕ → Bool) (n v : ℕ) (ds : List ℕ) → length ds ≡ n → list_all is_hex_digit ds ≡ true → passes p (hex_number v ds) ≡ true → can p n v ≡ true
unfolding can
can_from p zero v [] many hex fits = fits
can_from p zero v (c ∷ ds) many hex fits = absurd (omega arith)
can_from p (suc n) v [] many hex fits = absurd (omega arith)
can_from p (suc n) v (c ∷ ds) many hex fits =
    let parts = and_parts (is_hex_digit c) (list_all is_hex_digit ds) hex in
    any_from 16 (λ d. can p n (v * 16 + d)) (hex_digit c) (digit_below c parts.0) (can_from p n (v * 16 + hex_digit c) ds (omega arith) parts.1 fits)

pub can_four : (p : ℕ → Bool) → p 65 ≡ true → can p 4 0 ≡ true
can_four p h = can_from p 4 0 (48 ∷ 48 ∷ 52 ∷ 49 ∷ []) refl refl (rw h refl)

pub can_eight : (p : ℕ → Bool) → p 65 ≡ true → can p 8 0 ≡ true
can_eight p h = can_from p 8 0 (48 ∷ 48 ∷ 48 ∷ 48 ∷ 48 ∷ 48 ∷ 52 ∷ 49 ∷ []) refl refl (rw h refl)

-- ---- what reading an escape gives

over_choice : (a b : Bool) (x y : Option (ℕ × List ℕ)) (k : ℕ × List ℕ → Option LineKind)
    → over_number (cond a x (cond b y None)) k ≡ cond a (over_number x k) (cond b (over_number y k) (Some BadEscape))
over_choice true b x y k = refl
over_choice false true x y k = refl
over_choice false false x y k = refl

four_is : (p : ℕ → Bool) (N : ℕ → Lang) (A : Allowed) (letter : ℕ) (text : List ℕ) → over_number (numbered_at 4 text) (named_then p N A (92 ∷ 117 ∷ text)) ≡ digits p N (92 ∷ 117 ∷ []) 4 0 A text
unfolding numbered_at
four_is p N A letter text = by_digits p N A (92 ∷ 117 ∷ []) 4 0 text

eight_is : (p : ℕ → Bool) (N : ℕ → Lang) (A : Allowed) (letter : ℕ) (text : List ℕ) → over_number (numbered_at 8 text) (named_then p N A (92 ∷ 85 ∷ text)) ≡ digits p N (92 ∷ 85 ∷ []) 8 0 A text
unfolding numbered_at
eight_is p N A letter text = by_digits p N A (92 ∷ 85 ∷ []) 8 0 text

where_letter : (p : ℕ → Bool) (N : ℕ → Lang) (A : Allowed) (letter wanted n : ℕ) (text : List ℕ) (b : Bool) (z : Option LineKind) → nat_eq letter wanted ≡ b
    → over_number (numbered_at n text) (named_then p N A (92 ∷ wanted ∷ text)) ≡ digits p N (92 ∷ wanted ∷ []) n 0 A text
    → cond b (over_number (numbered_at n text) (named_then p N A (92 ∷ letter ∷ text))) z ≡ cond b (digits p N (92 ∷ wanted ∷ []) n 0 A text) z
where_letter p N A letter wanted n text true z e h =
    let same : letter ≡ wanted = eqb-true letter wanted e in
    ap (λ (l : ℕ). over_number (numbered_at n text) (named_then p N A (92 ∷ l ∷ text))) same ∙ h
where_letter p N A letter wanted n text false z e h = refl

pub unicode_behind : (p : ℕ → Bool) (N : ℕ → Lang) (A : Allowed) (letter : ℕ) (text : List ℕ)
    → over_number (unicode_at (letter ∷ text)) (named_then p N A (92 ∷ letter ∷ text)) ≡ by_short None p N letter A text
unfolding unicode_at
unicode_behind p N A letter text =
    over_choice (nat_eq letter 117) (nat_eq letter 85) (numbered_at 4 text) (numbered_at 8 text) (named_then p N A (92 ∷ letter ∷ text))
    ∙ where_letter p N A letter 117 4 text (nat_eq letter 117) (cond (nat_eq letter 85) (over_number (numbered_at 8 text) (named_then p N A (92 ∷ letter ∷ text))) (Some BadEscape)) refl (four_is p N A letter text)
    ∙ ap (λ (z : Option LineKind). cond (nat_eq letter 117) (digits p N (92 ∷ 117 ∷ []) 4 0 A text) z)
    (where_letter p N A letter 85 8 text (nat_eq letter 85) (Some BadEscape) refl (eight_is p N A letter text))

pub unicode_nothing : (p : ℕ → Bool) (N : ℕ → Lang) (A : Allowed) → over_number (unicode_at []) (named_then p N A (92 ∷ [])) ≡ Some BadEscape
unfolding unicode_at
unicode_nothing p N A = refl
