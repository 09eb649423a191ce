-- Hexadecimal digits, read one by one.
use Rattle.std.proofs.Common.{◌≡◌, ℕ, zero, suc, ◌+◌, ◌*◌, ◌^◌, ◌-◌, ◌<◌, ◌≤◌, Bool, true, false, cond, List, [], ◌∷◌, ◌++◌, length, take, Some, None, refl, sym, ap, subst, ◌∙◌, append_assoc, arith}
use Rattle.std.specs.Prelude.{nat_eq, ◌&&◌, ◌||◌}
use Rattle.std.specs.Char.{IsScalar}
use Rattle.std.specs.Str.{all_scalars}
use Rattle.std.specs.List.{list_all}
use Rattle.std.proofs.lemmas.Bool.{and_parts, and_from, and_right, eq-eqb, ne_eqb, false_from_ne_true, leb-true, false≢true}
use Rattle.std.proofs.lemmas.List.{length-append, take_at, drop_at, append-nil, length-take}
use Rattle.std.proofs.lemmas.List.Folds.{list_all-append}
use Rattle.std.proofs.lemmas.Grind.{pow_more}
use Rattle.std.proofs.Math.Nat.{pow-le-pow_right}
use Rattle.def_patch_texts.specs.Characters.{is_between, is_digit, is_hex_digit, hex_digit, hex_number}
use Rattle.def_patch_texts.specs.Reading.{numbered_at}
use Rattle.lf_nquads.specs.Scanning.{first_is}

hex_number-push : (before : ℕ) (digits : List ℕ) (c : ℕ) → hex_number before (digits ++ c ∷ []) ≡ hex_number before digits * 16 + hex_digit c
hex_number-push before [] c = refl
hex_number-push before (d ∷ digits) c = hex_number-push (before * 16 + hex_digit d) digits c

-- so many digits at the front of the text have this value
pub record ReadsDigits (text : List ℕ) (i value : ℕ) (rest : List ℕ) : Type 0 where
  pub digits : List ℕ
  pub many : length digits ≡ i
  pub hexadecimal : list_all is_hex_digit digits ≡ true
  pub names : hex_number 0 digits ≡ value
  pub spelled : text ≡ digits ++ rest
  pub below : value < 16 ^ i

pub reads_none : (text : List ℕ) → ReadsDigits text 0 0 text
reads_none text = record { digits = []; many = refl; hexadecimal = refl; names = refl; spelled = refl; below = omega arith }

between_is : (low high c : ℕ) → is_between low high c ≡ true → (low ≤ c) × (c ≤ high)
between_is low high c h = let p = and_parts _ _ h in (leb-true low c p.0, leb-true c high p.1)

value_below : (c : ℕ) (digit capital : Bool) → is_digit c ≡ digit → is_between 65 70 c ≡ capital → (digit ≡ false → capital ≡ false → is_between 97 102 c ≡ true)
    → cond digit (c - 48) (cond capital (c - 55) (c - 87)) < 16
value_below c true capital hd hc hs = let b = between_is 48 57 c hd in omega (arith, b.0, b.1)
value_below c false true hd hc hs = let b = between_is 65 70 c hc in omega (arith, b.0, b.1)
value_below c false false hd hc hs = let b = between_is 97 102 c (hs refl refl) in omega (arith, b.0, b.1)

pub digit_below : (c : ℕ) → is_hex_digit c ≡ true → hex_digit c < 16
digit_below c h =
    value_below c (is_digit c) (is_between 65 70 c) refl refl
    (λ ed ec. last (is_digit c) (is_between 65 70 c) (is_between 97 102 c) h ed ec)
  where
    last : (a b d : Bool) → (a || b || d) ≡ true → a ≡ false → b ≡ false → d ≡ true
    last true b d h ea eb = absurd (false≢true (sym ea))
    last false true d h ea eb = absurd (false≢true (sym eb))
    last false false d h ea eb = h

pub reads_more : (text : List ℕ) (i value : ℕ) (rest after : List ℕ) (c digit : ℕ) → ReadsDigits text i value rest → rest ≡ c ∷ after → is_hex_digit c ≡ true → digit ≡ hex_digit c
    → ReadsDigits text (i + 1) (value * 16 + digit) after
reads_more text i value rest after c digit r e hex is = record {
  digits = r.digits ++ c ∷ [];
  many = length-append r.digits (c ∷ []) ∙ ap (λ (n : ℕ). n + 1) r.many;
  hexadecimal = list_all-append is_hex_digit r.digits (c ∷ []) ∙ and_from _ _ r.hexadecimal (and_from _ _ hex refl);
  names = hex_number-push 0 r.digits c ∙ rw (r.names, is) refl;
  spelled = r.spelled ∙ ap (λ (t : List ℕ). r.digits ++ t) e ∙ sym (append_assoc r.digits (c ∷ []) after);
  below =
      let more : 16 ^ (i + 1) ≡ 16 ^ i * 16 = pow_more 16 i in
      let small : digit < 16 = subst (λ (n : ℕ). n < 16) (sym is) (digit_below c hex) in
      let low : value < 16 ^ i = r.below in rw more (omega (arith, small, low));
}

-- eight digits fit 32 bits
pub digits_fit : (i count value digit : ℕ) → i < count → count ≤ 8 → value < 16 ^ i → digit < 16 → value * 16 + digit < 2 ^ 32
digits_fit i count value digit lt le low small =
    let top : 16 ^ i ≤ 16 ^ 7 = pow-le-pow_right {n = 16} (omega arith) {i = i} {j = 7} (omega arith) in
    let last : value < 268435456 = omega (arith, low, top) in omega (arith, last, small)

not_all : (p : ℕ → Bool) (n : ℕ) (xs : List ℕ) (c : ℕ) (ys : List ℕ) → length xs < n → p c ≡ false → list_all p (take n (xs ++ c ∷ ys)) ≡ false
not_all p zero xs c ys lt h = absurd (omega arith)
not_all p (suc n) [] c ys lt h = rw h refl
not_all p (suc n) (x ∷ xs) c ys lt h = rw (not_all p n xs c ys (omega arith) h) (and_right (p x) false refl)

no_number : (count : ℕ) (text : List ℕ) → (nat_eq (length (take count text)) count && list_all is_hex_digit (take count text)) ≡ false → numbered_at count text ≡ None
unfolding numbered_at
no_number count text h = rw h refl

stuck : (text : List ℕ) (i value count : ℕ) (rest : List ℕ) → ReadsDigits text i value rest → i < count → first_is is_hex_digit rest ≡ false
    → (nat_eq (length (take count text)) count && list_all is_hex_digit (take count text)) ≡ false
stuck text i value count [] r lt h =
    let size : length text ≡ i = ap length (r.spelled ∙ append-nil r.digits) ∙ r.many in
    let few : length (take count text) < count = omega (arith, length-take count text, size) in
    let no : nat_eq (length (take count text)) count ≡ false = ne_eqb (length (take count text)) count (λ e. omega arith) in rw no refl
stuck text i value count (c ∷ rest) r lt h =
    let here : list_all is_hex_digit (take count text) ≡ false =
    ap (λ (t : List ℕ). list_all is_hex_digit (take count t)) r.spelled ∙ not_all is_hex_digit count r.digits c rest (omega (arith, r.many)) h in
    rw here (and_right (nat_eq (length (take count text)) count) false refl)

-- where a digit is lacking no character is named
pub digit_lacks : (text : List ℕ) (i value count : ℕ) (rest : List ℕ) → ReadsDigits text i value rest → i < count → first_is is_hex_digit rest ≡ false → numbered_at count text ≡ None
digit_lacks text i value count rest r lt h = no_number count text (stuck text i value count rest r lt h)

pub names_character : (text : List ℕ) (value count : ℕ) (rest : List ℕ) → ReadsDigits text count value rest → IsScalar value → numbered_at count text ≡ Some (value, rest)
unfolding numbered_at
names_character text value count rest r scalar =
    let many : nat_eq (length r.digits) count ≡ true = eq-eqb (length r.digits) count r.many in
    rw (r.spelled, take_at r.digits rest count r.many, drop_at r.digits rest count r.many, r.names, many, r.hexadecimal, scalar) refl

pub names_none : (text : List ℕ) (value count : ℕ) (rest : List ℕ) → ReadsDigits text count value rest → (IsScalar value → ⊥) → numbered_at count text ≡ None
unfolding numbered_at
names_none text value count rest r never =
    let many : nat_eq (length r.digits) count ≡ true = eq-eqb (length r.digits) count r.many in
    let none : all_scalars (value ∷ []) ≡ false = false_from_ne_true (all_scalars (value ∷ [])) (λ h. never (and_parts _ true h).0) in
    rw (r.spelled, take_at r.digits rest count r.many, drop_at r.digits rest count r.many, r.names, many, r.hexadecimal, none) refl
