-- A set that grows in rounds by a monotone step, within a list: after as many rounds as the list is long nothing is added.
use Rattle.std.proofs.Common.{◌≡◌, refl, sym, ◌∙◌, ap, subst, ℕ, zero, suc, ◌+◌, ◌-◌, ◌<◌, ◌≤◌, List, [], ◌∷◌, length, Bool, true, false, ◌⊎◌, inl, inr, ⊎_elim, Option, Some, Decides, arith}
use Rattle.std.proofs.lemmas.Bool.{true≢false, false≢true, or_cases}
use Rattle.def_datasets.specs.Sorted.{has}
use Rattle.def_datasets.specs.Rounds.{rounds, within}
use Rattle.def_datasets.proofs.Bools.{same_truth}

abbrev pub Within : {A : Type 0} → (A → Bool) → (A → Bool) → Type 0
Within {A} S T = (x : A) → S x ≡ true → T x ≡ true

-- ---- how many values of a list are in a set

bit : Bool → ℕ
bit true = 1
bit false = 0

count : {A : Type 0} → (A → Bool) → List A → ℕ
count S [] = 0
count S (x ∷ xs) = bit (S x) + count S xs

bit_low : (b : Bool) → bit b ≤ 1
unfolding bit
bit_low true = omega arith
bit_low false = omega arith

bit_mono : (a b : Bool) → (a ≡ true → b ≡ true) → bit a ≤ bit b
unfolding bit
bit_mono true true f = omega arith
bit_mono true false f = absurd (false≢true (f refl))
bit_mono false true f = omega arith
bit_mono false false f = omega arith

count_low : {A : Type 0} (S : A → Bool) (xs : List A) → count S xs ≤ length xs
unfolding count
count_low S [] = omega arith
count_low S (x ∷ xs) =
    let a : bit (S x) ≤ 1 = bit_low (S x) in
    let b : count S xs ≤ length xs = count_low S xs in
    omega arith

count_mono : {A : Type 0} (S T : A → Bool) → Within S T → (xs : List A) → count S xs ≤ count T xs
unfolding count
count_mono S T f [] = omega arith
count_mono S T f (x ∷ xs) =
    let a : bit (S x) ≤ bit (T x) = bit_mono (S x) (T x) (f x) in
    let b : count S xs ≤ count T xs = count_mono S T f xs in
    omega arith

-- ---- either nothing is added or there are more

module _ {A : Type 0} (same : A → A → Bool) (decides : (x y : A) → Decides (same x y) (x ≡ y)) where
  abbrev Fixed : (A → Bool) → (A → Bool) → List A → Type 0
  Fixed S T xs = (x : A) → has same xs x ≡ true → T x ≡ true → S x ≡ true

  more_case : (S T : A → Bool) → Within S T → (y : A) (ys : List A) (s t : Bool) → S y ≡ s → T y ≡ t
      → Fixed S T ys ⊎ (count S ys < count T ys) → Fixed S T (y ∷ ys) ⊎ (bit (S y) + count S ys < bit (T y) + count T ys)
  unfolding bit
  more_case S T f y ys false true p q ih =
      let a : count S ys ≤ count T ys = count_mono S T f ys in
      let b : bit (S y) ≡ 0 = ap bit p in
      let c : bit (T y) ≡ 1 = ap bit q in
      inr (omega arith)
  more_case S T f y ys true t p q (inl fixed) =
      inl λ x in_list told.
      ⊎_elim (λ e. subst (λ (w : A). S w ≡ true) (sym ((decides x y).0 e)) p) (λ e. fixed x e told) (or_cases (same x y) (has same ys x) in_list)
  more_case S T f y ys true t p q (inr fewer) =
      let a : bit (S y) ≤ bit (T y) = bit_mono (S y) (T y) (f y) in
      inr (omega arith)
  more_case S T f y ys false false p q (inl fixed) =
      inl λ x in_list told.
      ⊎_elim (λ e. absurd (true≢false (sym told ∙ (ap T ((decides x y).0 e) ∙ q)))) (λ e. fixed x e told) (or_cases (same x y) (has same ys x) in_list)
  more_case S T f y ys false false p q (inr fewer) =
      let a : bit (S y) ≤ bit (T y) = bit_mono (S y) (T y) (f y) in
      inr (omega arith)

  more : (S T : A → Bool) → Within S T → (xs : List A) → Fixed S T xs ⊎ (count S xs < count T xs)
  unfolding count
  more S T f [] = inl λ x in_list told. absurd (false≢true in_list)
  more S T f (y ∷ ys) = more_case S T f y ys (S y) (T y) refl refl (more S T f ys)

-- ---- rounds

module _ {A : Type 0} (step : (A → Bool) → A → Bool) (mono : (S T : A → Bool) → Within S T → Within (step S) (step T)) where
  pub grows : (n : ℕ) → Within (rounds step n) (rounds step (suc n))
  grows zero x e = absurd (false≢true e)
  grows (suc n) x e = mono (rounds step n) (rounds step (suc n)) (grows n) x e

  -- the rounds lie in every set that the step leads back into
  pub least : (S : A → Bool) → Within (step S) S → (n : ℕ) → Within (rounds step n) S
  least S closed zero x e = absurd (false≢true e)
  least S closed (suc n) x e = closed x (mono (rounds step n) S (least S closed n) x e)

  next_fixed : (n : ℕ) → Within (rounds step (suc n)) (rounds step n) → Within (rounds step (suc (suc n))) (rounds step (suc n))
  next_fixed n fixed x e = mono (rounds step (suc n)) (rounds step n) fixed x e

  module _ (same : A → A → Bool) (decides : (x y : A) → Decides (same x y) (x ≡ y)) (xs : List A)
      (among : (S : A → Bool) (x : A) → step S x ≡ true → has same xs x ≡ true) where
    either_case : (n : ℕ) → Fixed same decides (rounds step n) (rounds step (suc n)) xs ⊎ (count (rounds step n) xs < count (rounds step (suc n)) xs)
        → n ≤ count (rounds step n) xs
        → Within (rounds step (suc n)) (rounds step n) ⊎ (suc n ≤ count (rounds step (suc n)) xs)
    either_case n (inl fixed) low = inl λ x e. fixed x (among (rounds step n) x e) e
    either_case n (inr fewer) low = inr (omega arith)

    either_next : (n : ℕ) → Within (rounds step (suc n)) (rounds step n) ⊎ (suc n ≤ count (rounds step (suc n)) xs)
        → Within (rounds step (suc (suc n))) (rounds step (suc n)) ⊎ (suc (suc n) ≤ count (rounds step (suc (suc n))) xs)
    either_next n (inl fixed) = inl (next_fixed n fixed)
    either_next n (inr low) = either_case (suc n) (more same decides (rounds step (suc n)) (rounds step (suc (suc n))) (grows (suc n)) xs) low

    either : (n : ℕ) → Within (rounds step (suc n)) (rounds step n) ⊎ (suc n ≤ count (rounds step (suc n)) xs)
    either zero = either_case zero (more same decides (rounds step zero) (rounds step (suc zero)) (grows zero) xs) (omega arith)
    either (suc n) = either_next n (either n)

    fixed_case : (n : ℕ) → length xs ≤ n → Within (rounds step (suc n)) (rounds step n) ⊎ (suc n ≤ count (rounds step (suc n)) xs)
        → Within (rounds step (suc n)) (rounds step n)
    fixed_case n low (inl fixed) = fixed
    fixed_case n low (inr high) =
        let most : count (rounds step (suc n)) xs ≤ length xs = count_low (rounds step (suc n)) xs in
        absurd (omega arith)

    pub fixed_from : (n : ℕ) → length xs ≤ n → Within (rounds step (suc n)) (rounds step n)
    fixed_from n low = fixed_case n low (either n)

    -- any rounds lie within enough rounds
    pub all_within : (n m : ℕ) → length xs ≤ m → Within (rounds step n) (rounds step m)
    all_within n m low = least (rounds step m) (fixed_from m low) n

    pub same_rounds : (n m : ℕ) → length xs ≤ n → length xs ≤ m → (x : A) → rounds step n x ≡ rounds step m x
    same_rounds n m a b x = same_truth (rounds step n x) (rounds step m x) (all_within n m b x) (all_within m n a x)

    pub fixpoint : (n : ℕ) → length xs ≤ n → (x : A) → rounds step n x ≡ step (rounds step n) x
    fixpoint n low x = same_truth (rounds step n x) (step (rounds step n) x) (grows n x) (fixed_from n low x)

-- ---- what is found stays

module _ {A B : Type 0} (step : (A → Option B) → A → Option B)
    (mono : (f g : A → Option B) → ((x : A) (v : B) → f x ≡ Some v → g x ≡ Some v) → (x : A) (v : B) → step f x ≡ Some v → step g x ≡ Some v) where
  pub found_next : (n : ℕ) (x : A) (v : B) → within step n x ≡ Some v → within step (suc n) x ≡ Some v
  found_next zero x v e = absurd (cc)
  found_next (suc n) x v e = mono (within step n) (within step (suc n)) (found_next n) x v e

  found_from : (n k : ℕ) (x : A) (v : B) → within step n x ≡ Some v → within step (k + n) x ≡ Some v
  found_from n zero x v e =
      let same : n ≡ zero + n = omega arith in
      subst (λ (w : ℕ). within step w x ≡ Some v) same e
  found_from n (suc k) x v e =
      let same : suc (k + n) ≡ suc k + n = omega arith in
      subst (λ (w : ℕ). within step w x ≡ Some v) same (found_next (k + n) x v (found_from n k x v e))

  pub found_later : (n m : ℕ) (x : A) (v : B) → n ≤ m → within step n x ≡ Some v → within step m x ≡ Some v
  found_later n m x v low e =
      let same : (m - n) + n ≡ m = omega arith in
      subst (λ (w : ℕ). within step w x ≡ Some v) same (found_from n (m - n) x v e)
