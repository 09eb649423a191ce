-- Where a search by halving ends among values in strict order.
use Rattle.std.proofs.Common.{◌≡◌, refl, sym, ap, ◌∙◌, ℕ, zero, suc, ◌<◌, ◌≤◌, List, [], ◌∷◌, length, get_or, Bool, true, false, ◌||◌, Result, Ok, Err, is_ok, Ordering, Less, Equal, Greater, inl, inr, arith}
use Rattle.std.specs.List.{list_all}
use Rattle.std.specs.List.Sorted.{IsSearchInRange, IsBinarySearchResult, IsNonDecreasingBy}
use Rattle.std.specs.Ordering.{is_eq, is_lt, ordering_index, ordering_reverse}
use Rattle.std.proofs.lemmas.Bool.{and_parts, cases_lt, or_left, or_right}
use Rattle.def_datasets.specs.Sorted.{has, ascends}
use Rattle.def_datasets.proofs.SortedLaws.{IsStrict, less_from}
use Rattle.lf_order.proofs.SetLemmas.{same_ties}

all_at : {A : Type 0} (p : A → Bool) (xs : List A) (j : ℕ) (d : A) → j < length xs → list_all p xs ≡ true → p (get_or xs j d) ≡ true
all_at p [] j d within h = absurd (omega arith)
all_at p (x ∷ xs) zero d within h = (and_parts (p x) (list_all p xs) h).0
all_at p (x ∷ xs) (suc j) d within h = all_at p xs j d (omega arith) (and_parts (p x) (list_all p xs) h).1

tied_back : (r : Ordering) → is_eq (ordering_reverse r) ≡ is_eq r
tied_back Less = refl
tied_back Equal = refl
tied_back Greater = refl

module _ {A : Type 0} {same : A → A → Bool} {cmp : A → A → Ordering} (o : IsStrict same cmp) where
  -- the other way round
  reversed : (x y : A) (r : Ordering) → cmp x y ≡ r → cmp y x ≡ ordering_reverse r
  reversed x y r e = o.total.antisymm y x ∙ ap ordering_reverse e

  -- a value below another stands no later beside a third
  rises : (x y z : A) (r : Ordering) → cmp x z ≡ r → cmp x y ≡ Less → ordering_index r ≤ ordering_index (cmp y z)
  rises x y z Less e less = omega arith
  rises x y z Equal e less =
      let other : cmp y z ≡ Greater = reversed z y Less (sym (o.total.congr x z y e) ∙ less) in
      rw other (omega arith)
  rises x y z Greater e less =
      let other : cmp y z ≡ Greater = reversed z y Less (o.total.trans z x y (reversed x z Greater e) less) in
      rw other (omega arith)

  -- an earlier value is below a later one
  less_at : (xs : List A) (i j : ℕ) (d : A) → ascends cmp xs ≡ true → i < j → j < length xs → cmp (get_or xs i d) (get_or xs j d) ≡ Less
  less_at [] i j d h less within = absurd (omega arith)
  less_at (x ∷ xs) i zero d h less within = absurd (omega arith)
  less_at (x ∷ xs) zero (suc j) d h less within =
      less_from (cmp x (get_or xs j d)) (all_at (λ y. is_lt (cmp x y)) xs j d (omega arith) (and_parts (list_all (λ y. is_lt (cmp x y)) xs) (ascends cmp xs) h).0)
  less_at (x ∷ xs) (suc i) (suc j) d h less within =
      less_at xs i j d (and_parts (list_all (λ y. is_lt (cmp x y)) xs) (ascends cmp xs) h).1 (omega arith) (omega arith)

  -- the comparisons with a value rise along the list, as a search asks
  comparisons_rise : (xs : List A) (x : A) → ascends cmp xs ≡ true → IsNonDecreasingBy (λ y. ordering_index (cmp y x)) xs
  comparisons_rise xs x h i j d le within =
      elim (cases_lt i j) [
        | inl less ↦ rises _ _ x _ refl (less_at xs i j d h less within)
        | inr least ↦ let here : i ≡ j = omega arith in rw here (omega arith)
      ]

  found_there : (xs : List A) (x : A) (place : ℕ) → place < length xs → ((d : A) → cmp (get_or xs place d) x ≡ Equal) → has same xs x ≡ true
  found_there [] x place within equal = absurd (omega arith)
  found_there (y ∷ ys) x zero within equal =
      or_left (same x y) (has same ys x) (same_ties o x y ∙ ap is_eq (reversed y x Equal (equal y)))
  found_there (y ∷ ys) x (suc place) within equal =
      or_right (same x y) (has same ys x) (found_there ys x place (omega arith) equal)

  none_there : (xs : List A) (x : A) → ((j : ℕ) (d : A) → j < length xs → is_eq (cmp (get_or xs j d) x) ≡ false) → has same xs x ≡ false
  none_there [] x other = refl
  none_there (y ∷ ys) x other =
      let unlike : same x y ≡ false = same_ties o x y ∙ (ap is_eq (o.total.antisymm x y) ∙ (tied_back (cmp y x) ∙ other 0 y (omega arith))) in
      let later : has same ys x ≡ false = none_there ys x (λ j d within. other (suc j) d (omega arith)) in
      λ i. unlike i || later i

  -- a search ends at a place just where the list has the value
  pub searched : (xs : List A) (x : A) → ascends cmp xs ≡ true → (r : Result ℕ ℕ) → IsSearchInRange r (length xs) → IsBinarySearchResult (λ y. cmp y x) xs r → is_ok r ≡ has same xs x
  searched xs x h (Ok place) within equal = sym (found_there xs x place within equal)
  searched xs x h (Err place) within parted =
      let parts = parted (comparisons_rise xs x h) in
      sym (none_there xs x (λ j d inside. elim (cases_lt j place) [
        | inl less ↦ ap is_eq (parts.0 j d (omega arith) less)
        | inr least ↦ ap is_eq (parts.1 j d least inside)
      ]))
