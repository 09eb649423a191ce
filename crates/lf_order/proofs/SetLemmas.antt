-- Sets as ascending lists: what depends on their members alone.
use Rattle.std.proofs.Common.{◌≡◌, refl, sym, ◌∙◌, ap, subst, List, [], ◌∷◌, Bool, true, false, ◌&&◌, ◌||◌, cond, ⊎_elim, Ordering, Less, Equal, Greater, filter}
use Rattle.std.specs.List.{list_any, list_all, dedup, dedup_from, AllByRecursion}
use Rattle.std.specs.List.Sorted.{IsStrictlySortedBy}
use Rattle.std.specs.Ordering.{is_eq, is_lt}
use Rattle.std.specs.Cmp.{tied_itself}
use Rattle.std.proofs.lemmas.Bool.{true≢false, false≢true, and_from, or_cases, or_left, or_right}
use Rattle.def_datasets.specs.Sorted.{has, ascends, placed, put, put_all, set_of}
use Rattle.lf_order.proofs.Ties.{equal_from}
use Rattle.def_datasets.proofs.Bools.{or_absorb, or_swap, or_regroup}
use Rattle.def_datasets.proofs.SortedLaws.{IsStrict, same_members, ascends-set_of, ascends-filter, has-put_all, has-filter}

pub or_false : (a : Bool) → (a || false) ≡ a
or_false true = refl
or_false false = refl

-- ---- repeats

module _ {A : Type 0} (E : A → A → Bool) (p : A → Bool) (alike : (x y : A) → E x y ≡ true → p x ≡ p y) where
  any_case : (k x : A) (xs : List A) (b : Bool) → E x k ≡ b → list_any p (dedup_from E k xs) ≡ (p k || list_any p xs)
      → list_any p (dedup_from E x xs) ≡ (p x || list_any p xs)
      → list_any p (cond b (dedup_from E k xs) (k ∷ dedup_from E x xs)) ≡ (p k || (p x || list_any p xs))
  any_case k x xs true e one two =
      one ∙ (or_absorb (p k) (list_any p xs) ∙ ap (λ (w : Bool). p k || (w || list_any p xs)) (sym (alike x k e)))
  any_case k x xs false e one two = ap (λ (w : Bool). p k || w) two

  any-dedup_from : (k : A) (xs : List A) → list_any p (dedup_from E k xs) ≡ (p k || list_any p xs)
  any-dedup_from k [] = refl
  any-dedup_from k (x ∷ xs) = any_case k x xs (E x k) refl (any-dedup_from k xs) (any-dedup_from x xs)

  -- a list without repeats passes a test alike
  pub any-dedup : (xs : List A) → list_any p (dedup E xs) ≡ list_any p xs
  any-dedup [] = refl
  any-dedup (x ∷ xs) = any-dedup_from x xs

module _ {A : Type 0} (E : A → A → Bool) (p : A → Bool) where
  within_case : (k x : A) (xs : List A) (b : Bool) → (list_any p (dedup_from E k xs) ≡ true → (p k || list_any p xs) ≡ true)
      → (list_any p (dedup_from E x xs) ≡ true → (p x || list_any p xs) ≡ true)
      → list_any p (cond b (dedup_from E k xs) (k ∷ dedup_from E x xs)) ≡ true → (p k || (p x || list_any p xs)) ≡ true
  within_case k x xs true one two e =
      ⊎_elim (λ h. or_left (p k) (p x || list_any p xs) h) (λ h. or_right (p k) (p x || list_any p xs) (or_right (p x) (list_any p xs) h))
      (or_cases (p k) (list_any p xs) (one e))
  within_case k x xs false one two e =
      ⊎_elim (λ h. or_left (p k) (p x || list_any p xs) h) (λ h. or_right (p k) (p x || list_any p xs) (two h))
      (or_cases (p k) (list_any p (dedup_from E x xs)) e)

  within-dedup_from : (k : A) (xs : List A) → list_any p (dedup_from E k xs) ≡ true → (p k || list_any p xs) ≡ true
  within-dedup_from k [] e = e
  within-dedup_from k (x ∷ xs) e = within_case k x xs (E x k) (within-dedup_from k xs) (within-dedup_from x xs) e

  -- what a list without repeats has, the list has
  pub within-dedup : (xs : List A) → list_any p (dedup E xs) ≡ true → list_any p xs ≡ true
  within-dedup [] e = e
  within-dedup (x ∷ xs) e = within-dedup_from x xs e

-- ---- order

module _ {A : Type 0} (cmp : A → A → Ordering) where
  all_below : (x : A) (xs : List A) → AllByRecursion (λ y. cmp x y ≡ Less) xs → list_all (λ y. is_lt (cmp x y)) xs ≡ true
  all_below x [] all = refl
  all_below x (y ∷ ys) all = and_from (is_lt (cmp x y)) (list_all (λ z. is_lt (cmp x z)) ys) (ap is_lt all.0) (all_below x ys all.1)

  pub ascends_sorted : (xs : List A) → IsStrictlySortedBy cmp xs → ascends cmp xs ≡ true
  unfolding IsStrictlySortedBy
  ascends_sorted [] h = refl
  ascends_sorted (x ∷ xs) h = and_from (list_all (λ y. is_lt (cmp x y)) xs) (ascends cmp xs) (all_below x xs h.0) (ascends_sorted xs h.1)

-- ---- sets

module _ {A : Type 0} {same : A → A → Bool} {cmp : A → A → Ordering} (o : IsStrict same cmp) where
  pub has-set_of : (xs : List A) (z : A) → has same (set_of cmp xs) z ≡ has same xs z
  has-set_of xs z = has-put_all o [] xs z ∙ or_false (has same xs z)

  -- sets of the same members are one
  pub set_alike : (xs ys : List A) → ((z : A) → has same xs z ≡ has same ys z) → set_of cmp xs ≡ set_of cmp ys
  set_alike xs ys alike =
      same_members o (set_of cmp xs) (set_of cmp ys) (ascends-set_of o xs) (ascends-set_of o ys)
      (λ z. has-set_of xs z ∙ (alike z ∙ sym (has-set_of ys z)))

  pub set_filter : (p : A → Bool) (xs : List A) → set_of cmp (filter p xs) ≡ filter p (set_of cmp xs)
  set_filter p xs =
      same_members o (set_of cmp (filter p xs)) (filter p (set_of cmp xs)) (ascends-set_of o (filter p xs))
      (ascends-filter o p (set_of cmp xs) (ascends-set_of o xs))
      (λ z. has-set_of (filter p xs) z
      ∙ (has-filter o p xs z ∙ (ap (λ (w : Bool). p z && w) (sym (has-set_of xs z)) ∙ sym (has-filter o p (set_of cmp xs) z))))

  tie_case : (x y : A) (r : Ordering) (b : Bool) → cmp x y ≡ r → same x y ≡ b → b ≡ is_eq r
  tie_case x y Less true e f = absurd (true≢false (sym (ap is_eq (subst (λ (w : A). cmp x w ≡ Equal) ((o.decides x y).0 f) (tied_itself o.total x))) ∙ ap is_eq e))
  tie_case x y Less false e f = refl
  tie_case x y Equal true e f = refl
  tie_case x y Equal false e f = absurd (false≢true (sym f ∙ (o.decides x y).1 (o.tells x y e)))
  tie_case x y Greater true e f = absurd (true≢false (sym (ap is_eq (subst (λ (w : A). cmp x w ≡ Equal) ((o.decides x y).0 f) (tied_itself o.total x))) ∙ ap is_eq e))
  tie_case x y Greater false e f = refl

  -- the order ties just at equal values
  pub same_ties : (x y : A) → same x y ≡ is_eq (cmp x y)
  same_ties x y = tie_case x y (cmp x y) (same x y) refl refl

  -- a sorted list without repeats is the set of the values whose members it has
  pub sorted_set_of : (xs ys : List A) → IsStrictlySortedBy cmp xs
      → ((test : A → Bool) → ((x y : A) → is_eq (cmp x y) ≡ true → test x ≡ test y) → list_any test xs ≡ list_any test ys) → xs ≡ set_of cmp ys
  sorted_set_of xs ys sorted alike =
      same_members o xs (set_of cmp ys) (ascends_sorted cmp xs sorted) (ascends-set_of o ys)
      (λ z. alike (same z) (λ x y tie. ap (same z) (o.tells x y (equal_from (cmp x y) tie))) ∙ sym (has-set_of ys z))

  -- ---- tests of members

  any_put_case : (p : A → Bool) (x y : A) (ys : List A) (r : Ordering) → cmp x y ≡ r → list_any p (put cmp x ys) ≡ (p x || list_any p ys)
      → list_any p (placed r x y ys (put cmp x ys)) ≡ (p x || (p y || list_any p ys))
  any_put_case p x y ys Less e ih = refl
  any_put_case p x y ys Equal e ih =
      subst (λ (w : A). (p y || list_any p ys) ≡ (p w || (p y || list_any p ys))) (sym (o.tells x y e)) (or_absorb (p y) (list_any p ys))
  any_put_case p x y ys Greater e ih = ap (λ (w : Bool). p y || w) ih ∙ or_swap (p y) (p x) (list_any p ys)

  any-put : (p : A → Bool) (x : A) (xs : List A) → list_any p (put cmp x xs) ≡ (p x || list_any p xs)
  any-put p x [] = refl
  any-put p x (y ∷ ys) = any_put_case p x y ys (cmp x y) refl (any-put p x ys)

  any-put_all : (p : A → Bool) (xs ys : List A) → list_any p (put_all cmp xs ys) ≡ (list_any p ys || list_any p xs)
  any-put_all p xs [] = refl
  any-put_all p xs (y ∷ ys) =
      any-put_all p (put cmp y xs) ys
      ∙ (ap (λ (w : Bool). list_any p ys || w) (any-put p y xs) ∙ or_regroup (list_any p ys) (p y) (list_any p xs))

  pub any-set_of : (p : A → Bool) (xs : List A) → list_any p (set_of cmp xs) ≡ list_any p xs
  any-set_of p xs = any-put_all p [] xs ∙ or_false (list_any p xs)

  -- lists of the same members pass a test alike
  pub any_alike : (p : A → Bool) (xs ys : List A) → ((z : A) → has same xs z ≡ has same ys z) → list_any p xs ≡ list_any p ys
  any_alike p xs ys alike = sym (any-set_of p xs) ∙ (ap (list_any p) (set_alike xs ys alike) ∙ any-set_of p ys)
