-- The least of a list by a rank.
use Rattle.std.proofs.Common.{◌≡◌, ℕ, Bool, true, false, List, [], ◌∷◌, Option, Some, None, cond, refl, sym, ap, subst, ◌∙◌, ◌⊎◌, inl, inr}
use Rattle.std.specs.List.{Contains}
use Rattle.std.specs.Ordering.{nat_cmp, is_lt, is_gt, ordering_reverse}
use Rattle.std.specs.declared.cmp.Ordering.{Ordering}
use Rattle.std.specs.declared.cmp.Ordering.TheVariants.{Less, Equal, Greater}
use Rattle.std.specs.Cmp.Lexicographic.{slice_cmp}
use Rattle.std.proofs.lemmas.Cmp.{nat_list_cmp_total, upto, tied_itself}
use Rattle.def_selection.specs.Chosen.{least, lesser, ranks_less}
use Rattle.def_selection.proofs.Members.{first_in, rest_in, in_cases, none_in}

-- a rank isn't less than itself
not_less_itself : (a : List ℕ) → ranks_less a a ≡ false
not_less_itself a = ap is_lt (tied_itself nat_list_cmp_total a)

turned : (o p : Ordering) → o ≡ ordering_reverse p → is_lt o ≡ is_gt p
turned o Less e = ap is_lt e
turned o Equal e = ap is_lt e
turned o Greater e = ap is_lt e

-- one isn't less than another where the other isn't greater than it
less_is_greater : (a b : List ℕ) → ranks_less a b ≡ is_gt (slice_cmp nat_cmp b a)
less_is_greater a b = turned _ _ (nat_list_cmp_total.antisymm a b)

lt_not_gt : (o : Ordering) → is_lt o ≡ true → is_gt o ≡ false
lt_not_gt Less e = refl
lt_not_gt Equal e = refl
lt_not_gt Greater e = cc

-- not less than one that isn't less than a third isn't less than the third
not_less_through : (a b c : List ℕ) → ranks_less b a ≡ false → ranks_less c b ≡ false → ranks_less c a ≡ false
not_less_through a b c first second =
    less_is_greater c a
    ∙ upto nat_list_cmp_total a b c (sym (less_is_greater b a) ∙ first) (sym (less_is_greater c b) ∙ second)

-- what is less isn't greater
less_not_less : (a b : List ℕ) → ranks_less a b ≡ true → ranks_less b a ≡ false
less_not_less a b e = less_is_greater b a ∙ lt_not_gt (slice_cmp nat_cmp a b) e

module _ {A : Type 0} (rank_of : A → List ℕ) where
  -- nothing is least only of the empty list
  pub least_none : (xs : List A) → least rank_of xs ≡ None → xs ≡ []
  least_none [] e = refl
  least_none (x ∷ xs) e = go (least rank_of xs) e
    where
      pick : (b : Bool) (y : A) → cond b (Some y) (Some x) ≡ None → x ∷ xs ≡ []
      pick true y e' = cc
      pick false y e' = cc

      go : (o : Option A) → lesser rank_of x o ≡ None → x ∷ xs ≡ []
      go None e' = cc
      go (Some y) e' = pick (ranks_less (rank_of y) (rank_of x)) y e'

  -- the least is the first or that of the rest
  chosen_of : (x : A) (o : Option A) (best : A) → lesser rank_of x o ≡ Some best → (best ≡ x) ⊎ (o ≡ Some best)
  chosen_of x None best e = inl cc
  chosen_of x (Some y) best e = go (ranks_less (rank_of y) (rank_of x)) e
    where
      go : (b : Bool) → cond b (Some y) (Some x) ≡ Some best → (best ≡ x) ⊎ (Some y ≡ Some best)
      go true e' = inr e'
      go false e' = inl cc

  -- the least is in the list
  pub least_in : (xs : List A) (best : A) → least rank_of xs ≡ Some best → Contains xs best
  least_in [] best e = cc
  least_in (x ∷ xs) best e = go (chosen_of x (least rank_of xs) best e) (least_in xs best)
    where
      go : (best ≡ x) ⊎ (least rank_of xs ≡ Some best) → (least rank_of xs ≡ Some best → Contains xs best) → Contains (x ∷ xs) best
      go (inl same) ih = subst (λ w. Contains (x ∷ xs) w) (sym same) (first_in x xs)
      go (inr later) ih = rest_in x xs best (ih later)

  -- the chosen one isn't above the first
  first_not_less : (x : A) (o : Option A) (best : A) → lesser rank_of x o ≡ Some best → ranks_less (rank_of x) (rank_of best) ≡ false
  first_not_less x None best e = let same : x ≡ best = cc in subst (λ w. ranks_less (rank_of x) (rank_of w) ≡ false) same (not_less_itself (rank_of x))
  first_not_less x (Some y) best e = go (ranks_less (rank_of y) (rank_of x)) refl e
    where
      go : (b : Bool) → ranks_less (rank_of y) (rank_of x) ≡ b → cond b (Some y) (Some x) ≡ Some best → ranks_less (rank_of x) (rank_of best) ≡ false
      go true at e' = let same : y ≡ best = cc in subst (λ w. ranks_less (rank_of x) (rank_of w) ≡ false) same (less_not_less (rank_of y) (rank_of x) at)
      go false at e' = let same : x ≡ best = cc in subst (λ w. ranks_less (rank_of x) (rank_of w) ≡ false) same (not_less_itself (rank_of x))

  -- nor above the least of the rest
  rest_not_less : (x y best : A) → lesser rank_of x (Some y) ≡ Some best → ranks_less (rank_of y) (rank_of best) ≡ false
  rest_not_less x y best e = go (ranks_less (rank_of y) (rank_of x)) refl e
    where
      go : (b : Bool) → ranks_less (rank_of y) (rank_of x) ≡ b → cond b (Some y) (Some x) ≡ Some best → ranks_less (rank_of y) (rank_of best) ≡ false
      go true at e' = let same : y ≡ best = cc in subst (λ w. ranks_less (rank_of y) (rank_of w) ≡ false) same (not_less_itself (rank_of y))
      go false at e' = let same : x ≡ best = cc in subst (λ w. ranks_less (rank_of y) (rank_of w) ≡ false) same at

  -- no element ranks less than the least
  pub none_less : (xs : List A) (best other : A) → least rank_of xs ≡ Some best → Contains xs other → ranks_less (rank_of other) (rank_of best) ≡ false
  none_less [] best other e held = absurd (none_in other held)
  none_less (x ∷ xs) best other e held = go (least rank_of xs) refl e (in_cases x xs other held) (λ z at more. none_less xs z other at more)
    where
      go : (o : Option A) → least rank_of xs ≡ o → lesser rank_of x o ≡ Some best → (x ≡ other) ⊎ Contains xs other
          → ((z : A) → least rank_of xs ≡ Some z → Contains xs other → ranks_less (rank_of other) (rank_of z) ≡ false)
          → ranks_less (rank_of other) (rank_of best) ≡ false
      go o at e' (inl same) ih = subst (λ w. ranks_less (rank_of w) (rank_of best) ≡ false) same (first_not_less x o best e')
      go None at e' (inr more) ih = absurd (none_in other (subst (λ w. Contains w other) (least_none xs at) more))
      go (Some z) at e' (inr more) ih = not_less_through (rank_of best) (rank_of z) (rank_of other) (rest_not_less x z best e') (ih z at more)
