-- Elements of lists, and what passes a test.
use Rattle.std.proofs.Common.{◌≡◌, zero, suc, Bool, true, false, List, [], ◌∷◌, cond, refl, ap, subst, ◌⊎◌, inl, inr, arith}
use Rattle.std.specs.List.{Contains, filter, list_any}
use Rattle.std.proofs.lemmas.List.Elements.{Contains-append_cases, Contains-append_right}
use Rattle.std.proofs.lemmas.List.Folds.{Any-from_list_any, list_any-from_Any}

-- the first element, one of the rest, and either
pub first_in : {X : Type 0} (x : X) (xs : List X) → Contains (x ∷ xs) x
first_in x xs = (0, omega arith, refl)

pub rest_in : {X : Type 0} (y : X) (xs : List X) (x : X) → Contains xs x → Contains (y ∷ xs) x
rest_in y xs x held = Contains-append_right (y ∷ []) xs x held

only_one : {X : Type 0} (y x : X) → Contains (y ∷ []) x → y ≡ x
only_one y x (zero, below, here) = here
only_one y x (suc k, below, here) = absurd (omega arith)

pub in_cases : {X : Type 0} (y : X) (xs : List X) (x : X) → Contains (y ∷ xs) x → (y ≡ x) ⊎ Contains xs x
in_cases y xs x held = elim (Contains-append_cases (y ∷ []) xs x held) [ inl one ↦ inl (only_one y x one) | inr more ↦ inr more ]

-- no element is in the empty list
pub none_in : {X : Type 0} (x : X) → Contains [] x → ⊥
none_in x (k, below, here) = absurd (omega arith)

-- what a filter keeps is in the list and passes
pub filter_in : {X : Type 0} (p : X → Bool) (xs : List X) (x : X) → Contains (filter p xs) x → Contains xs x × (p x ≡ true)
filter_in p [] x held = absurd (none_in x held)
filter_in p (y ∷ xs) x held = go (p y) refl held (filter_in p xs x)
  where
    later : Contains xs x × (p x ≡ true) → Contains (y ∷ xs) x × (p x ≡ true)
    later both = (rest_in y xs x both.0, both.1)

    go : (b : Bool) → p y ≡ b → Contains (cond b (y ∷ filter p xs) (filter p xs)) x → (Contains (filter p xs) x → Contains xs x × (p x ≡ true)) → Contains (y ∷ xs) x × (p x ≡ true)
    go true e held' ih =
        elim (in_cases y (filter p xs) x held') [
          | inl same ↦ subst (λ z. Contains (y ∷ xs) z × (p z ≡ true)) same (first_in y xs, e)
          | inr more ↦ later (ih more)
        ]
    go false e held' ih = later (ih held')

-- and what passes is kept
pub in_filter : {X : Type 0} (p : X → Bool) (xs : List X) (x : X) → Contains xs x → p x ≡ true → Contains (filter p xs) x
in_filter p [] x held passes = absurd (none_in x held)
in_filter p (y ∷ xs) x held passes = go (p y) refl (in_cases y xs x held) (λ more. in_filter p xs x more passes)
  where
    go : (b : Bool) → p y ≡ b → (y ≡ x) ⊎ Contains xs x → (Contains xs x → Contains (filter p xs) x) → Contains (cond b (y ∷ filter p xs) (filter p xs)) x
    go true e (inl same) ih = subst (λ z. Contains (y ∷ filter p xs) z) same (first_in y (filter p xs))
    go true e (inr more) ih = rest_in y (filter p xs) x (ih more)
    go false e (inl same) ih = absurd (cc (ap p same, passes, e))
    go false e (inr more) ih = ih more

-- a test that some element passes
pub some_passes : {X : Type 0} (p : X → Bool) (xs : List X) → list_any p xs ≡ true → (x : X) × Contains xs x × (p x ≡ true)
some_passes p xs holds = let (k, x, below, here, passes) = Any-from_list_any p xs holds in (x, (k, below, here), passes)

pub passes_some : {X : Type 0} (p : X → Bool) (xs : List X) (x : X) → Contains xs x → p x ≡ true → list_any p xs ≡ true
passes_some p xs x held passes = list_any-from_Any p xs (held.0, x, held.1, held.2, passes)
