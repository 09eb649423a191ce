-- Sets as lists in strict order, by an order and a test of equality that are given.
use Rattle.std.specs.Prelude.{List, [], ◌∷◌, Bool, true, ◌&&◌, not}
use Rattle.std.specs.declared.cmp.Ordering.{Ordering}
use Rattle.std.specs.declared.cmp.Ordering.TheVariants.{Less, Equal, Greater}
use Rattle.std.specs.Ordering.{is_lt}
use Rattle.std.specs.List.{filter, list_any, list_all}

-- whether a value is in a list
abbrev pub has : {A : Type 0} → (A → A → Bool) → List A → A → Bool
has same xs x = list_any (same x) xs

-- the list without the values of another
abbrev pub without : {A : Type 0} → (A → A → Bool) → List A → List A → List A
without same xs gone = filter (λ x. not (has same gone x)) xs

-- each value is less than all that follow it
abbrev pub ascends : {A : Type 0} → (A → A → Ordering) → List A → Bool
ascends cmp [] = true
ascends cmp (x ∷ xs) = list_all (λ y. is_lt (cmp x y)) xs && ascends cmp xs

-- a value before a head, in its place, or among what follows
abbrev pub placed : {A : Type 0} → Ordering → A → A → List A → List A → List A
placed Less x y ys later = x ∷ y ∷ ys
placed Equal x y ys later = y ∷ ys
placed Greater x y ys later = y ∷ later

-- a value at its place in the order; the list stays where it is there
abbrev pub put : {A : Type 0} → (A → A → Ordering) → A → List A → List A
put cmp x [] = x ∷ []
put cmp x (y ∷ ys) = placed (cmp x y) x y ys (put cmp x ys)

-- several values, one after the other
abbrev pub put_all : {A : Type 0} → (A → A → Ordering) → List A → List A → List A
put_all cmp xs [] = xs
put_all cmp xs (y ∷ ys) = put_all cmp (put cmp y xs) ys

-- the values of a list, each once and in order
abbrev pub set_of : {A : Type 0} → (A → A → Ordering) → List A → List A
set_of cmp xs = put_all cmp [] xs
