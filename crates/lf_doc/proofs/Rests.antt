-- What is left of a list that is walked item by item.
use Rattle.std.proofs.Common.{◌≡◌, ℕ, zero, suc, ◌+◌, ◌<◌, ◌≤◌, List, [], ◌∷◌, length, drop, get_or, map, refl, sym, ap, arith}

rest_at : {X Y : Type 0} (f : X → Y) (xs : List X) (i : ℕ) (x : X) → i < length xs → x ≡ get_or xs i x → map f (drop i xs) ≡ f x ∷ map f (drop (suc i) xs)
rest_at f [] i x within is = absurd (omega arith)
rest_at f (y ∷ ys) zero x within is = ap (λ z. f z ∷ map f ys) (sym is)
rest_at f (y ∷ ys) (suc i) x within is = rest_at f ys i x (omega arith) is

pub rest_next : {X Y : Type 0} (f : X → Y) (xs : List X) (i : ℕ) (x : X) → i < length xs → x ≡ get_or xs i x → map f (drop i xs) ≡ f x ∷ map f (drop (i + 1) xs)
rest_next f xs i x within is = let next : i + 1 ≡ suc i = omega arith in rw next (rest_at f xs i x within is)

-- nothing is left
pub rest_none : {X Y : Type 0} (f : X → Y) (xs : List X) (i : ℕ) → length xs ≤ i → map f (drop i xs) ≡ []
rest_none f [] zero done = refl
rest_none f [] (suc i) done = refl
rest_none f (y ∷ ys) zero done = absurd (omega arith)
rest_none f (y ∷ ys) (suc i) done = rest_none f ys i (omega arith)
