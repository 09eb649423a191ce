-- Tests over lists, and numbers of digits.
use Rattle.std.proofs.Common.{◌≡◌, ◌<◌, ◌+◌, ℕ, List, [], ◌∷◌, Bool, ◌||◌, Option, Some, None, refl, ap, arith, map, drop, get_or, length}
use Rattle.std.specs.List.{list_any}
use Rattle.std.proofs.lemmas.List.{drop_more}
use Rattle.lf_http.specs.Fields.{greater, greatest, number}

pub list_any-map : {X Y : Type 0} (test : X → Bool) (h : Y → X) (ys : List Y) → list_any test (map h ys) ≡ list_any (λ y. test (h y)) ys
list_any-map test h [] = refl
list_any-map test h (y ∷ ys) = ap (λ b. test (h y) || b) (list_any-map test h ys)

pub greater_assoc : (a b c : Option ℕ) → greater a (greater b c) ≡ greater (greater a b) c
greater_assoc None b c = refl
greater_assoc (Some n) None c = refl
greater_assoc (Some n) (Some m) None = refl
greater_assoc (Some n) (Some m) (Some k) = ap Some (omega arith)

pub greater_none : (a : Option ℕ) → greater a None ≡ a
greater_none None = refl
greater_none (Some n) = refl

-- the greatest of what is left, one step on
pub greatest-drop : {Y : Type 0} (h : Y → List ℕ) (ys : List Y) (i : ℕ) (d : Y) (best : Option ℕ) → i < length ys
    → greater best (greatest (map h (drop i ys)))
    ≡ greater (greater best (number (h (get_or ys i d)))) (greatest (map h (drop (i + 1) ys)))
greatest-drop h ys i d best within =
    rw (drop_more ys i d within) (greater_assoc best (number (h (get_or ys i d))) (greatest (map h (drop (i + 1) ys))))
