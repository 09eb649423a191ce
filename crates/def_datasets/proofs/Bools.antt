-- Facts of truth values that the laws share.
use Rattle.std.proofs.Common.{◌≡◌, refl, sym, Bool, true, false, ◌&&◌, ◌||◌}
use Rattle.std.proofs.lemmas.Bool.{true≢false, false≢true}

pub or_absorb : (a b : Bool) → (a || b) ≡ (a || (a || b))
or_absorb true b = refl
or_absorb false b = refl

pub or_swap : (a b c : Bool) → (a || (b || c)) ≡ (b || (a || c))
or_swap true true c = refl
or_swap true false c = refl
or_swap false true c = refl
or_swap false false c = refl

pub or_regroup : (a b c : Bool) → (a || (b || c)) ≡ ((b || a) || c)
or_regroup true true c = refl
or_regroup true false c = refl
or_regroup false true c = refl
or_regroup false false c = refl

pub and_false : (a : Bool) → false ≡ (a && false)
and_false true = refl
and_false false = refl

pub and_true : (a : Bool) → (a && true) ≡ a
and_true true = refl
and_true false = refl

pub and_swap : (a b : Bool) → (a && b) ≡ (b && a)
and_swap true true = refl
and_swap true false = refl
and_swap false true = refl
and_swap false false = refl

-- a filter that keeps a head, and one that drops it
pub kept_head : (s p h f : Bool) → (s ≡ true → p ≡ true) → f ≡ (p && h) → (s || f) ≡ (p && (s || h))
kept_head true true h f g e = refl
kept_head true false h f g e = absurd (false≢true (g refl))
kept_head false true h f g e = e
kept_head false false h f g e = e

pub dropped_head : (s p h f : Bool) → (s ≡ true → p ≡ false) → f ≡ (p && h) → f ≡ (p && (s || h))
dropped_head true true h f g e = absurd (true≢false (g refl))
dropped_head true false h f g e = e
dropped_head false p h f g e = e

-- two tests that imply each other are one
pub same_truth : (a b : Bool) → (a ≡ true → b ≡ true) → (b ≡ true → a ≡ true) → a ≡ b
same_truth true b f g = sym (f refl)
same_truth false true f g = absurd (false≢true (g refl))
same_truth false false f g = refl
