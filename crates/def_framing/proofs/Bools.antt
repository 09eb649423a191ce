-- Tests joined by `&&` and `||`.
use Rattle.std.proofs.Common.{◌≡◌, Bool, true, false, not, ◌&&◌, ◌||◌, refl, sym}
use Rattle.std.proofs.lemmas.Bool.{false≢true}

pub and_first : (one two : Bool) → (one && two) ≡ true → one ≡ true
and_first true two e = refl
and_first false two e = e

pub and_second : (one two : Bool) → (one && two) ≡ true → two ≡ true
and_second true two e = e
and_second false two e = absurd (false≢true e)

pub not_true : (one : Bool) → not one ≡ true → one ≡ false
not_true true e = sym e
not_true false e = refl

pub or_first : (one two : Bool) → (one || two) ≡ false → one ≡ false
or_first true two e = e
or_first false two e = refl

pub or_second : (one two : Bool) → (one || two) ≡ false → two ≡ false
or_second true two e = absurd (false≢true (sym e))
or_second false two e = e

-- one of two tests holds where each does
pub either_way : (test : Bool) → ((test && true) || (not test && true)) ≡ true
either_way true = refl
either_way false = refl

pub or_true_second : (one two : Bool) → two ≡ true → (one || two) ≡ true
or_true_second true two e = refl
or_true_second false two e = e
