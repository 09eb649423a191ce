-- Chains of refusals: what is answered where none of them comes, and the other way round.
use Rattle.std.proofs.Common.{◌≡◌, refl, sym, ap, Bool, true, false, not, ◌||◌, cond, Result, Ok, Err}
use Rattle.std.proofs.lemmas.Bool.{false≢true}

is_ok : {A E : Type 0} → Result A E → Bool
is_ok (Ok answer) = true
is_ok (Err error) = false

-- an answer that is no refusal is that of what follows a refusal
pub past : {A E : Type 0} (refused : Bool) (error : E) (answer : A) (rest : Result A E) → cond refused (Err error) rest ≡ Ok answer
    → (refused ≡ false) × (rest ≡ Ok answer)
unfolding is_ok
past true error answer rest e = absurd (false≢true (ap is_ok e))
past false error answer rest e = (refl, e)

-- where a refusal doesn't come, what follows it is answered
pub passed : {A E : Type 0} (refused : Bool) (one two : Result A E) → refused ≡ false → cond refused one two ≡ two
passed refused one two e = rw e refl

pub neither : (a b : Bool) → (not a || b) ≡ false → (a ≡ true) × (b ≡ false)
neither true b e = (refl, e)
neither false b e = absurd (false≢true (sym e))
