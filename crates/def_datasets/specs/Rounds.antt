-- Sets that grow in rounds, and values that are found within a number of steps.
use Rattle.std.specs.Prelude.{ℕ, zero, suc, Bool, false, Option, None}

-- the set after some rounds: the empty set, and one step more in each round
abbrev pub rounds : {A : Type 0} → ((A → Bool) → A → Bool) → ℕ → A → Bool
rounds step zero x = false
rounds step (suc n) x = step (rounds step n) x

-- what a recursion finds within some steps
abbrev pub within : {A B : Type 0} → ((A → Option B) → A → Option B) → ℕ → A → Option B
within step zero x = None
within step (suc n) x = step (within step n) x
