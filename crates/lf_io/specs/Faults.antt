-- Counts of faults. A count never falls, and stands still at the last number of its type.
use Rattle.std.specs.Prelude.{ℕ, ◌+◌, ◌-◌, ◌^◌, min, max, Result, Ok, Err}
use Rattle.lf_io.specs.declared.failed.Failed.{Failed}

-- a count after one more
unfoldable pub risen : ℕ → ℕ
risen count = max count (min (count + 1) (2 ^ 64 - 1))

-- the count of faults after a call with this answer: a failed call raises it, and nothing else does
abbrev pub count_after : {A : Type 0} → ℕ → Result A Failed → ℕ
count_after count (Ok _) = count
count_after count (Err _) = risen count
