-- The calls of an object in memory.
use Rattle.std.specs.Prelude.{List, ℕ, ◌==◌, Bool}
use Rattle.std.specs.List.{list_any}
use Rattle.lf_io.specs.declared.calls.Calls.{Calls}

-- the numbers of the calls that fail
abbrev pub failing_calls : Calls → List ℕ
failing_calls calls = calls.failing.items

-- how many calls were made
abbrev pub calls_made : Calls → ℕ
calls_made calls = calls.made

-- how many failed
abbrev pub call_faults : Calls → ℕ
call_faults calls = calls.faults

-- the number of the next call is among those that fail
abbrev pub fails_next : Calls → Bool
fails_next calls = list_any (λ number. number == calls_made calls) (failing_calls calls)
