-- A step after a step that may fail: none is the one error of compaction, IRI confused with prefix.
use Rattle.std.specs.Prelude.{Option, Some, None}

infixl 10 ◌>>=◌
abbrev pub ◌>>=◌ : {A B : Type 0} → Option A → (A → Option B) → Option B
None >>= step = None
Some value >>= step = step value
