-- Bytes of sources and sinks that may or may not tell them.
use Rattle.std.specs.Prelude.{◌≡◌, ◌<◌, ⊤, List, [], ℕ, ◌++◌, length, take, Option, Some, None}

-- these bytes, and then what is told
abbrev pub prepended : List ℕ → Option (List ℕ) → Option (List ℕ)
prepended bytes None = None
prepended bytes (Some rest) = Some (bytes ++ rest)

-- what is told, and then these bytes
abbrev pub appended : Option (List ℕ) → List ℕ → Option (List ℕ)
appended None bytes = None
appended (Some held) bytes = Some (held ++ bytes)

-- nothing is left, where it is told what is left
abbrev pub HasEnded : Option (List ℕ) → Type 0
HasEnded None = ⊤
HasEnded (Some rest) = rest ≡ []

-- some of the bytes were added, from the front, but not all
abbrev pub AddsPart : Option (List ℕ) → Option (List ℕ) → List ℕ → Type 0
AddsPart old new bytes = (n : ℕ) × (n < length bytes) × (new ≡ appended old (take n bytes))
