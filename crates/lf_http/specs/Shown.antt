-- What the buffers of a stream show.
use Rattle.std.specs.Prelude.{List, ℕ}

-- the bytes that were read and not yet used, the name that the last head gave, the last body and
-- the last reply head
pub record Shown : Type 0 where
  pub pending : List ℕ
  pub name : List ℕ
  pub body : List ℕ
  pub reply : List ℕ
