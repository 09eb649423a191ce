-- How a body is read from the front of a stream.
use Rattle.std.specs.Prelude.{◌≡◌, ◌<◌, ◌≤◌, ⊤, ℕ, List, length, take, Result, Ok, Err}
use Rattle.lf_io.specs.Faults.{risen}
use Rattle.lf_http.specs.declared.body.BodyErr.{BodyErr}
use Rattle.lf_http.specs.declared.body.BodyErr.TheVariants.{CutShort, ReadFault, Memory}

-- the count rises exactly where a read failed
abbrev pub count_after_body : {A : Type 0} → ℕ → Result A BodyErr → ℕ
count_after_body count (Ok _) = count
count_after_body count (Err CutShort) = count
count_after_body count (Err ReadFault) = risen count
count_after_body count (Err Memory) = count

-- the answer for a body of this length, and the bytes that it leaves: those that stand first, or
-- all where they are too few
abbrev pub ReadsBody : {A : Type 0} → ℕ → List ℕ → List ℕ → Result A BodyErr → Type 0
ReadsBody count stream body (Ok _) = (count ≤ length stream) × (body ≡ take count stream)
ReadsBody count stream body (Err CutShort) = (length stream < count) × (body ≡ stream)
ReadsBody count stream body (Err ReadFault) = ⊤
ReadsBody count stream body (Err Memory) = ⊤
