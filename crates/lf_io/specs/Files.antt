-- The files of a shelf, by name, where it tells them, and its counts of faults.
use Rattle.std.specs.Prelude.{◌≡◌, ⊤, List, ℕ, Bool, true, false, Option, Some, None, Result, Err, is_some}
use Rattle.lf_io.specs.declared.shelf.ShelfErr.{ShelfErr}
use Rattle.lf_io.specs.declared.shelf.ShelfErr.TheVariants as e
use Rattle.lf_io.specs.Faults.{risen}

-- the bytes of each name that is there
abbrev pub Files : Type 0
Files = List ℕ → Option (List ℕ)

-- the file of this name holds these bytes, where the files are told
abbrev pub MayHold : Option Files → List ℕ → List ℕ → Type 0
MayHold None name bytes = ⊤
MayHold (Some files) name bytes = files name ≡ Some bytes

-- the files are told, and one has this name
abbrev pub is_there : Option Files → List ℕ → Bool
is_there None name = false
is_there (Some files) name = is_some (files name)

-- the count of faults after a take with this answer: only `Failed` raises it
abbrev pub count_after_take : {A : Type 0} → ℕ → Result A ShelfErr → ℕ
count_after_take count (Err e.Failed) = risen count
count_after_take count _ = count

-- the count of failed takes of names that are there, after a take of a name
abbrev pub refusals_after_take : {A : Type 0} → Bool → ℕ → Result A ShelfErr → ℕ
refusals_after_take true count result = count_after_take count result
refusals_after_take false count result = count
