-- How conditions that are tried in order decide: the first error met is the outcome.
use Rattle.std.specs.Prelude.{Bool, true, false, Result, Ok, Err, ⊤}
use Rattle.lf_model.specs.declared.error.LdError.{LdError}

-- the second step, where the first gave a value
infixl 10 ◌>>=◌
abbrev pub ◌>>=◌ : {A B : Type 0} → Result A LdError → (A → Result B LdError) → Result B LdError
Ok x >>= next = next x
Err e >>= next = Err e

-- the error, where the test holds
abbrev pub refuse : Bool → LdError → Result ⊤ LdError
refuse true e = Err e
refuse false e = Ok tt
