-- What a reader of frames answers: what the definition gives, or its error, unless no memory was
-- found.
use Rattle.std.specs.Prelude.{◌≡◌, Result, Ok, Err}
use Rattle.lf_model.specs.declared.error.LdError.{LdError}
use Rattle.lf_expand.specs.declared.error.FrameErr.{FrameErr}
use Rattle.lf_expand.specs.declared.error.FrameErr.TheVariants.{Ld, Memory}

abbrev pub Fails : {Y : Type 0} → FrameErr → Result Y LdError → Type 0
Fails Memory defined = Unit {0}
Fails (Ld e) defined = defined ≡ Err e

abbrev pub Gives : {X Y : Type 0} → (X → Y) → Result X FrameErr → Result Y LdError → Type 0
Gives view (Ok x) defined = defined ≡ Ok (view x)
Gives view (Err e) defined = Fails e defined
