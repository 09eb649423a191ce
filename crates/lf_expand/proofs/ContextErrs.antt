-- The answers of a context as those of its frame.
use Rattle.std.proofs.Common.{Result, Err, subst, sym, ◌≡◌}
use Rattle.lf_model.specs.declared.error.LdError.{LdError}
use Rattle.lf_context.specs.declared.error.ContextErr.{ContextErr}
use Rattle.lf_context.specs.declared.error.ContextErr.TheVariants as context
use Rattle.lf_context.specs.Parts.{IsPart}
use Rattle.lf_expand.specs.declared.error.FrameErr.{FrameErr}
use Rattle.lf_expand.specs.ContextErrors.{frame_error}
use Rattle.lf_expand.specs.Gives.{Fails}

pub part_fails : {A : Type 0} (defined : Result A LdError) (e : ContextErr) (f : FrameErr) → f ≡ frame_error e → IsPart {A = A} defined (Err e) → Fails f defined
part_fails defined (context.Ld e) f is h = subst (λ x. Fails x defined) (sym is) h
part_fails defined context.Memory f is h = subst (λ x. Fails x defined) (sym is) tt
