-- The error of a context as that of its frame.
use Rattle.lf_context.specs.declared.error.ContextErr.{ContextErr}
use Rattle.lf_context.specs.declared.error.ContextErr.TheVariants as context
use Rattle.lf_expand.specs.declared.error.FrameErr.{FrameErr}
use Rattle.lf_expand.specs.declared.error.FrameErr.TheVariants as frame

abbrev pub frame_error : ContextErr → FrameErr
frame_error (context.Ld e) = frame.Ld e
frame_error context.Memory = frame.Memory
