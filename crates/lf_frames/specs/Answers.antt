-- What the reader of frames' texts answers.
use Rattle.std.specs.Prelude.{◌≡◌, Result, Ok, Err}
use Rattle.lf_model.specs.declared.frame.Frame.{Frame}
use Rattle.def_contexts.specs.FrameValues.{frame_meaning}
use Rattle.lf_frames.specs.declared.error.FrameTextErr.{FrameTextErr}
use Rattle.lf_frames.specs.declared.error.FrameTextErr.TheVariants as err
use Rattle.lf_frames.specs.FrameTexts.{FrameText, not_json, fractional, refused, accepted}

-- the frame that the text means, or why it is none, unless no memory was found
abbrev pub Tells : FrameText → Result Frame FrameTextErr → Type 0
Tells told (Ok frame) = told ≡ accepted (frame_meaning frame)
Tells told (Err err.NotJson) = told ≡ not_json
Tells told (Err (err.Fractional path)) = told ≡ fractional path
Tells told (Err (err.Ld error)) = told ≡ refused error
Tells told (Err err.Memory) = Unit {0}
