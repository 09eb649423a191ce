-- What reading a frame file gives.
use Rattle.std.specs.Prelude.{◌≡◌, List, ℕ, Option}
use Rattle.lf_model.specs.declared.frame.Frame.{Frame}
use Rattle.def_contexts.specs.FrameValues.{frame_meaning}
use Rattle.lf_io.specs.Files.{Files}
use Rattle.lf_frames.specs.FrameTexts.{accepted, frame_text}
use Rattle.lf_app.specs.Holding.{HoldsFrame}

-- the file may hold a frame's text, and this is what it means
pub record ReadsFrame (files : Option Files) (name : List ℕ) (frame : Frame) : Type 0 where
  pub text : List ℕ
  pub holds : HoldsFrame files name text
  pub means : frame_text text ≡ accepted (frame_meaning frame)
