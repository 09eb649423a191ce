-- What reading frames' texts decides.
use Rattle.std.specs.Prelude.{◌≡◌, ◌↔◌, List, ℕ, false, None, Ok}
use Rattle.serde_json.specs.Data.{Data}
use Rattle.lf_rdf.specs.declared.quad.Quad.{Quad}
use Rattle.lf_model.specs.declared.frame.Frame.{Frame}
use Rattle.def_contexts.specs.Frames.{FrameMeaning, frame_of}
use Rattle.def_contexts.specs.FrameValues.{frame_meaning}
use Rattle.def_scratch.specs.Scratch.{scratch_text, scratch_frame}
use Rattle.lf_json.specs.Reading.{json_of, fraction_in}
use Rattle.lf_json.specs.Answers.{States}
use Rattle.lf_frames.specs.FrameTexts.{accepted, frame_text, document}

-- the text states a value without fractions, and the value means this
pub record Means (text : List ℕ) (meaning : FrameMeaning) : Type 0 where
  pub value : Data
  pub states : States text value
  pub whole : fraction_in false value ≡ None
  pub means : frame_of (json_of value) ≡ Ok meaning

-- a text is accepted exactly where it states a value that means a frame
abbrev pub AcceptsFrames : Type 0
AcceptsFrames = (text : List ℕ) (meaning : FrameMeaning) →
    (frame_text text ≡ accepted meaning) ↔ Means text meaning

-- its document is the one computed from scratch for that value
abbrev pub DocumentsAreScratch : Type 0
DocumentsAreScratch =
    (text : List ℕ) (meaning : FrameMeaning) (means : Means text meaning) (dataset : List Quad)
    → scratch_text (json_of means.value) dataset ≡ Ok (document text dataset)

-- a frame that was read from the text has the document of the text
abbrev pub ReadFramesGiveDocuments : Type 0
ReadFramesGiveDocuments =
    (text : List ℕ) (frame : Frame) (dataset : List Quad) →
    frame_text text ≡ accepted (frame_meaning frame)
    → scratch_frame frame dataset ≡ document text dataset
