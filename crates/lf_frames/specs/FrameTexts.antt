-- What a frame's text comes to: the frame that it means, or why it is none. The conditions stand in
-- the order in which they are tried: UTF-8 and JSON (RFC 8259), numbers, the context and the frame
-- (JSON-LD 1.1 Framing, section 4.1).
use Rattle.std.specs.Prelude.{List, ℕ, Bool, true, false, Option, Some, None, Result, Ok, Err}
use Rattle.std.specs.Str.{is_utf8}
use Rattle.serde_json.specs.Data.{Data}
use Rattle.serde_json.specs.Read.{read}
use Rattle.lf_rdf.specs.declared.quad.Quad.{Quad}
use Rattle.lf_model.specs.declared.document.Doc.{Doc}
use Rattle.lf_model.specs.declared.document.Doc.TheVariants as doc
use Rattle.lf_model.specs.declared.error.LdError.{LdError}
use Rattle.lf_model.specs.declared.error.LdError.TheVariants.{InvalidFrame}
use Rattle.def_contexts.specs.Frames.{FrameMeaning, frame_of}
use Rattle.def_scratch.specs.Scratch.{scratch_of}
use Rattle.lf_json.specs.Reading.{json_of, fraction_in}

-- a number that is no whole one of 64 bits is named by its JSON pointer (RFC 6901)
pub data FrameText : Type 0 where
  not_json : FrameText
  fractional : List ℕ → FrameText
  refused : LdError → FrameText
  accepted : FrameMeaning → FrameText

abbrev pub of_meaning : Result FrameMeaning LdError → FrameText
of_meaning (Ok meaning) = accepted meaning
of_meaning (Err error) = refused error

abbrev pub of_value : Data → Option (List ℕ) → FrameText
of_value value (Some path) = fractional path
of_value value None = of_meaning (frame_of (json_of value))

abbrev pub of_read : Option Data → FrameText
of_read None = not_json
of_read (Some value) = of_value value (fraction_in false value)

abbrev pub of_text : Bool → List ℕ → FrameText
of_text false text = not_json
of_text true text = of_read (read text)

-- what a text comes to
unfoldable pub frame_text : List ℕ → FrameText
frame_text text = of_text (is_utf8 text) text

abbrev pub is_accepted : FrameText → Bool
is_accepted not_json = false
is_accepted (fractional path) = false
is_accepted (refused error) = false
is_accepted (accepted meaning) = true

-- whether a text is that of a frame
abbrev pub is_frame : List ℕ → Bool
is_frame text = is_accepted (frame_text text)

-- the document of what a text comes to; a text that is no frame is never registered, and has the
-- name of its error
abbrev pub document_of : FrameText → List Quad → Doc
document_of (accepted meaning) dataset = scratch_of meaning dataset
document_of (refused error) dataset = doc.Refused error
document_of not_json dataset = doc.Refused InvalidFrame
document_of (fractional path) dataset = doc.Refused InvalidFrame

-- the document of a frame's text over a dataset
abbrev pub document : List ℕ → List Quad → Doc
document text dataset = document_of (frame_text text) dataset
