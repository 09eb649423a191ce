-- The document of a frame over a dataset (JSON-LD 1.1 Framing, section 4).
use Rattle.std.specs.Prelude.{List, Result, Ok, Err, map}
use Rattle.lf_rdf.specs.declared.quad.Quad.{Quad}
use Rattle.lf_model.specs.declared.error.LdError.{LdError}
use Rattle.lf_model.specs.declared.document.Doc.{Doc}
use Rattle.lf_model.specs.declared.frame.Frame.{Frame}
use Rattle.lf_model.specs.JsonData.{JsonValue}
use Rattle.def_contexts.specs.Frames.{FrameMeaning, frame_of}
use Rattle.def_datasets.specs.Terms.{terms}
use Rattle.def_framing.specs.Views.{of_dataset}
use Rattle.def_framing.specs.Outcome.{outcome, outcome_in, framed_graph}
use Rattle.def_documents.specs.Document.{scratch}
use Rattle.def_documents.specs.FrameDocument.{document_of}

-- the document of what a frame text means, over a dataset
abbrev pub scratch_of : FrameMeaning → List Quad → Doc
scratch_of meaning dataset =
    scratch meaning.table meaning.context
    (outcome_in (of_dataset dataset) meaning.nested (framed_graph meaning.top_graph))
    (terms dataset)

abbrev pub scratch_by : Result FrameMeaning LdError → List Quad → Result Doc LdError
scratch_by (Ok meaning) dataset = Ok (scratch_of meaning dataset)
scratch_by (Err error) dataset = Err error

-- the document of a frame's text, or the error of its context or of the frame
abbrev pub scratch_text : JsonValue → List Quad → Result Doc LdError
scratch_text frame dataset = scratch_by (frame_of frame) dataset

-- the document of a value of the type `Frame` over a dataset: that of the outcomes of its terms, in
-- order
abbrev pub scratch_frame : Frame → List Quad → Doc
scratch_frame f dataset = document_of f (map (outcome (of_dataset dataset) f) (terms dataset))
