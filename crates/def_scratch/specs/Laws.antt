-- What holds of documents computed from scratch.
use Rattle.std.specs.Prelude.{◌≡◌, List, ℕ, Ok, Err, map}
use Rattle.lf_rdf.specs.declared.quad.Quad.{Quad}
use Rattle.lf_rdf.specs.declared.term.Term.{Term}
use Rattle.lf_rdf.specs.declared.question.GraphRef.{GraphRef}
use Rattle.lf_model.specs.declared.error.LdError.{LdError}
use Rattle.lf_model.specs.declared.document.Outcome as program
use Rattle.lf_model.specs.declared.frame.Frame.{Frame}
use Rattle.lf_model.specs.JsonData.{JsonValue}
use Rattle.def_contexts.specs.Frames.{FrameMeaning, frame_of}
use Rattle.def_contexts.specs.FrameValues.{frame_meaning, IsFrameOf}
use Rattle.def_datasets.specs.Terms.{terms}
use Rattle.def_framing.specs.Views.{of_dataset}
use Rattle.def_framing.specs.Outcome.{outcome}
use Rattle.def_framing.specs.OutcomeBridge.{outcome_data}
use Rattle.def_documents.specs.FrameDocument.{document_of}
use Rattle.def_scratch.specs.Scratch.{scratch_of, scratch_text, scratch_frame}

-- an error of the frame is the outcome over every dataset
abbrev pub FrameErrorsDecide : Type 0
FrameErrorsDecide =
    (frame : JsonValue) (error : LdError) (dataset : List Quad) → frame_of frame ≡ Err error →
    scratch_text frame dataset ≡ Err error

-- nothing of a dataset counts but its terms and the views of its nodes
abbrev pub SameViewsSameDocument : Type 0
SameViewsSameDocument =
    (meaning : FrameMeaning) (one two : List Quad) → terms one ≡ terms two →
    ((graph : GraphRef) (id : Term) →
    (of_dataset one).view graph id ≡ (of_dataset two).view graph id) →
    ((graph : GraphRef) → (of_dataset one).keys graph ≡ (of_dataset two).keys graph) →
    ((graph : GraphRef) (property : List ℕ) (id : Term) →
    (of_dataset one).pointing graph property id ≡ (of_dataset two).pointing graph property id)
    → ((name : Term) → (of_dataset one).names_graph name ≡ (of_dataset two).names_graph name) →
    scratch_of meaning one ≡ scratch_of meaning two

-- a value of the type `Frame` has the document of what it means
abbrev pub FrameGivesDocumentOfItsMeaning : Type 0
FrameGivesDocumentOfItsMeaning =
    (f : Frame) (dataset : List Quad) →
    scratch_frame f dataset ≡ scratch_of (frame_meaning f) dataset

-- where it stands for a text, that of the text
abbrev pub FrameGivesDocumentOfItsText : Type 0
FrameGivesDocumentOfItsText =
    (frame : JsonValue) (f : Frame) (dataset : List Quad) → IsFrameOf frame f →
    scratch_text frame dataset ≡ Ok (scratch_frame f dataset)

-- outcomes that a program gives for the terms of a dataset, in order, make this document
abbrev pub OutcomesGiveTheDocument : Type 0
OutcomesGiveTheDocument =
    (f : Frame) (dataset : List Quad) (all : List program.Outcome) →
    map outcome_data all ≡ map (outcome (of_dataset dataset) f) (terms dataset) →
    document_of f (map outcome_data all) ≡ scratch_frame f dataset
