-- The document of a value of the type `Frame`.
use Rattle.std.specs.Prelude.{List}
use Rattle.lf_model.specs.declared.frame.Frame.{Frame}
use Rattle.lf_model.specs.declared.document.Doc.{Doc}
use Rattle.lf_model.specs.JsonBridge.{json_data}
use Rattle.def_framing.specs.Outcome.{Outcome}
use Rattle.def_documents.specs.Document.{document}

-- the document of a frame and of the outcomes of a dataset's terms, in order
abbrev pub document_of : Frame → List Outcome → Doc
document_of f outcomes = document f.table (json_data f.context) outcomes
