-- Documents computed from scratch.
use Rattle.std.proofs.Common.{◌≡◌, refl, ap, ap₂}
use Rattle.def_framing.specs.Views.{Views, of_dataset}
use Rattle.def_framing.specs.Outcome.{outcome_in, framed_graph}
use Rattle.def_documents.specs.Document.{scratch}
use Rattle.def_documents.specs.FrameDocument.{document_of}
use Rattle.def_scratch.specs.Scratch.{scratch_by}
use Rattle.def_scratch.specs.Laws.{FrameErrorsDecide, FrameGivesDocumentOfItsMeaning, FrameGivesDocumentOfItsText, OutcomesGiveTheDocument, SameViewsSameDocument}

pub errors_decide : FrameErrorsDecide
errors_decide frame error dataset e = ap (λ read. scratch_by read dataset) e

pub same_document : SameViewsSameDocument
same_document meaning one two ids view keys pointing names =
    ap₂
    (λ (views : Views) held.
    scratch meaning.table meaning.context
    (outcome_in views meaning.nested (framed_graph meaning.top_graph)) held)
    joined ids
  where
    joined : of_dataset one ≡ of_dataset two
    joined =
        λ i. record {
          view = λ graph id. view graph id i;
          keys = λ graph. keys graph i;
          pointing = λ graph property id. pointing graph property id i;
          names_graph = λ name. names name i;
        }

pub document_of_meaning : FrameGivesDocumentOfItsMeaning
document_of_meaning f dataset = refl

pub document_of_text : FrameGivesDocumentOfItsText
document_of_text frame f dataset stands = ap (λ read. scratch_by read dataset) stands

pub document_of_outcomes : OutcomesGiveTheDocument
document_of_outcomes f dataset all same = ap (document_of f) same
