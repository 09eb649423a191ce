use Rattle.std.proofs.Common.{◌≡◌, List, ap, map, sym, ◌∙◌}
use Rattle.lf_model.specs.declared.document.Outcome.{Outcome}
use Rattle.def_documents.specs.FrameDocument.{document_of}
use Rattle.def_framing.specs.OutcomeBridge.{outcome_data}
use Rattle.lf_board.proofs.Documents.{is_of}
use Rattle.lf_board.proofs.evaluated.evaluate.Goals as goal

pub returns-clause-is : goal.returns-clause-is
returns-clause-is g c =
    is_of c.args.frame.now _ c.args.to.now c.index.result.now c.args.all.now
    c.in_ok-share.ensures c.index.ensures.quads c.requires.all
    (ap (map outcome_data) c.outcomes.view_is ∙ c.in_ok-outcomes.ensures)
    (c.in_ok-new.ensures.ok ∙ (c.in_ok-doc.ensures ∙ ap (λ outcomes. document_of c.args.frame.now (map outcome_data outcomes)) (sym c.outcomes.view_is)))
