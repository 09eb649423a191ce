use Rattle.std.proofs.Common.{◌≡◌, None, Err, ap, sym, subst, ◌∙◌}
use Rattle.lf_model.specs.declared.document.Doc.TheVariants.{Refused}
use Rattle.lf_model.specs.declared.error.LdError.TheVariants.{IriConfusedWithPrefix}
use Rattle.def_documents.specs.Document.{printed_doc}
use Rattle.lf_doc.specs.Maps.{CompactedAll}
use Rattle.lf_doc.proofs.assembly.refused.Goals as goal

pub returns-in-Ld : goal.returns-in-Ld
returns-in-Ld c = λ table context answer failed.
    let parts : (answer ≡ None) × (c.in-Ld.error ≡ IriConfusedWithPrefix) = subst (λ x. CompactedAll (Err x) answer) c.in-Ld.is failed in
    ap Refused parts.1 ∙ ap (printed_doc table context) (sym parts.0)
