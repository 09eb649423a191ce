use Rattle.std.proofs.Common.{ap, sym, ◌∙◌, true≢false}
use Rattle.lf_model.specs.JsonBridge.{json_data}
use Rattle.def_documents.specs.PrintedContext.{shown}
use Rattle.lf_doc.proofs.Shown.{shown-list, shown-map}
use Rattle.lf_doc.proofs.context.shown.Goals as goal

pub returns-else-is_empty : goal.returns-else-is_empty
returns-else-is_empty c =
    ap (λ v. shown (json_data v)) c.in-List.is ∙ shown-list c.in-List.items (λ none. true≢false (sym (c.is_empty.ensures.1 none) ∙ c.if-is_empty.false))

pub returns-else-is_empty-2 : goal.returns-else-is_empty-2
returns-else-is_empty-2 c =
    ap (λ v. shown (json_data v)) c.in-Map.is ∙ shown-map c.in-Map.members (λ none. true≢false (sym (c.is_empty-in-Map.ensures.1 none) ∙ c.if-is_empty-2.false))
