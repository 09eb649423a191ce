use Rattle.std.proofs.Common.{◌≡◌, ◌∷◌, [], Some, None, IfOk, ap, sym, subst, ◌∙◌}
use Rattle.std.specs.Option.{option_copied}
use Rattle.lf_sorted.specs.Entries.{value_at}
use Rattle.lf_model.specs.JsonBridge.{json_data}
use Rattle.def_documents.specs.Grouping.{together}
use Rattle.def_selection.specs.Keywords.{at_context}
use Rattle.lf_doc.proofs.Tops.{alone, under-is}
use Rattle.lf_doc.proofs.top.beside.Goals as goal

pub returns-in_ok-copy-in-Some : goal.returns-in_ok-copy-in-Some
returns-in_ok-copy-in-Some c =
    let ms = c.args.members.now in
    let found : value_at at_context ms ≡ Some c.in-Some.value.now = ap (λ k. value_at k ms) (sym c.context_name.ensures) ∙ sym c.get.ensures ∙ ap option_copied c.in-Some.is in
    subst (λ l. IfOk c.both.result (λ v. json_data v ≡ together (json_data c.args.context ∷ l)))
    (ap (λ v. json_data v ∷ []) c.in_ok-copy-in-Some.ensures ∙ sym (under-is at_context ms c.as_slice.ensures.order ∙ ap alone found)) c.both.ensures

pub returns-in-None : goal.returns-in-None
returns-in-None c =
    let ms = c.args.members.now in
    let found : value_at at_context ms ≡ None = ap (λ k. value_at k ms) (sym c.context_name.ensures) ∙ sym c.get.ensures ∙ ap option_copied c.in-None.is in
    ap (λ l. together (json_data c.args.context ∷ l)) (sym (under-is at_context ms c.as_slice.ensures.order ∙ ap alone found))
