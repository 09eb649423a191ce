use Rattle.std.proofs.Common.{refl, ◌∙◌}
use Rattle.lf_embed.proofs.FormProofs.{form_no_row, item_list}
use Rattle.lf_match.proofs.RowProofs.{with_row}
use Rattle.lf_embed.proofs.form.item_form.Goals as goal

pub returns-in-None : goal.returns-in-None
returns-in-None c = rw (form_no_row _ _ _ c.in-Row.is c.in-None.ensures.item) refl

pub returns-in-Wild-kind : goal.returns-in-Wild-kind
returns-in-Wild-kind c = rw (c.in-Row.is, with_row _ _ _ c.in-Some.ensures.item, c.in-Wild-kind.is) refl

pub returns-in-Node : goal.returns-in-Node
returns-in-Node c = rw (c.in-Row.is, with_row _ _ _ c.in-Some.ensures.item, c.in-Node.is) refl

pub returns-in-Value : goal.returns-in-Value
returns-in-Value c = rw (c.in-Row.is, with_row _ _ _ c.in-Some.ensures.item, c.in-Value.is) refl

pub returns-in-List : goal.returns-in-List
returns-in-List c = c.list_item_form.ensures ∙ item_list _ _ _ _ _ c.in-Row.is c.in-Some.ensures.item c.in-List.is
