use Rattle.lf_embed.proofs.FormProofs.{form_no_row, form_row}
use Rattle.lf_embed.proofs.choices.types_for.Goals as goal

pub returns-in-None : goal.returns-in-None
returns-in-None c = rw (form_no_row _ _ _ c.in-Row.is c.in-None.ensures.item) c.copy-in-None.ensures

pub returns-in-Some : goal.returns-in-Some
returns-in-Some c = rw (form_row _ _ _ _ c.in-Row.is c.in-Some.ensures.item) c.given_types.ensures
