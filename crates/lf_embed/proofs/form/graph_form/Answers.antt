use Rattle.std.proofs.Common.{Some, refl, ap}
use Rattle.lf_embed.proofs.FormProofs.{form_no_row, form_row}
use Rattle.lf_embed.proofs.form.graph_form.Goals as goal

pub returns-in-None : goal.returns-in-None
returns-in-None c = rw (form_no_row _ _ _ c.in-Row.is c.in-None.ensures.item) refl

pub returns-in-None-graph : goal.returns-in-None-graph
returns-in-None-graph c = rw ((form_row _ _ _ _ c.in-Row.is c.in-Some.ensures.item), c.in-None-graph.is) refl

pub returns-in-Some-graph : goal.returns-in-Some-graph
returns-in-Some-graph c = rw ((form_row _ _ _ _ c.in-Row.is c.in-Some.ensures.item), c.in-Some-graph.is) (ap Some c.numbered.ensures)
