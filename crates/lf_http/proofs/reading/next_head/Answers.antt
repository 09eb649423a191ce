use Rattle.std.proofs.Common.{◌∙◌, Ok, ap, rules}
use Rattle.lf_http.proofs.Onward.{reads_further}
use Rattle.lf_http.proofs.reading.next_head.Goals as goal

pub returns-in-Err-clause-refused : goal.returns-in-Err-clause-refused
returns-in-Err-clause-refused g c =
    rw (c.in-Err.e-is, ← c.deref.ensures.value) (c.in-Err.ensures.refused (g.S.Source.left c.loop-e.source))

pub returns-then-count-eq0-clause-refused : goal.returns-then-count-eq0-clause-refused
returns-then-count-eq0-clause-refused g c =
    rw (← c.deref-then-count-eq0.ensures.value)
    (c.end_of_input.ensures.refused (g.S.Source.left c.read_more.new.source) (c.in-Ok.ensures.end c.if-count-eq0.true))

pub loop-e-preserved : goal.loop-e-preserved
loop-e-preserved g c = (
  search rules,
  search rules,
  search rules,
  search rules,
  search rules,
  search rules,
  search rules,
  reads_further _ c.loop-e.pending.items c.read_more.new.pending.items c.in-Ok.count c.loop-e.invariant.7
      (rw (← c.deref.ensures.value) (c.parse.ensures.open (c.in-Ok-None.is ∙ ap Ok c.in-Ok-None.field-0-is)))
      c.in-Ok.ensures.kept c.in-Ok.ensures.longer c.in-Ok.ensures.piecewise,
  search rules,
)
