use Rattle.std.proofs.Common.{sym, ◌∙◌}
use Rattle.lf_nquads.proofs.Places.{skip_next, next_shorter, skip_none}
use Rattle.lf_nquads.proofs.cursor.Cursor.skip_blanks.Goals as goal

pub loop-self-preserved : goal.loop-self-preserved
loop-self-preserved c =
    sym (skip_next c.next.result c.loop-self.self c.next.new.self c.next.ensures (sym c.at_blank.ensures ∙ c.loop-self-test.true)) ∙ c.loop-self.invariant

pub loop-self-smaller : goal.loop-self-smaller
loop-self-smaller c = next_shorter c.next.result c.loop-self.self c.next.new.self c.next.ensures (sym c.at_blank.ensures ∙ c.loop-self-test.true)

pub returns : goal.returns
returns c = sym (skip_none c.loop-self.self (sym c.at_blank.ensures ∙ c.loop-self-test.false)) ∙ c.loop-self.invariant
