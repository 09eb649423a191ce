use Rattle.lf_lists.proofs.Questions.{learn_out}
use Rattle.lf_lists.proofs.asking.quads_out.Goals as goal

-- the one question is for the subject that the call is given
pub returns-clause-quads : goal.returns-clause-quads
returns-clause-quads g c =
    learn_out _ _ _ _ _ _ _ _ _ c.in_ok-copy.ensures c.in_ok-copy-2.ensures _ c.ask_quads-answered.ensures.answers
    c.ask_quads-answered.ensures.tells c.ask_quads-answered.ensures.counts
