use Rattle.lf_lists.proofs.Questions.{learn_uses}
use Rattle.lf_lists.proofs.asking.quads_using.Goals as goal

-- the one question is for the object that the call is given
pub returns-clause-quads : goal.returns-clause-quads
returns-clause-quads g c =
    learn_uses _ _ _ _ _ _ _ c.in_ok-copy.ensures _ c.ask_quads-answered.ensures.answers c.ask_quads-answered.ensures.tells
    c.ask_quads-answered.ensures.counts
