use Rattle.lf_nodes.proofs.Asked.{learn_any}
use Rattle.lf_nodes.proofs.asking.quads_of_subject.Goals as goal

-- the one question is for the subject that the call is given
pub returns-clause-quads : goal.returns-clause-quads
returns-clause-quads g c =
    learn_any _ _ _ _ _ _ _ c.in_ok-copy.ensures _ c.ask_quads-answered.ensures.answers c.ask_quads-answered.ensures.tells
    c.ask_quads-answered.ensures.counts
