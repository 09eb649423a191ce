use Rattle.lf_nodes.proofs.Asked.{learn_members}
use Rattle.lf_nodes.proofs.asking.nodes_in.Goals as goal

pub returns-clause-terms : goal.returns-clause-terms
returns-clause-terms g c =
    learn_members _ _ _ _ _ _ _ c.in_ok-copy.ensures _ c.ask_terms-answered.ensures.answers c.ask_terms-answered.ensures.tells
    c.ask_terms-answered.ensures.counts
