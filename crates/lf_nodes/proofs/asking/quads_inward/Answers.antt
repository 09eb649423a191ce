use Rattle.lf_nodes.proofs.Asked.{asks_inward, asks_inward_one, learn_inward}
use Rattle.lf_nodes.proofs.asking.quads_inward.Goals as goal

pub ask_quads-answered-requires : goal.ask_quads-answered-requires
ask_quads-answered-requires g c =
    record {
      quads = asks_inward _ _ _ _ c.in_ok-question.ensures;
      graph = asks_inward_one _ _ _ _ c.in_ok-question.ensures;
    }

pub returns-clause-quads : goal.returns-clause-quads
returns-clause-quads g c =
    learn_inward _ _ _ _ _ _ _ _ _ c.in_ok-question.ensures _ c.ask_quads-answered.ensures.answers c.ask_quads-answered.ensures.tells
    c.ask_quads-answered.ensures.counts
