use Rattle.lf_oracle.proofs.NearLemmas.{named_is_learnt}
use Rattle.lf_oracle.proofs.naming.names_graph.Goals as goal

-- the one question is for the name that the call is given
pub returns-clause-names : goal.returns-clause-names
returns-clause-names g c =
    named_is_learnt _ _ _ _ _ _ _ _ c.in_ok-copy.ensures c.ask_flag-answered.ensures.answers c.ask_flag-answered.ensures.tells c.ask_flag-answered.ensures.counts
