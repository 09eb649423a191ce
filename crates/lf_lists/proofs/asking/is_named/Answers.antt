use Rattle.lf_lists.proofs.Questions.{learn_named}
use Rattle.lf_lists.proofs.asking.is_named.Goals as goal

-- the one question is for the name that the call is given
pub returns-clause-names : goal.returns-clause-names
returns-clause-names g c =
    learn_named _ _ _ _ _ _ _ c.in_ok-copy.ensures _ c.ask_flag-answered.ensures.answers c.ask_flag-answered.ensures.tells
    c.ask_flag-answered.ensures.counts
