-- The data of an outcome that a program gives.
use Rattle.lf_model.specs.declared.document.Outcome as program
use Rattle.lf_model.specs.declared.document.Outcome.TheVariants as made
use Rattle.lf_model.specs.TreeBridge.{tree_data}
use Rattle.def_framing.specs.Outcome.{Outcome, not_key, no_match, matched, past}

abbrev pub outcome_data : program.Outcome → Outcome
outcome_data made.NotKey = not_key
outcome_data made.NoMatch = no_match
outcome_data (made.Matched tree) = matched (tree_data tree)
outcome_data (made.Over limit) = past limit
