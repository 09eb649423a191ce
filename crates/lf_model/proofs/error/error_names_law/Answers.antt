use Rattle.lf_model.proofs.ErrorNames.{names_differ}
use Rattle.lf_model.proofs.error.error_names_law.Goals as goal

pub returns : goal.returns
returns c = names_differ
