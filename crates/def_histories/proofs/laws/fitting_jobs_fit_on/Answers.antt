use Rattle.def_histories.proofs.JobProofs.{fitting_jobs_fit_on}
use Rattle.def_histories.proofs.laws.fitting_jobs_fit_on.Goals as goal

pub returns : goal.returns
returns c = fitting_jobs_fit_on
