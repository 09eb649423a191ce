use Rattle.lf_app.proofs.Completeness.{sessions_end_well}
use Rattle.lf_app.proofs.laws.sessions_end_well.Goals as goal

pub returns : goal.returns
returns c = sessions_end_well
