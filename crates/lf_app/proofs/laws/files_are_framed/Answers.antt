use Rattle.lf_app.proofs.Completeness.{files_are_framed}
use Rattle.lf_app.proofs.laws.files_are_framed.Goals as goal

pub returns : goal.returns
returns c = files_are_framed
