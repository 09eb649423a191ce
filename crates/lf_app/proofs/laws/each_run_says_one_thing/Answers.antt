use Rattle.lf_app.proofs.OneAnswer.{each_run_says_one_thing}
use Rattle.lf_app.proofs.laws.each_run_says_one_thing.Goals as goal

pub returns : goal.returns
returns c = each_run_says_one_thing
