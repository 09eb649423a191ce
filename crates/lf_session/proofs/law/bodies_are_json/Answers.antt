use Rattle.lf_session.proofs.BodyProofs.{bodies_are_json}
use Rattle.lf_session.proofs.law.bodies_are_json.Goals as goal

pub returns : goal.returns
returns c = bodies_are_json
