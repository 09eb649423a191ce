use Rattle.lf_embed.proofs.WalkProofs.{entered_state}
use Rattle.lf_embed.proofs.walk.Walk.enter.Goals as goal

pub returns-clause-entered : goal.returns-clause-entered
returns-clause-entered c =
    entered_state c.args.self.now.embedded.keys c.insert.new.self.keys c.in_ok-place.place _ c.args.self.now.count c.in_ok-insert.ensures.keys
    c.in_ok-place.ensures
