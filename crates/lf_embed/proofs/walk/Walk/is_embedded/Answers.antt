use Rattle.std.proofs.Common.{◌∙◌}
use Rattle.lf_embed.proofs.WalkProofs.{embedded_data}
use Rattle.lf_embed.proofs.walk.Walk.is_embedded.Goals as goal

pub returns : goal.returns
returns c = c.contains.ensures ∙ embedded_data c.args.self.now.embedded.keys c.args.place.now
