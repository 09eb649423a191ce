use Rattle.std.proofs.Common.{map}
use Rattle.lf_model.specs.TreeBridge.{property_data}
use Rattle.lf_embed.specs.Forms.{form_of}
use Rattle.lf_embed.specs.Walks.{state_of}
use Rattle.lf_embed.proofs.DefaultProofs.{defaults_grow}
use Rattle.lf_embed.proofs.defaults.default_part.Goals as goal

pub returns-clause-grows : goal.returns-clause-grows
returns-clause-grows c = defaults_grow (map property_data) (form_of c.args.frame.now.nodes c.args.form) (map property_data c.args.values.now) (state_of c.args.walk.now) (state_of c.form_defaults.new.walk) c.form_defaults.result c.form_defaults.ensures.run
