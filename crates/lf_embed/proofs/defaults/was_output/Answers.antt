use Rattle.std.proofs.Common.{◌∙◌}
use Rattle.lf_model.specs.TreeBridge.{property_data}
use Rattle.lf_embed.proofs.DefaultProofs.{any_mapped}
use Rattle.lf_rdf.specs.Equality.{text_eq}
use Rattle.lf_embed.proofs.defaults.was_output.Goals as goal

pub returns : goal.returns
returns c = c.any_output.ensures ∙ any_mapped (λ made. text_eq made.0 c.args.property.now) property_data c.args.values.now
