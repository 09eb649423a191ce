use Rattle.std.proofs.lemmas.Result.{on_ok_weaker}
use Rattle.lf_compact.specs.Pieces.{properties_data}
use Rattle.lf_compact.proofs.property.add_in_order.Goals as goal

pub returns : goal.returns
returns c = on_ok_weaker c.add_properties.result (λ adds. adds (properties_data c.args.properties) c.in_ok-groups.ensures) c.add_properties.ensures
