use Rattle.std.proofs.lemmas.Result.{on_ok_weaker}
use Rattle.lf_compact.specs.Pieces.{filed_list, keyed}
use Rattle.lf_compact.proofs.property.add_property.Goals as goal

pub returns : goal.returns
returns c = on_ok_weaker c.add_groups.result (λ adds. adds (keyed (filed_list c.args.values)) c.in_ok-groups.ensures) c.add_groups.ensures
