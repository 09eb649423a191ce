use Rattle.std.proofs.Common.{map, ap, ◌∙◌}
use Rattle.std.specs.List.{remove}
use Rattle.std.specs.Arc.{arc_value}
use Rattle.lf_ptree.proofs.RemovalLemmas.{map-remove}
use Rattle.lf_ptree.proofs.removal.remove_at.Goals as goal

pub returns : goal.returns
returns g c =
    ap (map arc_value) c.remove.ensures.items
    ∙ map-remove arc_value c.in_ok-made.made.items c.args.at
    ∙ ap (λ xs. remove xs c.args.at) c.in_ok-made.ensures
