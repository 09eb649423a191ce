use Rattle.std.proofs.Common.{map, set, ap, ◌∙◌}
use Rattle.std.specs.Arc.{arc_value}
use Rattle.std.proofs.lemmas.List.{map-set}
use Rattle.lf_ptree.proofs.page.set_at.Goals as goal

pub returns : goal.returns
returns g c =
    map-set arc_value c.in_ok-made.made.items c.args.at c.in_ok-made-2.field-0
    ∙ ap (λ x. set (map arc_value c.in_ok-made.made.items) c.args.at x) c.in_ok-made-2.ensures.ok
    ∙ ap (λ xs. set xs c.args.at c.args.value) c.in_ok-made.ensures
