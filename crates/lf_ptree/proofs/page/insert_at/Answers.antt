use Rattle.std.proofs.Common.{map, ap, ◌∙◌}
use Rattle.std.specs.Arc.{arc_value}
use Rattle.std.specs.List.{insert}
use Rattle.lf_ptree.proofs.PairsLemmas.{map-insert}
use Rattle.lf_ptree.proofs.page.insert_at.Goals as goal

pub returns : goal.returns
returns g c =
    ap (map arc_value) c.in_ok-insert.ensures.items
    ∙ map-insert arc_value c.in_ok-made.made.items c.args.at c.in_ok-new.field-0
    ∙ ap (λ x. insert (map arc_value c.in_ok-made.made.items) c.args.at x) c.in_ok-new.ensures.ok
    ∙ ap (λ xs. insert xs c.args.at c.args.value) c.in_ok-made.ensures
