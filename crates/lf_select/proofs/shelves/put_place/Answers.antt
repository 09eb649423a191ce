use Rattle.std.proofs.Common.{rules, ◌∙◌}
use Rattle.lf_select.proofs.Filed.{put-place}
use Rattle.lf_select.proofs.shelves.put_place.Goals as goal

pub returns-in_ok-insert-in-Some : goal.returns-in_ok-insert-in-Some
returns-in_ok-insert-in-Some c =
    put-place c.args.shelves.now (c.get_mut.follows.lender c.insert.new.self) c.args.iri.now c.insert.new.self c.args.key c.args.place
    ((c.get_mut.follows.holds c.insert.new.self).3 (search rules)).0
    (λ k. c.in_ok-insert-in-Some.ensures.updates.0 k ∙ (search rules))

pub returns-in_ok-insert-in-None-2 : goal.returns-in_ok-insert-in-None-2
returns-in_ok-insert-in-None-2 c =
    put-place c.args.shelves.now c.insert-in-None-2.new.self c.args.iri.now c.insert-in-None.new.self c.args.key c.args.place
    (search rules)
    (search rules)
