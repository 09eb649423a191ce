use Rattle.std.proofs.Common.{rules, ◌∙◌}
use Rattle.lf_select.proofs.Grouped.{changed-at, put-new, put-place}
use Rattle.lf_select.proofs.prefixes.put_prefix.Goals as goal

pub returns-in_ok-insert-in-Some : goal.returns-in_ok-insert-in-Some
returns-in_ok-insert-in-Some c =
    let after = c.get_mut.follows.lender c.insert.new.self in
    put-place c.args.groups.now after c.args.iri.now c.insert.new.self c.args.key c.args.place
    (changed-at c.args.groups.now after c.args.iri.now c.insert.new.self ((c.get_mut.follows.holds c.insert.new.self).3 (search rules)))
    (λ k. c.in_ok-insert-in-Some.ensures.updates.0 k ∙ (search rules))

pub returns-in_ok-insert-in-None-2 : goal.returns-in_ok-insert-in-None-2
returns-in_ok-insert-in-None-2 c =
    λ q k.
    put-new c.get_mut.follows.lender-at-none c.insert-in-None-2.new.self c.args.iri.now c.insert-in-None.new.self c.in_ok-from_slice-in-None.field-0 c.args.key c.args.place
    c.in_ok-from_slice-in-None.ensures.items c.in_ok-insert-in-None-2.ensures.updates (search rules)
    (λ k. c.in_ok-insert-in-None.ensures.updates.0 k ∙ (search rules)) q k
    ∙ (search rules)
