use Rattle.std.proofs.Common.{◌≡◌, ◌∙◌, rules, take}
use Rattle.lf_select.specs.Shortest.{candidate_of}
use Rattle.lf_select.proofs.FirstFree.{best-in-order, first-here, none-here}
use Rattle.lf_select.proofs.shorten.first_free.Goals as goal

pub returns-then-is_some : goal.returns-then-is_some
returns-then-is_some c =
    let table = c.args.table.now in
    let iri = c.args.iri.now in
    let ranks = c.args.ranks.now in
    first-here table iri c.args.has_value ranks.entries c.loop-place.place-iterator c.next.new.self (c.in-Some.field-0-0.now, c.in-Some.place.now)
    c.in_ok-compact.compact c.loop-place.invariant c.in-Some.ensures.steps c.in_ok-compact.ensures (search rules)
    ∙ best-in-order table iri c.args.has_value (take c.args.front iri) ranks c.iter-place-items.ensures.ordered c.requires.prefixes
    c.iter-place-items.ensures.found

pub returns : goal.returns
returns c =
    let table = c.args.table.now in
    let iri = c.args.iri.now in
    let ranks = c.args.ranks.now in
    none-here table iri c.args.has_value ranks.entries c.loop-place.place-iterator c.loop-place.invariant c.in-None.ensures.steps.0
    ∙ best-in-order table iri c.args.has_value (take c.args.front iri) ranks c.iter-place-items.ensures.ordered c.requires.prefixes
    c.iter-place-items.ensures.found
