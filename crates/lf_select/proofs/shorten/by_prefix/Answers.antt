use Rattle.std.proofs.Common.{◌≡◌, ℕ, ◌∙◌, ap, arith, drop}
use Rattle.lf_select.specs.Shortest.{shortest}
use Rattle.lf_select.proofs.Nearest.{shortest-prefix}
use Rattle.lf_select.proofs.shorten.by_prefix.Goals as goal

pub returns : goal.returns
returns c =
    let table = c.args.table.now in
    let prefixes = c.args.prefixes.now in
    let done : c.loop-at.at ≡ 0 = omega arith in
    c.loop-at.invariant.0
    ∙ ap (λ (n : ℕ). shortest table prefixes.groups c.args.iri.now c.args.has_value (drop n prefixes.lengths.items)) done
    ∙ shortest-prefix table prefixes.groups c.args.iri.now c.args.has_value prefixes.lengths.items c.requires.grouped
