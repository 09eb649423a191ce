use Rattle.std.proofs.Common.{◌≤◌, length, take, drop, not, subst, sym, ◌∙◌, ap}
use Rattle.std.proofs.lemmas.List.Sums.{prefix_len-le-length}
use Rattle.lf_nodes.specs.Properties.{under}
use Rattle.lf_nodes.proofs.Gathering.{cut_run, cut_others}
use Rattle.lf_nodes.proofs.entries.split_property.Goals as goal

pub split_at-requires : goal.split_at-requires
split_at-requires c =
    subst (λ n. n ≤ length c.args.entries.now) (sym c.property_run.ensures)
    (prefix_len-le-length (λ q. not (not (under c.args.property.now q))) c.args.entries.now)

pub returns : goal.returns
returns c =
    let entries = c.args.entries.now in
    let p = c.args.property.now in
    record {
      run = c.split_at.ensures.front ∙ ap (λ n. take n entries) c.property_run.ensures ∙ cut_run p entries c.requires.in_order c.requires.first;
      others = c.split_at.ensures.back ∙ ap (λ n. drop n entries) c.property_run.ensures ∙ cut_others p entries c.requires.in_order c.requires.first;
    }
