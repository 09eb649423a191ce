use Rattle.std.proofs.Common.{◌≡◌, sym, rules, false}
use Rattle.def_datasets.specs.Dataset.{holds}
use Rattle.lf_index.proofs.IndexLemmas.{without_absent}
use Rattle.lf_index.proofs.index.Index.without.Goals as goal

pub returns-then-not-has : goal.returns-then-not-has
returns-then-not-has c =
    let now = c.args.self.now in
    let out : holds now c.args.quad.now ≡ false = search rules in
    sym (without_absent c.args.quad.now now c.is_dataset.ensures out)
