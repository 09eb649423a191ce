use Rattle.std.proofs.Common.{◌≡◌, sym, rules, true}
use Rattle.def_datasets.specs.Dataset.{holds}
use Rattle.lf_index.proofs.IndexLemmas.{put_present}
use Rattle.lf_index.proofs.index.Index.with.Goals as goal

pub returns-then-has : goal.returns-then-has
returns-then-has c =
    let now = c.args.self.now in
    let here : holds now c.args.quad.now ≡ true = search rules in
    sym (put_present c.args.quad.now now c.is_dataset.ensures here)
