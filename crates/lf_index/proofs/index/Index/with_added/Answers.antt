use Rattle.std.proofs.Common.{◌≡◌, ◌+◌, suc, [], ◌∷◌, drop, sym, ap, ◌∙◌, arith}
use Rattle.std.proofs.Math.Seq.{drop-cons}
use Rattle.std.proofs.lemmas.List.{drop_all}
use Rattle.def_datasets.specs.Sorted.{put_all}
use Rattle.def_datasets.specs.Order.{quad_cmp}
use Rattle.def_datasets.specs.Dataset.{additions}
use Rattle.lf_index.specs.Applied.{latest}
use Rattle.lf_index.proofs.ApplyLemmas.{added_step}
use Rattle.lf_index.proofs.index.Index.with_added.Goals as goal

pub loop-line-preserved : goal.loop-line-preserved
loop-line-preserved c =
    let lines = c.args.lines.now in
    let i = c.loop-line.line-index in
    let line = c.line-item.result in
    let now = latest c.loop-line.made c.args.self.now in
    let next : suc i ≡ i + 1 = omega arith in
    let front : drop i lines ≡ line ∷ drop (i + 1) lines = drop-cons lines i line c.loop-line-test.true ∙ (λ j. sym c.line-item.is j ∷ drop (next j) lines) in
    added_step line (drop (i + 1) lines) now _ c.in_ok-made.ensures ∙ (ap (λ ls. put_all quad_cmp now (additions ls)) (sym front) ∙ c.loop-line.invariant)

pub returns : goal.returns
returns c =
    let lines = c.args.lines.now in
    let none : drop c.loop-line.line-index lines ≡ [] = drop_all c.loop-line.line-index lines c.loop-line-test.false in
    ap (λ ls. put_all quad_cmp (latest c.loop-line.made c.args.self.now) (additions ls)) (sym none) ∙ c.loop-line.invariant
