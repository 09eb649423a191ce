use Rattle.std.proofs.Common.{◌≡◌, ◌+◌, suc, [], ◌∷◌, drop, sym, ap, ◌∙◌, arith}
use Rattle.std.proofs.Math.Seq.{drop-cons}
use Rattle.std.proofs.lemmas.List.{drop_all}
use Rattle.lf_rdf.specs.Equality.{quad_eq}
use Rattle.def_datasets.specs.Sorted.{without}
use Rattle.def_datasets.specs.Dataset.{deletions}
use Rattle.def_datasets.proofs.QuestionProofs.{filter_true}
use Rattle.lf_index.specs.Applied.{latest}
use Rattle.lf_index.proofs.ApplyLemmas.{deleted_step}
use Rattle.lf_index.proofs.index.Index.without_deleted.Goals as goal

pub loop-line-preserved : goal.loop-line-preserved
loop-line-preserved c =
    let lines = c.args.lines.now in
    let i = c.loop-line.line-index in
    let line = c.line-item.result in
    let next : suc i ≡ i + 1 = omega arith in
    let front : drop i lines ≡ line ∷ drop (i + 1) lines = drop-cons lines i line c.loop-line-test.true ∙ (λ j. sym c.line-item.is j ∷ drop (next j) lines) in
    deleted_step line (drop (i + 1) lines) (latest c.loop-line.made c.args.self.now) _ c.in_ok-made.ensures
    ∙ (ap (λ ls. without quad_eq (latest c.loop-line.made c.args.self.now) (deletions ls)) (sym front) ∙ c.loop-line.invariant)

pub returns : goal.returns
returns c =
    let lines = c.args.lines.now in
    let none : drop c.loop-line.line-index lines ≡ [] = drop_all c.loop-line.line-index lines c.loop-line-test.false in
    filter_true (latest c.loop-line.made c.args.self.now) ∙ (ap (λ ls. without quad_eq (latest c.loop-line.made c.args.self.now) (deletions ls)) (sym none) ∙ c.loop-line.invariant)
