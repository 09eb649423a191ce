use Rattle.std.proofs.Common.{◌<◌, ◌++◌, ◌∷◌, [], List, length, ap, arith, subst, sym, ◌∙◌}
use Rattle.std.specs.Arc.{arc_value}
use Rattle.lf_rdf.specs.declared.quad.Quad.{Quad}
use Rattle.def_histories.specs.Legal.{most_commits}
use Rattle.lf_index.specs.Applied.{IsApplied}
use Rattle.lf_versions.specs.declared.commit.Commit.{Commit}
use Rattle.lf_versions.specs.Commits.{dataset}
use Rattle.lf_versions.proofs.Numbering.{commits-more, few_number, put-values, version-more}
use Rattle.lf_versions.proofs.version.Version.with.Goals as goal

pub overflow_add-result : goal.overflow_add-result
overflow_add-result c =
    let low = subst (λ (w : List Commit). length w < most_commits) (sym c.self.view_is) c.requires.few in
    omega (arith, few_number _ low, c.self.invariant.counted)

pub invariant_of-result : goal.invariant_of-result
invariant_of-result c =
    let inside = c.self.inside in
    let lines = (arc_value c.args.commit).patch.lines in
    let low = subst (λ (w : List Commit). length w < most_commits) (sym c.self.view_is) c.requires.few in
    let old = sym (c.self.invariant.is_dataset ∙ ap dataset c.self.view_is) in
    version-more inside.commits c.in_ok-insert.field-0 (arc_value inside.index) (arc_value c.in_ok-index.index) inside.number c.args.commit
    c.self.invariant
    (subst (λ n. n < most_commits) (sym c.self.invariant.counted) low)
    (subst (λ (d : List Quad). IsApplied d lines (arc_value c.in_ok-index.index)) old
    (subst (λ (m : List Quad). IsApplied (dataset c.args.self.now) lines m) (sym c.in_ok-index.ensures.ok) c.requires.applied))
    c.in_ok-insert.ensures

pub returns : goal.returns
returns c =
    let inside = c.self.inside in
    commits-more inside.commits c.in_ok-insert.field-0 c.args.commit
    (put-values inside.commits c.in_ok-insert.field-0 (arc_value inside.index) inside.number c.args.commit c.self.invariant c.in_ok-insert.ensures)
    ∙ ap (λ (w : List Commit). w ++ arc_value c.args.commit ∷ []) c.self.view_is
