use Rattle.std.proofs.Common.{[], ap, ◌∙◌}
use Rattle.std.specs.Ordering.{nat_cmp}
use Rattle.lf_rdf.specs.declared.quad.Signed.{Signed}
use Rattle.lf_ptree.specs.Pairs.{pairs_from}
use Rattle.lf_ptree.specs.Ranges.{pairs_left}
use Rattle.lf_versions.specs.Changes.{changes_behind, differs, named, quads_of}
use Rattle.lf_versions.specs.Commits.{lines_of}
use Rattle.lf_versions.specs.Numbered.{commits_of}
use Rattle.lf_versions.specs.declared.commit.Commit.{Commit}
use Rattle.lf_versions.proofs.Deltas.{commit_step}
use Rattle.lf_versions.proofs.delta.changes_since.Goals as goal

pub loop-pair-preserved : goal.loop-pair-preserved
loop-pair-preserved c =
    let p = differs c.args.one.now c.args.two.now in
    commit_step p (quads_of c.loop-pair.changes.keys) (quads_of c.put_lines.new.changes.keys)
    (changes_behind p [] (named (lines_of (commits_of (pairs_from nat_cmp c.args.from c.args.commits.now)))))
    c.as_slice.result.now (pairs_left c.loop-pair.pair-iterator) (pairs_left c.next.new.self) c.in-Some.pair.now
    c.in-Some.ensures.steps
    (c.as_slice.ensures ∙ ap (λ (commit : Commit). commit.patch.lines) c.deref.ensures)
    c.in_ok-put_lines.ensures
    c.loop-pair.invariant
