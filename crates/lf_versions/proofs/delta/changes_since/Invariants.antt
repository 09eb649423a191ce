use Rattle.std.proofs.Common.{◌≡◌, []}
use Rattle.std.specs.Ordering.{nat_cmp}
use Rattle.lf_ptree.specs.Pairs.{pairs_from}
use Rattle.lf_ptree.specs.Ranges.{pairs_left}
use Rattle.lf_versions.specs.Changes.{changes_behind, differs, named, quads_of}
use Rattle.lf_versions.specs.Commits.{lines_of}
use Rattle.lf_versions.specs.Numbered.{commits_of}
use Rattle.lf_versions.proofs.delta.changes_since.Given as goal

abbrev pub invariant-loop-pair : goal.invariant-loop-pair
invariant-loop-pair l =
    changes_behind (differs l.one l.two) (quads_of l.changes.keys) (named (lines_of (commits_of (pairs_left l.pair-iterator))))
    ≡ changes_behind (differs l.one l.two) [] (named (lines_of (commits_of (pairs_from nat_cmp l.fn.from l.commits))))
