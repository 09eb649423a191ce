use Rattle.std.proofs.Common.{◌≡◌, drop}
use Rattle.lf_versions.specs.Changes.{changes_behind, differs, named_in, quads_of}
use Rattle.lf_versions.proofs.delta.put_lines.Given as goal

abbrev pub invariant-loop-line : goal.invariant-loop-line
invariant-loop-line l =
    changes_behind (differs l.one l.two) (quads_of l.changes.keys) (named_in (drop l.line-index l.lines))
    ≡ changes_behind (differs l.one l.two) (quads_of l.initial.changes.keys) (named_in l.lines)
