use Rattle.std.proofs.Common.{◌≡◌, take}
use Rattle.lf_versions.specs.Changes.{quads_of}
use Rattle.lf_versions.proofs.delta.quads.Given as goal

abbrev pub invariant-loop-change : goal.invariant-loop-change
invariant-loop-change l = l.made ≡ quads_of (take l.change-index l.changes)
