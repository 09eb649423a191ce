use Rattle.std.proofs.Common.{◌≡◌, take}
use Rattle.lf_index.proofs.lined.quads_of.Given as goal

abbrev pub invariant-loop-one : goal.invariant-loop-one
invariant-loop-one l = l.quads.items ≡ take l.one-index l.lined
