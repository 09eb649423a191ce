use Rattle.std.proofs.Common.{◌≡◌, ℕ, ◌<◌, true, get_or}
use Rattle.lf_rdf.specs.declared.quad.Quad.{Quad}
use Rattle.lf_nodes.specs.Properties.{under}
use Rattle.lf_nodes.proofs.entries.property_run.Given as goal

abbrev pub invariant-loop-place : goal.invariant-loop-place
invariant-loop-place l = (k : ℕ) (d : Quad) → k < l.place → under l.property (get_or l.entries k d) ≡ true
