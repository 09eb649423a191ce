use Rattle.std.proofs.Common.{◌≡◌, ◌++◌, filter}
use Rattle.lf_nodes.specs.Pointing.{is_arrow}
use Rattle.lf_nodes.proofs.pointing.arrows_among.Given as goal

abbrev pub invariant-loop-quad : goal.invariant-loop-quad
invariant-loop-quad l =
    l.found.items ++ filter (is_arrow l.graph l.property l.node) l.quad-iterator.rest.items ≡ filter (is_arrow l.graph l.property l.node) l.fn.quads
