use Rattle.std.proofs.Common.{◌≡◌, ◌++◌, drop}
use Rattle.lf_rdf.specs.Canonical.{escaped}
use Rattle.lf_order.proofs.texts.put_escaped.Given as goal

abbrev pub invariant-loop-byte : goal.invariant-loop-byte
invariant-loop-byte l = l.made.items ++ escaped (drop l.byte-index l.text) ≡ l.initial.made.items ++ escaped l.text
