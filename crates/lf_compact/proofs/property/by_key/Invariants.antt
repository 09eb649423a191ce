use Rattle.std.proofs.Common.{map}
use Rattle.lf_compact.specs.Groups.{Hold}
use Rattle.lf_compact.specs.Pieces.{filed_data, keyed}
use Rattle.lf_compact.proofs.property.by_key.Given as goal

abbrev pub invariant-loop-value : goal.invariant-loop-value
invariant-loop-value l = Hold filed_data l.groups (keyed (map filed_data l.yielded))
