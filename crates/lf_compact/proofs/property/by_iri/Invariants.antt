use Rattle.std.proofs.Common.{map}
use Rattle.lf_compact.specs.Groups.{Hold}
use Rattle.lf_compact.specs.Pieces.{filed_list, property_data}
use Rattle.lf_compact.proofs.property.by_iri.Given as goal

abbrev pub invariant-loop-property : goal.invariant-loop-property
invariant-loop-property l = Hold filed_list l.groups (map property_data l.yielded)
