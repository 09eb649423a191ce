use Rattle.std.proofs.Common.{◌≡◌, map}
use Rattle.lf_compact.specs.Pieces.{properties_data, property_data}
use Rattle.lf_compact.specs.Turned.{turned_of, unturned_of}
use Rattle.lf_compact.proofs.turned.split_reverses.Given as goal

abbrev pub invariant-loop-reverse : goal.invariant-loop-reverse
invariant-loop-reverse l =
    (properties_data l.turned ≡ turned_of (map property_data l.yielded)) × (properties_data l.unturned ≡ unturned_of (map property_data l.yielded))
