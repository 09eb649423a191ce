use Rattle.std.proofs.Common.{◌≡◌, map}
use Rattle.lf_compact.specs.Pieces.{filed_data, filed_list}
use Rattle.lf_compact.specs.Turned.{turned_values, unturned_values}
use Rattle.lf_compact.proofs.turned.split_values.Given as goal

abbrev pub invariant-loop-value : goal.invariant-loop-value
invariant-loop-value l =
    (filed_list l.turned ≡ turned_values (map filed_data l.yielded)) × (filed_list l.unturned ≡ unturned_values (map filed_data l.yielded))
