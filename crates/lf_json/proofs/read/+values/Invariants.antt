use Rattle.std.proofs.Common.{◌≡◌, List, ◌++◌, take, map}
use Rattle.lf_model.specs.JsonBridge.{json_data}
use Rattle.lf_json.proofs.Walks.{Member, value_seen, member_seen, entry_seen}
use Rattle.lf_json.proofs.read.+values.Given as goal

abbrev pub invariant-list_from-loop-item : goal.invariant-list_from-loop-item
invariant-list_from-loop-item l = map json_data l.found.items ≡ map value_seen (take l.item-index l.item-items)

abbrev pub invariant-map_from-loop-key : goal.invariant-map_from-loop-key
invariant-map_from-loop-key l =
    (done : List Member) × (l.members.entries ≡ done ++ l.key-iterator) × (map entry_seen l.found.items ≡ map member_seen done)
