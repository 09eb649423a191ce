use Rattle.std.proofs.Common.{◌≡◌, drop}
use Rattle.serde_json.specs.View.{items_view, members_view}
use Rattle.lf_json.specs.Reading.{fraction_in_items, fraction_in_members}
use Rattle.lf_json.proofs.read.+fractions.Given as goal

abbrev pub invariant-fraction_among-loop-place : goal.invariant-fraction_among-loop-place
invariant-fraction_among-loop-place l =
    fraction_in_items 0 (items_view l.item-items) ≡ fraction_in_items l.place-counter (items_view (drop l.place-counter l.item-items))

abbrev pub invariant-fraction_under-loop-key : goal.invariant-fraction_under-loop-key
invariant-fraction_under-loop-key l =
    fraction_in_members (members_view l.members.entries) ≡ fraction_in_members (members_view l.key-iterator)
