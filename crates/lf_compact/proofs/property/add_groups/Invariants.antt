use Rattle.std.proofs.Common.{length}
use Rattle.std.specs.List.{flat_map}
use Rattle.lf_compact.specs.Answers.{AddsEntries}
use Rattle.lf_compact.specs.Members.{Members}
use Rattle.lf_compact.proofs.Loops.{key_next}
use Rattle.lf_compact.proofs.property.add_groups.Given as goal

abbrev pub invariant-loop-key : goal.invariant-loop-key
invariant-loop-key l =
    (final : Members) → AddsEntries l.members final (flat_map key_next l.groups.entries)
    → AddsEntries l.initial.members final (flat_map key_next l.initial.groups.entries)

abbrev pub decreases-loop-key : goal.decreases-loop-key
decreases-loop-key l = length l.groups.entries
