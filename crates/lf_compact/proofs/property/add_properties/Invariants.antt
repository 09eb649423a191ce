use Rattle.std.proofs.Common.{length}
use Rattle.std.specs.List.{flat_map}
use Rattle.lf_compact.specs.Answers.{AddsEntries}
use Rattle.lf_compact.specs.Members.{Members}
use Rattle.lf_compact.proofs.Loops.{lists_next}
use Rattle.lf_compact.proofs.property.add_properties.Given as goal

abbrev pub invariant-loop-iri : goal.invariant-loop-iri
invariant-loop-iri l =
    (final : Members) → AddsEntries l.members final (flat_map lists_next l.groups.entries)
    → AddsEntries l.initial.members final (flat_map lists_next l.initial.groups.entries)

abbrev pub decreases-loop-iri : goal.decreases-loop-iri
decreases-loop-iri l = length l.groups.entries
