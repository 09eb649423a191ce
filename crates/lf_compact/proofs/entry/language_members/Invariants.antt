use Rattle.std.proofs.Common.{length}
use Rattle.std.specs.List.{flat_map}
use Rattle.lf_compact.specs.Answers.{AddsEntries}
use Rattle.lf_compact.specs.Members.{Members}
use Rattle.lf_compact.proofs.Loops.{language_next}
use Rattle.lf_compact.proofs.entry.language_members.Given as goal

abbrev pub invariant-loop-language : goal.invariant-loop-language
invariant-loop-language l =
    (final : Members) → AddsEntries l.members final (flat_map (language_next l.in_arrays) l.parts.entries)
    → AddsEntries l.initial.members final (flat_map (language_next l.in_arrays) l.initial.parts.entries)

abbrev pub decreases-loop-language : goal.decreases-loop-language
decreases-loop-language l = length l.parts.entries
