use Rattle.std.proofs.Common.{◌≡◌, ◌++◌, length}
use Rattle.lf_compact.proofs.Held.{written_data, written_entries}
use Rattle.lf_compact.proofs.members.object_of.Given as goal

abbrev pub invariant-loop-key : goal.invariant-loop-key
invariant-loop-key l = written_data l.written.items ++ written_entries l.members.entries ≡ written_entries l.initial.members.entries

abbrev pub decreases-loop-key : goal.decreases-loop-key
decreases-loop-key l = length l.members.entries
