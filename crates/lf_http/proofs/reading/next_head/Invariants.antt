use Rattle.std.proofs.Common.{◌≡◌, ◌≤◌, ℕ, List, length, vec_capacity, ◌-◌}
use Rattle.httparse.specs.Grammar.{RequestHead, ReadsRequest}
use Rattle.lf_io.specs.Bytes.{prepended}
use Rattle.lf_http.specs.Reading.{ReadsOn, to_come, longest_head, longest_piece, most_lines}
use Rattle.lf_http.proofs.reading.next_head.Given as goal

abbrev pub invariant-loop-e : goal.invariant-loop-e
invariant-loop-e g l =
    (prepended l.initial.pending.items (g.S.Source.left l.initial.source) ≡ prepended l.pending.items (g.S.Source.left l.source))
    × (length l.pending.items ≤ longest_head)
    × (longest_head ≤ vec_capacity l.pending)
    × (length l.lines ≡ most_lines)
    × (length l.piece ≡ longest_piece)
    × (g.S.Source.faults l.source ≡ g.S.Source.faults l.initial.source)
    × (to_come (g.S.Source.taken l.source) l.pending.items ≤ to_come (g.S.Source.taken l.initial.source) l.initial.pending.items)
    × ReadsOn l.initial.pending.items l.pending.items
    × ((h : RequestHead) (rest : List ℕ) → ReadsRequest l.initial.pending.items h rest
    → (l.source ≡ l.initial.source) × (l.pending.items ≡ l.initial.pending.items))

abbrev pub decreases-loop-e : goal.decreases-loop-e
decreases-loop-e g l = longest_head - length l.pending.items
