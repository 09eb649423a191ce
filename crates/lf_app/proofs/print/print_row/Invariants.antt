use Rattle.std.proofs.Common.{◌≡◌, map, drop}
use Rattle.lf_app.proofs.Rows.{Prints}
use Rattle.lf_app.proofs.print.print_row.Given as goal

abbrev pub invariant-loop-text : goal.invariant-loop-text
invariant-loop-text g l =
    Prints (g.K.Sink.held l.initial.output) (g.K.Sink.held l.output) (map (λ t. t.now) l.texts) (map (λ t. t.now) (drop l.text-index l.texts))
    × (g.K.Sink.faults l.output ≡ g.K.Sink.faults l.initial.output)
