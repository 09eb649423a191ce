use Rattle.std.proofs.Common.{◌≡◌, ◌+◌, ℕ, List, drop}
use Rattle.def_documents.specs.Pruning.{count_types}
use Rattle.lf_tidy.specs.Counts.{count_in}
use Rattle.lf_tidy.proofs.count.count_types.Given as goal

abbrev pub invariant-loop-term : goal.invariant-loop-term
invariant-loop-term l =
    (label : List ℕ) → count_in l.counts label + count_types label (drop l.term-index l.term-items)
    ≡ count_in l.initial.counts label + count_types label l.term-items
