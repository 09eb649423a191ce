use Rattle.std.proofs.Common.{◌≡◌}
use Rattle.lf_select.specs.Shelves.{first_some}
use Rattle.lf_select.specs.Shortest.{candidate_of}
use Rattle.lf_select.proofs.shorten.first_free.Given as goal

abbrev pub invariant-loop-place : goal.invariant-loop-place
invariant-loop-place l =
    first_some (candidate_of l.table l.iri l.has_value) l.ranks.entries ≡ first_some (candidate_of l.table l.iri l.has_value) l.place-iterator
