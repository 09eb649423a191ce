use Rattle.std.proofs.Common.{◌≡◌, drop}
use Rattle.def_datasets.specs.Sorted.{put_all}
use Rattle.def_datasets.specs.Order.{id_cmp}
use Rattle.lf_plain.proofs.members.put_terms.Given as goal

abbrev pub invariant-loop-term : goal.invariant-loop-term
invariant-loop-term l = put_all id_cmp l.found.items (drop l.term-index l.terms) ≡ put_all id_cmp l.initial.found.items l.terms
