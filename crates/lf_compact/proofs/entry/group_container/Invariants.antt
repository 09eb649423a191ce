use Rattle.std.proofs.Common.{◌≡◌, drop, map}
use Rattle.def_documents.specs.Entries.{group_container}
use Rattle.lf_compact.specs.Pieces.{filed_data}
use Rattle.lf_compact.proofs.entry.group_container.Given as goal

abbrev pub invariant-loop-filed : goal.invariant-loop-filed
invariant-loop-filed l = group_container (map filed_data l.group) ≡ group_container (map filed_data (drop l.filed-index l.group))
