use Rattle.std.proofs.Common.{map}
use Rattle.std.specs.List.{flat_map}
use Rattle.def_documents.specs.Entries.{property_entries}
use Rattle.lf_compact.specs.Answers.{AddsEntries}
use Rattle.lf_compact.specs.Pieces.{filed_list}
use Rattle.lf_compact.proofs.property.add_lists.Given as goal

abbrev pub invariant-loop-values : goal.invariant-loop-values
invariant-loop-values l = AddsEntries l.initial.members l.members (flat_map property_entries (map filed_list l.yielded))
