use Rattle.std.proofs.Common.{◌≡◌, drop}
use Rattle.def_documents.specs.Nodes.{short_types}
use Rattle.lf_compact.specs.Nodes.{json_list}
use Rattle.lf_compact.proofs.Traversed.{behind}
use Rattle.lf_compact.proofs.parts.short_types.Given as goal

abbrev pub invariant-loop-term : goal.invariant-loop-term
invariant-loop-term l =
    short_types l.inverse l.types ≡ behind (json_list l.made) (short_types l.inverse (drop l.term-index l.types))
