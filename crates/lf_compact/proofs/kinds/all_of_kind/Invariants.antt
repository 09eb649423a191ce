use Rattle.std.proofs.Common.{◌≡◌, drop}
use Rattle.lf_model.specs.TreeBridge.{entries_data}
use Rattle.def_documents.specs.Picks.{all_of_kind}
use Rattle.lf_compact.specs.Kinds.{kind_data}
use Rattle.lf_compact.proofs.kinds.all_of_kind.Given as goal

abbrev pub invariant-loop-item : goal.invariant-loop-item
invariant-loop-item l =
    all_of_kind (kind_data l.kind) (entries_data l.items) ≡ all_of_kind (kind_data l.kind) (entries_data (drop l.item-index l.items))
