use Rattle.std.proofs.Common.{◌≡◌, drop}
use Rattle.lf_model.specs.JsonBridge.{items_data}
use Rattle.def_contexts.specs.Table.{items_after}
use Rattle.lf_context.specs.DraftView.{table_in}
use Rattle.lf_context.proofs.context.+reading.Given as goal

abbrev pub invariant-read_contexts-loop-item : goal.invariant-read_contexts-loop-item
invariant-read_contexts-loop-item l =
    items_after (items_data l.items) (table_in l.initial.draft) ≡ items_after (items_data (drop l.item-index l.item-items)) (table_in l.draft)
