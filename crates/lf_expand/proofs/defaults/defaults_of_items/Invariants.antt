use Rattle.std.proofs.Common.{◌≡◌, drop}
use Rattle.std.specs.Option.{option_copied}
use Rattle.lf_model.specs.JsonBridge.{items_data}
use Rattle.def_contexts.specs.Defaults.{defaults_of_items}
use Rattle.lf_expand.proofs.Gathered.{behind}
use Rattle.lf_expand.proofs.defaults.defaults_of_items.Given as goal

abbrev pub invariant-loop-item : goal.invariant-loop-item
invariant-loop-item l =
    defaults_of_items l.terms.table.now (option_copied l.term) (items_data l.items) ≡ behind l.values (defaults_of_items l.terms.table.now (option_copied l.term) (items_data (drop l.item-index l.items)))
