use Rattle.std.proofs.Common.{◌≡◌, drop}
use Rattle.lf_model.specs.JsonBridge.{items_data}
use Rattle.def_contexts.specs.ValuePatterns.{scalars_of_items}
use Rattle.lf_expand.specs.PatternParts.{read_as}
use Rattle.lf_expand.proofs.Gathered.{before}
use Rattle.lf_expand.proofs.patterns.scalars_of_items.Given as goal

abbrev pub invariant-loop-item : goal.invariant-loop-item
invariant-loop-item l =
    scalars_of_items (read_as l.terms.table.now l.part) (items_data l.items) ≡ before l.scalars (scalars_of_items (read_as l.terms.table.now l.part) (items_data (drop l.item-index l.items)))
