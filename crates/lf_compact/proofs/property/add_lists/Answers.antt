use Rattle.std.proofs.Common.{map, sym}
use Rattle.std.specs.List.{flat_map}
use Rattle.def_documents.specs.Entries.{property_entries}
use Rattle.lf_compact.specs.Pieces.{filed_list}
use Rattle.lf_compact.proofs.Added.{adds-none, adds-same, adds-then}
use Rattle.lf_compact.proofs.Loops.{flat-more}
use Rattle.lf_compact.proofs.property.add_lists.Goals as goal

pub loop-values-init : goal.loop-values-init
loop-values-init c = adds-none c.args.members.now

pub loop-values-preserved : goal.loop-values-preserved
loop-values-preserved c =
    let values = c.in-Some.values in
    let yielded = c.loop-values.yielded in
    adds-same c.args.members.now c.add_property.new.members _ _ (sym (flat-more property_entries filed_list yielded values))
    (adds-then c.args.members.now c.loop-values.members c.add_property.new.members (flat_map property_entries (map filed_list yielded))
    (property_entries (filed_list values)) c.loop-values.invariant c.in_ok-add_property.ensures)
