use Rattle.std.proofs.Common.{◌∷◌, [], ap, rules}
use Rattle.lf_model.specs.JsonBridge.{json_data}
use Rattle.def_documents.specs.Entries.{group_entry}
use Rattle.lf_compact.specs.Pieces.{filed_data}
use Rattle.lf_compact.proofs.Added.{adds-one, adds-same}
use Rattle.lf_compact.proofs.Drained.{each-drained}
use Rattle.lf_compact.proofs.Loops.{adds-drained, adds-popped, key_next}
use Rattle.lf_compact.proofs.property.add_groups.Goals as goal

pub loop-key-preserved : goal.loop-key-preserved
loop-key-preserved c =
    λ final more.
    let key = c.in-Some.key in
    let value = json_data c.in_ok-value.value in
    c.loop-key.invariant final
    (adds-popped key_next c.loop-key.members c.add.new.members final c.loop-key.groups.entries c.pop_first.new.self.entries
    (key, c.in-Some.group) (search rules)
    (adds-same c.loop-key.members c.add.new.members ((key, value) ∷ []) (key_next (key, c.in-Some.group))
    (ap (λ v. (key, v) ∷ []) c.in_ok-value.ensures)
    (adds-one c.loop-key.members c.add.new.members key value c.in_ok-add.ensures))
    more)

pub returns : goal.returns
returns c =
    λ entries held.
    adds-same c.args.members.now c.loop-key.members _ _
    (each-drained filed_data group_entry c.args.groups entries c.len.ensures.ordered held)
    (c.loop-key.invariant c.loop-key.members
    (adds-drained key_next c.loop-key.members c.loop-key.groups.entries (λ some. cc (c.in_default.ensures.variant.1 some))))
