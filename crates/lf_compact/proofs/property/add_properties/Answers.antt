use Rattle.std.proofs.Common.{rules}
use Rattle.std.specs.List.{flat_map}
use Rattle.def_documents.specs.Entries.{property_entries}
use Rattle.lf_compact.specs.Pieces.{filed_list}
use Rattle.lf_compact.proofs.Added.{adds-same}
use Rattle.lf_compact.proofs.Drained.{flat-drained}
use Rattle.lf_compact.proofs.Loops.{adds-drained, adds-popped, lists_next}
use Rattle.lf_compact.proofs.property.add_properties.Goals as goal

pub loop-iri-preserved : goal.loop-iri-preserved
loop-iri-preserved c =
    λ final more.
    c.loop-iri.invariant final
    (adds-popped lists_next c.loop-iri.members c.add_lists.new.members final c.loop-iri.groups.entries c.pop_first.new.self.entries
    (c.in-Some.iri, c.in-Some.lists) (search rules) c.in_ok-add_lists.ensures more)

pub returns : goal.returns
returns c =
    λ entries held.
    adds-same c.args.members.now c.loop-iri.members _ _
    (flat-drained filed_list (λ p. flat_map property_entries p.1) c.args.groups entries c.len.ensures.ordered held)
    (c.loop-iri.invariant c.loop-iri.members
    (adds-drained lists_next c.loop-iri.members c.loop-iri.groups.entries (λ some. cc (c.in_default.ensures.variant.1 some))))
