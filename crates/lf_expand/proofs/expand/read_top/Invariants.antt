use Rattle.std.proofs.Common.{drop, length}
use Rattle.lf_model.specs.JsonBridge.{members_data}
use Rattle.def_contexts.specs.FrameKeys.{node_map}
use Rattle.def_contexts.specs.SubFrames.{read_members}
use Rattle.lf_expand.specs.PlaceData.{place_data}
use Rattle.lf_expand.specs.ReadingData.{Lists, Told}
use Rattle.lf_expand.specs.TopFrames.{shown}
use Rattle.lf_expand.proofs.Going.{GoesOn}
use Rattle.lf_expand.proofs.expand.read_top.Given as goal

abbrev pub invariant-loop-member : goal.invariant-loop-member
invariant-loop-member l =
    (lists : Lists) → Told (length l.initial.rows.items) l.initial.read lists →
    GoesOn (λ given d. read_members l.terms.table.now given node_map (place_data l.place) d) l.initial.rows.items l.rows.items l.initial.read l.read lists (shown l.inner.has_context (members_data l.member-items)) (shown l.inner.has_context (members_data (drop l.member-index l.member-items)))
