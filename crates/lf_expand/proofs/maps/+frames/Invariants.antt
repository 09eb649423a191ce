use Rattle.std.proofs.Common.{◌≡◌, drop, length}
use Rattle.lf_model.specs.JsonBridge.{members_data}
use Rattle.def_contexts.specs.SubFrames.{set_value, read_members, reverse_members}
use Rattle.lf_expand.specs.KeptKeys.{class_data}
use Rattle.lf_expand.specs.PlaceData.{place_data}
use Rattle.lf_expand.specs.ReadingData.{Lists, Told}
use Rattle.lf_expand.proofs.Going.{GoesOn}
use Rattle.lf_expand.proofs.maps.+frames.Given as goal

abbrev pub invariant-set_frame-loop-member : goal.invariant-set_frame-loop-member
invariant-set_frame-loop-member l =
    (l.rows.items ≡ l.initial.rows.items) × (set_value l.terms.table.now (members_data l.member-items) (place_data l.place)
    ≡ set_value l.terms.table.now (members_data (drop l.member-index l.member-items)) (place_data l.place))

abbrev pub invariant-read_members-loop-member : goal.invariant-read_members-loop-member
invariant-read_members-loop-member l =
    (lists : Lists) → Told (length l.initial.rows.items) l.initial.read lists →
    GoesOn (λ given d. read_members l.terms.table.now given (class_data l.class) (place_data l.place) d) l.initial.rows.items l.rows.items l.initial.read l.read lists (members_data l.member-items) (members_data (drop l.member-index l.member-items))

abbrev pub invariant-read_reverse_members-loop-member : goal.invariant-read_reverse_members-loop-member
invariant-read_reverse_members-loop-member l =
    (lists : Lists) → Told (length l.initial.rows.items) l.initial.read lists →
    GoesOn (λ given d. reverse_members l.terms.table.now given d) l.initial.rows.items l.rows.items l.initial.read l.read lists (members_data l.member-items) (members_data (drop l.member-index l.member-items))
