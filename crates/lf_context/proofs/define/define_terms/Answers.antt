use Rattle.std.proofs.Common.{◌+◌, drop, ap, sym, subst}
use Rattle.std.proofs.lemmas.List.{drop_all}
use Rattle.lf_model.specs.JsonBridge.{json_data, members_data}
use Rattle.lf_context.specs.DraftView.{table_in}
use Rattle.lf_context.specs.Walks.{IsOnItsWay}
use Rattle.lf_context.proofs.Each.{way-begins, member-next, way-ends}
use Rattle.lf_context.proofs.define.define_terms.Goals as goal

pub loop-member-init : goal.loop-member-init
loop-member-init c =
    let given = members_data c.args.members.now in
    let table = table_in c.args.draft.now in
    subst (λ items. IsOnItsWay given table table c.new-marks.result.entries (members_data items)) (sym c.as_slice-member-items.ensures.entries)
    (way-begins given table c.new-marks.result.entries c.new-marks.ensures.empty)

pub loop-member-preserved : goal.loop-member-preserved
loop-member-preserved c =
    let items = c.as_slice-member-items.result.now in
    let i = c.loop-member.member-index in
    let e = c.member-item.result in
    c.in-Ok.ensures (table_in c.args.draft.now) (members_data (drop i items)) (members_data (drop (i + 1) items)) (json_data e.value) (member-next items i e c.loop-member-test.true c.member-item.is) c.loop-member.invariant

pub returns : goal.returns
returns c =
    let items = c.as_slice-member-items.result.now in
    let i = c.loop-member.member-index in
    way-ends (members_data c.args.members.now) (table_in c.args.draft.now) (table_in c.loop-member.draft) c.loop-member.marks.entries (members_data (drop i items))
    (ap members_data (drop_all i items c.loop-member-test.false)) c.loop-member.invariant

pub returns-in-Err : goal.returns-in-Err
returns-in-Err c =
    let items = c.as_slice-member-items.result.now in
    let i = c.loop-member.member-index in
    let e = c.member-item.result in
    c.in-Err.ensures (table_in c.args.draft.now) (members_data (drop i items)) (members_data (drop (i + 1) items)) (json_data e.value) (member-next items i e c.loop-member-test.true c.member-item.is) c.loop-member.invariant
