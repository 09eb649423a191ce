use Rattle.std.proofs.Common.{codes, sym, subst}
use Rattle.lf_model.specs.JsonBridge.{json_data, members_data}
use Rattle.def_contexts.specs.Frames.{without_key, frame_by}
use Rattle.def_contexts.specs.FrameValues.{frame_meaning}
use Rattle.lf_expand.specs.Gives.{Gives, Fails}
use Rattle.lf_expand.proofs.Tops.{by_table, frame_table_fails}
use Rattle.lf_expand.proofs.expand.frame_by.Goals as goal

pub returns-in-Ok-clause-frame : goal.returns-in-Ok-clause-frame
returns-in-Ok-clause-frame c =
    let given = without_key (codes "@context") (members_data c.args.members.now) in
    subst (λ x. Gives frame_meaning c.frame_of_table.result (frame_by x given)) c.in_ok-context.ensures
    (subst (λ d. Gives frame_meaning c.frame_of_table.result d) (sym (by_table (json_data c.in_ok-context.context) given c.in-Ok.table c.in-Ok.ensures.table)) c.frame_of_table.ensures.frame)

pub returns-in-Err-clause-frame : goal.returns-in-Err-clause-frame
returns-in-Err-clause-frame c =
    let given = without_key (codes "@context") (members_data c.args.members.now) in
    subst (λ x. Fails c.in-Err.error (frame_by x given)) c.in_ok-context.ensures
    (frame_table_fails (json_data c.in_ok-context.context) given c.in-Err.error c.in-Err.ensures.table)
