use Rattle.lf_model.specs.JsonBridge.{json_data, members_data}
use Rattle.std.proofs.Common.{codes}
use Rattle.def_contexts.specs.Frames.{without_key}
use Rattle.lf_expand.proofs.Tops.{framed_made, framed_fails}
use Rattle.lf_expand.proofs.expand.frame_of_table.Goals as goal

pub returns-in-Ok-clause-frame : goal.returns-in-Ok-clause-frame
returns-in-Ok-clause-frame c =
    framed_made (json_data c.args.context) c.args.table (without_key (codes "@context") (members_data c.args.members.now)) _ _ c.in-Ok.ensures.frame

pub returns-in-Err-clause-frame : goal.returns-in-Err-clause-frame
returns-in-Err-clause-frame c =
    framed_fails (json_data c.args.context) c.args.table (without_key (codes "@context") (members_data c.args.members.now)) c.in-Err.error c.in-Err.ensures.frame
