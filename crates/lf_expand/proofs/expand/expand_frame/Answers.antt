use Rattle.lf_model.specs.JsonBridge.{json_data, members_data}
use Rattle.lf_expand.proofs.Tops.{is_frame, is_refused, one_map_fails}
use Rattle.lf_expand.proofs.expand.expand_frame.Goals as goal

pub returns-in-Ok-clause-frame : goal.returns-in-Ok-clause-frame
returns-in-Ok-clause-frame c = is_frame (json_data c.args.json.now) (members_data c.in-Ok.members.now) c.frame_by.result c.in-Ok.ensures c.frame_by.ensures.frame

pub returns-in-Ok-clause-refused : goal.returns-in-Ok-clause-refused
returns-in-Ok-clause-refused c = is_refused (json_data c.args.json.now) (members_data c.in-Ok.members.now) c.frame_by.result c.in-Ok.ensures c.frame_by.ensures.frame

pub returns-in-Err-clause-refused : goal.returns-in-Err-clause-refused
returns-in-Err-clause-refused c = one_map_fails (json_data c.args.json.now) c.in-Err.error c.in-Err.ensures
