use Rattle.lf_model.specs.JsonBridge.{json_data}
use Rattle.def_contexts.specs.Table.{table_of}
use Rattle.lf_expand.proofs.ContextErrs.{part_fails}
use Rattle.lf_expand.proofs.context.table_by.Goals as goal

pub returns-in-Err-clause-table : goal.returns-in-Err-clause-table
returns-in-Err-clause-table c =
    part_fails (table_of (json_data c.args.context.now)) c.in-Err.error c.frame_error.result c.frame_error.ensures c.in-Err.ensures.table
