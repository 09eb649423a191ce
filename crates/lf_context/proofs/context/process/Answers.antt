use Rattle.lf_model.specs.JsonBridge.{json_data}
use Rattle.def_contexts.proofs.Tables.{terms_ascend}
use Rattle.lf_context.specs.DraftView.{table_in}
use Rattle.lf_context.proofs.Each.{processed, refused}
use Rattle.lf_context.proofs.context.process.Goals as goal

pub returns-in_ok-finish-in-Ok-clause-table : goal.returns-in_ok-finish-in-Ok-clause-table
returns-in_ok-finish-in-Ok-clause-table c =
    processed (json_data c.args.context.now) (table_in c.new-draft.result) (table_in c.read_context.new.draft) c.in_ok-finish-in-Ok.field-0 c.new-draft.ensures c.in-Ok.ensures c.in_ok-finish-in-Ok.ensures

pub returns-in_ok-finish-in-Ok-clause-order : goal.returns-in_ok-finish-in-Ok-clause-order
returns-in_ok-finish-in-Ok-clause-order c =
    terms_ascend (json_data c.args.context.now) c.in_ok-finish-in-Ok.field-0
    (processed (json_data c.args.context.now) (table_in c.new-draft.result) (table_in c.read_context.new.draft) c.in_ok-finish-in-Ok.field-0 c.new-draft.ensures c.in-Ok.ensures c.in_ok-finish-in-Ok.ensures)

pub returns-in-Err-clause-table : goal.returns-in-Err-clause-table
returns-in-Err-clause-table c = refused (json_data c.args.context.now) (table_in c.new-draft.result) (table_in c.read_context.new.draft) c.in-Err.error c.new-draft.ensures c.in-Err.ensures
