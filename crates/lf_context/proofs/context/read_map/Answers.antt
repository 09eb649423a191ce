use Rattle.std.proofs.Common.{ap, sym, ◌∙◌}
use Rattle.lf_model.specs.JsonBridge.{members_data}
use Rattle.def_contexts.specs.Outcomes.{◌>>=◌}
use Rattle.lf_context.specs.DraftView.{table_in}
use Rattle.lf_context.specs.Maps.{checked, vocab_step}
use Rattle.lf_context.proofs.Each.{map-by-steps, map-steps, table-then}
use Rattle.lf_context.proofs.context.read_map.Goals as goal

pub returns-in-Ok : goal.returns-in-Ok
returns-in-Ok c =
    let given = members_data c.args.members.now in
    let table = table_in c.args.draft.now in
    map-by-steps given table (table_in c.read_vocab.new.draft) c.read_vocab.result
    (table-then (checked given) (λ _. vocab_step given table) tt (table_in c.read_vocab.new.draft) c.read_vocab.result (sym c.check_keys.ensures ∙ c.in-Ok.is) c.read_vocab.ensures)

pub returns-in-Err : goal.returns-in-Err
returns-in-Err c =
    let given = members_data c.args.members.now in
    let table = table_in c.args.draft.now in
    map-steps given table ∙ ap (λ r. r >>= λ _. vocab_step given table) (sym c.check_keys.ensures ∙ c.in-Err.is)
