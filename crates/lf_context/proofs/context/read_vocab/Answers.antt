use Rattle.std.proofs.Common.{Err, codes, ap, sym, subst, ◌∙◌}
use Rattle.lf_model.specs.JsonBridge.{members_data}
use Rattle.def_contexts.specs.Members.{value_of}
use Rattle.def_contexts.specs.Table.{vocab_of}
use Rattle.lf_context.specs.DraftView.{table_in}
use Rattle.lf_context.specs.Parts.{IsPart}
use Rattle.lf_context.specs.Maps.{language_step}
use Rattle.lf_context.proofs.Each.{table-then, table-refused}
use Rattle.lf_context.proofs.context.read_vocab.Goals as goal

pub returns-in-Ok : goal.returns-in-Ok
returns-in-Ok c =
    let given = members_data c.args.members.now in
    let table = table_in c.args.draft.now in
    table-then (vocab_of table (value_of (codes "@vocab") given)) (λ vocab. language_step given table vocab) c.in-Ok.vocab (table_in c.read_language.new.draft) c.read_language.result
    (ap (vocab_of table) (sym c.member.ensures) ∙ c.in-Ok.ensures) c.read_language.ensures

pub returns-in-Err : goal.returns-in-Err
returns-in-Err c =
    let given = members_data c.args.members.now in
    let table = table_in c.args.draft.now in
    table-refused (vocab_of table (value_of (codes "@vocab") given)) (λ vocab. language_step given table vocab) table c.in-Err.error
    (subst (λ o. IsPart (vocab_of table o) (Err c.in-Err.error)) c.member.ensures c.in-Err.ensures)
