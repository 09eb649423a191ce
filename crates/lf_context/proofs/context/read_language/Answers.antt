use Rattle.std.proofs.Common.{Err, codes, ap, sym, subst, ◌∙◌}
use Rattle.lf_model.specs.JsonBridge.{members_data}
use Rattle.def_contexts.specs.Members.{value_of}
use Rattle.def_contexts.specs.Table.{default_language_of}
use Rattle.lf_context.specs.DraftView.{table_in}
use Rattle.lf_context.specs.Parts.{IsPart}
use Rattle.lf_context.specs.Maps.{terms_step}
use Rattle.lf_context.proofs.Each.{table-then, table-refused}
use Rattle.lf_context.proofs.context.read_language.Goals as goal

pub returns-in-Ok : goal.returns-in-Ok
returns-in-Ok c =
    let given = members_data c.args.members.now in
    let table = table_in c.args.draft.now in
    table-then (default_language_of table (value_of (codes "@language") given)) (λ language. terms_step given table c.args.vocab language) c.in-Ok.language (table_in c.define_terms.new.draft) c.define_terms.result
    (ap (default_language_of table) (sym c.member.ensures) ∙ c.in-Ok.ensures) c.define_terms.ensures

pub returns-in-Err : goal.returns-in-Err
returns-in-Err c =
    let given = members_data c.args.members.now in
    let table = table_in c.args.draft.now in
    table-refused (default_language_of table (value_of (codes "@language") given)) (λ language. terms_step given table c.args.vocab language) table c.in-Err.error
    (subst (λ o. IsPart (default_language_of table o) (Err c.in-Err.error)) c.member.ensures c.in-Err.ensures)
