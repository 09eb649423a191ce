use Rattle.std.proofs.Common.{false, Some, None, ap, sym, ◌∙◌, option_copied}
use Rattle.lf_model.specs.JsonBridge.{json_data, members_data}
use Rattle.def_contexts.specs.Members.{value_of}
use Rattle.def_contexts.specs.Table.{is_context_key}
use Rattle.lf_context.specs.Parts.{data_of}
use Rattle.lf_context.proofs.Marks.{stands-no-term, stands-absent, stands-as}
use Rattle.lf_context.proofs.mark.standing.Goals as goal

pub returns-then-is_context_key : goal.returns-then-is_context_key
returns-then-is_context_key c =
    stands-no-term c.args.name.now (members_data c.args.members.now) c.args.marks.now.entries
    (ap is_context_key (sym c.as_str-key.ensures) ∙ sym c.is_context_key.ensures ∙ c.if-is_context_key.true)

pub returns-in-None : goal.returns-in-None
returns-in-None c =
    stands-absent c.args.name.now (members_data c.args.members.now) c.args.marks.now.entries
    (ap is_context_key (sym c.as_str-key.ensures) ∙ sym c.is_context_key.ensures ∙ c.if-is_context_key.false)
    (ap (λ n. value_of n (members_data c.args.members.now)) (sym c.as_str-key.ensures) ∙ sym c.member.ensures ∙ ap data_of c.in-None.is)

pub returns-in-Some-false : goal.returns-in-Some-false
returns-in-Some-false c =
    stands-as c.args.name.now (members_data c.args.members.now) c.args.marks.now.entries (json_data c.in-Some.value.now) (Some false)
    (ap is_context_key (sym c.as_str-key.ensures) ∙ sym c.is_context_key.ensures ∙ c.if-is_context_key.false)
    (ap (λ n. value_of n (members_data c.args.members.now)) (sym c.as_str-key.ensures) ∙ sym c.member.ensures ∙ ap data_of c.in-Some.is)
    (sym c.get.ensures.value ∙ ap option_copied c.in-Some-false.is ∙ ap Some c.in-Some-false.field-0-test)

pub returns-in-None-get : goal.returns-in-None-get
returns-in-None-get c =
    stands-as c.args.name.now (members_data c.args.members.now) c.args.marks.now.entries (json_data c.in-Some.value.now) None
    (ap is_context_key (sym c.as_str-key.ensures) ∙ sym c.is_context_key.ensures ∙ c.if-is_context_key.false)
    (ap (λ n. value_of n (members_data c.args.members.now)) (sym c.as_str-key.ensures) ∙ sym c.member.ensures ∙ ap data_of c.in-Some.is)
    (sym c.get.ensures.value ∙ ap option_copied c.in-None-get.is)
