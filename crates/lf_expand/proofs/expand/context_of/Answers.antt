use Rattle.std.proofs.Common.{◌≡◌, ◌+◌, true, cond, drop, codes, Some, sym, ap, ◌∙◌, rules}
use Rattle.lf_rdf.specs.Equality.{text_eq}
use Rattle.lf_model.specs.JsonBridge.{json_data, members_data}
use Rattle.def_contexts.specs.Members.{value_of}
use Rattle.lf_expand.proofs.Gathered.{members_at}
use Rattle.lf_expand.proofs.expand.context_of.Goals as goal

pub returns-then-eq : goal.returns-then-eq
returns-then-eq c =
    let es = c.args.members.now in
    let i = c.loop-member.member-index in
    let e = c.member-item.result in
    let same : text_eq (codes "@context") e.key ≡ true = search rules in
    sym (c.loop-member.invariant
    ∙ ap (value_of (codes "@context")) (members_at es i e c.loop-member-test.true c.member-item.is)
    ∙ ap (λ b. cond b (Some (json_data e.value)) (value_of (codes "@context") (members_data (drop (i + 1) es)))) same)
