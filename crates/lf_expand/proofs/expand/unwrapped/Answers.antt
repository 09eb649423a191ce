use Rattle.std.proofs.Common.{◌≡◌, ◌+◌, true, false, cond, drop, codes, is_some, Ok, sym, ap, ◌∙◌, rules}
use Rattle.std.specs.Option.{option_copied}
use Rattle.lf_rdf.specs.Equality.{text_eq}
use Rattle.lf_model.specs.JsonData.{member}
use Rattle.lf_model.specs.JsonBridge.{json_data, members_data}
use Rattle.def_contexts.specs.Frames.{without_key, unwrapped}
use Rattle.lf_expand.proofs.Gathered.{members_at}
use Rattle.lf_expand.proofs.Tops.{with_sole, two_members}
use Rattle.lf_expand.proofs.expand.unwrapped.Goals as goal

pub returns-then-is_some : goal.returns-then-is_some
returns-then-is_some c =
    let table = c.args.terms.now.table.now in
    let es = c.args.members.now in
    let i = c.loop-member.member-index in
    let e = c.member-item.result in
    let sole = option_copied c.loop-member.sole in
    let rest = without_key (codes "@context") (members_data (drop (i + 1) es)) in
    let other : text_eq (codes "@context") e.key ≡ false = search rules in
    let met : is_some sole ≡ true = search rules in
    let all : without_key (codes "@context") (members_data es) ≡ with_sole sole (member e.key (json_data e.value) rest) =
    c.loop-member.invariant
    ∙ ap (λ ms. with_sole sole (without_key (codes "@context") ms)) (members_at es i e c.loop-member-test.true c.member-item.is)
    ∙ ap (λ b. with_sole sole (cond b rest (member e.key (json_data e.value) rest))) other in
    ap (unwrapped table) all ∙ two_members table sole e.key (json_data e.value) rest met ∙ ap Ok (sym all)
