use Rattle.std.proofs.Common.{◌≡◌, ◌+◌, true, false, cond, ◌||◌, drop, codes, sym, ap, ◌∙◌, rules}
use Rattle.lf_rdf.specs.Equality.{text_eq}
use Rattle.lf_model.specs.JsonData.{member}
use Rattle.lf_model.specs.JsonBridge.{json_data, members_data}
use Rattle.def_contexts.specs.FrameKeys.{is_the_keyword, meaning_of}
use Rattle.def_contexts.specs.Frames.{without_key, has_graph}
use Rattle.lf_expand.proofs.Gathered.{members_at}
use Rattle.lf_expand.proofs.expand.has_graph.Goals as goal

pub returns-then-branch : goal.returns-then-branch
returns-then-branch c =
    let table = c.args.terms.now.table.now in
    let es = c.args.members.now in
    let i = c.loop-member.member-index in
    let e = c.member-item.result in
    let rest = without_key (codes "@context") (members_data (drop (i + 1) es)) in
    let other : text_eq (codes "@context") e.key ≡ false = search rules in
    let graph : is_the_keyword (codes "@graph") (meaning_of table e.key) ≡ true = search rules in
    sym (c.loop-member.invariant
    ∙ ap (λ ms. has_graph table (without_key (codes "@context") ms)) (members_at es i e c.loop-member-test.true c.member-item.is)
    ∙ ap (λ b. has_graph table (cond b rest (member e.key (json_data e.value) rest))) other
    ∙ ap (λ b. b || has_graph table rest) graph)
