use Rattle.std.proofs.Common.{◌∙◌, ap, cond, Some, nat_cmp, is_eq}
use Rattle.std.specs.Prelude.{option_map}
use Rattle.std.specs.Cmp.Lexicographic.{slice_cmp}
use Rattle.std.specs.BTreeMap.{get}
use Rattle.std.proofs.lemmas.Map.Text.{is_eq-slice_cmp}
use Rattle.lf_model.specs.JsonBridge.{json_data}
use Rattle.lf_compact.specs.declared.members.Joined.TheVariants as j
use Rattle.lf_compact.specs.Members.{joined_data, with_more}
use Rattle.lf_compact.proofs.Held.{added-to, put-twice}
use Rattle.lf_compact.proofs.members.add.Goals as goal

pub returns-in_ok-insert-in-Some : goal.returns-in_ok-insert-in-Some
returns-in_ok-insert-in-Some c =
    let key = c.args.key in
    let old = c.args.members.now in
    let joined = c.in_ok-joined-in-Some.joined in
    added-to old c.insert.new.self key joined (json_data c.args.value)
    (λ q. c.in_ok-insert-in-Some.ensures.updates.0 q
    ∙ ap (λ o. cond (is_eq (slice_cmp nat_cmp key q)) (Some joined) o) (c.in-Some.ensures.updates.0 q)
    ∙ put-twice (is_eq (slice_cmp nat_cmp key q)) (Some joined) (get (slice_cmp nat_cmp) old q)
    ∙ ap (λ b. cond b (Some joined) (get (slice_cmp nat_cmp) old q)) (is_eq-slice_cmp key q))
    (c.in_ok-joined-in-Some.ensures ∙ ap (λ o. with_more (option_map joined_data o) (json_data c.args.value)) c.in-Some.ensures.value)

pub returns-in_ok-insert-in-None : goal.returns-in_ok-insert-in-None
returns-in_ok-insert-in-None c =
    let key = c.args.key in
    let old = c.args.members.now in
    let joined = j.One c.args.value in
    added-to old c.insert-in-None.new.self key joined (json_data c.args.value)
    (λ q. c.in_ok-insert-in-None.ensures.updates.0 q
    ∙ ap (λ o. cond (is_eq (slice_cmp nat_cmp key q)) (Some joined) o) (c.in-None.ensures.updates.0 q)
    ∙ put-twice (is_eq (slice_cmp nat_cmp key q)) (Some joined) (get (slice_cmp nat_cmp) old q)
    ∙ ap (λ b. cond b (Some joined) (get (slice_cmp nat_cmp) old q)) (is_eq-slice_cmp key q))
    (ap (λ o. with_more (option_map joined_data o) (json_data c.args.value)) c.in-None.ensures.value)
