use Rattle.std.proofs.Common.{[], ◌∷◌, ◌++◌, ◌∙◌, ap, cond, Some, nat_cmp, is_eq}
use Rattle.std.specs.Prelude.{option_map, unwrap_or}
use Rattle.std.specs.Cmp.Lexicographic.{slice_cmp}
use Rattle.std.specs.BTreeMap.{get}
use Rattle.std.proofs.lemmas.Map.Text.{is_eq-slice_cmp}
use Rattle.lf_compact.proofs.Held.{put-twice}
use Rattle.lf_compact.proofs.Steps.{put-list}
use Rattle.lf_compact.proofs.groups.put_under.Goals as goal

pub returns-in_ok-insert-in-Some : goal.returns-in_ok-insert-in-Some
returns-in_ok-insert-in-Some g c =
    let key = c.args.key in
    let old = c.args.groups.now in
    let list = c.push.new.self in
    put-list old c.insert.new.self key list c.args.value
    (λ q. c.in_ok-insert-in-Some.ensures.updates.0 q
    ∙ ap (λ o. cond (is_eq (slice_cmp nat_cmp key q)) (Some list) o) (c.in-Some.ensures.updates.0 q)
    ∙ put-twice (is_eq (slice_cmp nat_cmp key q)) (Some list) (get (slice_cmp nat_cmp) old q)
    ∙ ap (λ b. cond b (Some list) (get (slice_cmp nat_cmp) old q)) (is_eq-slice_cmp key q))
    (c.in_ok-push-in-Some.ensures.items
    ∙ ap (λ o. unwrap_or (option_map (λ l. l.items) o) [] ++ c.args.value ∷ []) c.in-Some.ensures.value)

pub returns-in_ok-insert-in-None : goal.returns-in_ok-insert-in-None
returns-in_ok-insert-in-None g c =
    let key = c.args.key in
    let old = c.args.groups.now in
    let list = c.push-in-None.new.self in
    put-list old c.insert-in-None.new.self key list c.args.value
    (λ q. c.in_ok-insert-in-None.ensures.updates.0 q
    ∙ ap (λ o. cond (is_eq (slice_cmp nat_cmp key q)) (Some list) o) (c.in-None.ensures.updates.0 q)
    ∙ put-twice (is_eq (slice_cmp nat_cmp key q)) (Some list) (get (slice_cmp nat_cmp) old q)
    ∙ ap (λ b. cond b (Some list) (get (slice_cmp nat_cmp) old q)) (is_eq-slice_cmp key q))
    (c.in_ok-push-in-None.ensures.items
    ∙ ap (λ l. l ++ c.args.value ∷ []) c.new-list.ensures.items
    ∙ ap (λ o. unwrap_or (option_map (λ l. l.items) o) [] ++ c.args.value ∷ []) c.in-None.ensures.value)
