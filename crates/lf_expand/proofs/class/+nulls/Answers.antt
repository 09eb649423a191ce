use Rattle.std.proofs.Common.{◌≡◌, true, sym, ap, ◌∙◌, subst, IfOk, rules}
use Rattle.lf_model.specs.JsonBridge.{members_data}
use Rattle.def_contexts.specs.FrameKeys.{stands_for_null, set_for_null, is_set_only, kept}
use Rattle.lf_expand.specs.KeptKeys.{is_alone}
use Rattle.lf_expand.proofs.Kept.{alone_is, both_ways}
use Rattle.lf_expand.proofs.Values.{map_value}
use Rattle.lf_expand.proofs.class.+nulls.Goals as goal

pub map_for_null-returns : goal.map_for_null-returns
map_for_null-returns t c =
    let keys = kept c.args.terms.now.table.now (members_data c.args.members.now) in
    let null : set_for_null c.args.terms.now.table.now (members_data c.args.members.now) ≡ true = search rules in
    c.is_alone.ensures ∙ ap is_alone c.in_ok-keys.ensures ∙ sym (alone_is keys) ∙ sym (both_ways (is_set_only keys) _ null)

pub stands_for_null-returns-in-Map : goal.stands_for_null-returns-in-Map
stands_for_null-returns-in-Map t c =
    subst (λ v. IfOk c.map_for_null.result (λ b. b ≡ stands_for_null c.args.terms.now.table.now v))
    (sym (map_value c.args.value.now c.in-Map.members c.in-Map.is)) c.map_for_null.ensures
