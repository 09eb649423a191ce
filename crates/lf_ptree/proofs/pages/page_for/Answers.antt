use Rattle.std.proofs.Common.{rules, subst, sym, ap, ◌∙◌, map}
use Rattle.std.proofs.lemmas.Fn.{always_returns_same}
use Rattle.std.specs.Arc.{arc_value}
use Rattle.lf_ptree.specs.Pages.{head_order, page_pairs, IsGroupFor, IsGrouped}
use Rattle.lf_ptree.proofs.PagesLemmas.{group_picked, groups_alike, picked, picked-Err}
use Rattle.lf_ptree.proofs.pages.page_for.Goals as goal

pub returns-in-Ok : goal.returns-in-Ok
returns-in-Ok g c =
    let facts = c.binary_search_by.ensures in
    let by_head = facts.position (λ p. head_order g.K.Ord.cmp c.args.key.now (page_pairs (arc_value p))) (always_returns_same _ _ _ (λ a r f2 called. (search rules, search rules))) in
    let grouped = subst (IsGrouped g.K.Ord.cmp) (sym (groups_alike c.args.pages.now)) c.requires.map in
    let found = group_picked g.K.Ord.cmp g.met.K.Ord.total (λ p. page_pairs (arc_value p)) c.args.pages.now c.args.key.now grouped c.requires.some c.binary_search_by.result facts.bound by_head in
    subst (λ gs. IsGroupFor g.K.Ord.cmp gs c.args.key.now c.in-Ok.at) (groups_alike c.args.pages.now)
    (subst (λ r. IsGroupFor g.K.Ord.cmp (map (λ p. page_pairs (arc_value p)) c.args.pages.now) c.args.key.now (picked r)) c.in-Ok.is found)

pub returns-in-Err : goal.returns-in-Err
returns-in-Err g c =
    let facts = c.binary_search_by.ensures in
    let by_head = facts.position (λ p. head_order g.K.Ord.cmp c.args.key.now (page_pairs (arc_value p))) (always_returns_same _ _ _ (λ a r f2 called. (search rules, search rules))) in
    let grouped = subst (IsGrouped g.K.Ord.cmp) (sym (groups_alike c.args.pages.now)) c.requires.map in
    let found = group_picked g.K.Ord.cmp g.met.K.Ord.total (λ p. page_pairs (arc_value p)) c.args.pages.now c.args.key.now grouped c.requires.some c.binary_search_by.result facts.bound by_head in
    subst (λ gs. IsGroupFor g.K.Ord.cmp gs c.args.key.now c.saturating_sub.result) (groups_alike c.args.pages.now)
    (subst (λ n. IsGroupFor g.K.Ord.cmp (map (λ p. page_pairs (arc_value p)) c.args.pages.now) c.args.key.now n) (ap picked c.in-Err.is ∙ picked-Err c.in-Err.at ∙ sym c.saturating_sub.ensures) found)
