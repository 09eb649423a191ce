use Rattle.std.proofs.Common.{◌<◌, [], ◌≡◌, length, sym, ap, subst, arith}
use Rattle.std.proofs.lemmas.Bool.Decides.{nat_tests}
use Rattle.std.proofs.lemmas.List.{nil_from_length}
use Rattle.std.proofs.lemmas.Result.{IfOk-weaker}
use Rattle.std.proofs.Math.ListN.{length-map}
use Rattle.lf_ptree.specs.Pages.{flat, IsRebuilt}
use Rattle.lf_ptree.specs.Roots.{mid_groups}
use Rattle.lf_ptree.proofs.PagesLemmas.{set-rebuilt}
use Rattle.lf_ptree.proofs.RootsLemmas.{mids_set, full_has_pair, full_set}
use Rattle.lf_ptree.proofs.RemovalLemmas.{mids_remove, gone-rebuilt, full_remove}
use Rattle.lf_ptree.proofs.removal.with_fewer_pages.Goals as goal

pub returns-then-is_empty-clause-rebuilt : goal.returns-then-is_empty-clause-rebuilt
returns-then-is_empty-clause-rebuilt g c =
    let gs = mid_groups c.args.middles.now in
    let ps = c.args.pages.items in
    let within : c.args.at < length gs = rw (length-map, length-map) c.requires.in_range in
    let none : ps ≡ [] = nil_from_length ps (grind (arith, nat_tests, c.is_empty.ensures, c.if-is_empty.true)) in
    IfOk-weaker c.remove_at.result _ _ (λ made e.
    subst (IsRebuilt gs c.args.at (flat ps)) (sym (mids_remove c.args.middles.now made.items c.args.at e)) (gone-rebuilt gs c.args.at (flat ps) within (ap flat none))
    ) c.remove_at.ensures

pub returns-then-is_empty-clause-full : goal.returns-then-is_empty-clause-full
returns-then-is_empty-clause-full g c =
    IfOk-weaker c.remove_at.result _ _ (λ made e. full_remove c.args.middles.now made.items c.args.at e) c.remove_at.ensures

pub returns-clause-rebuilt : goal.returns-clause-rebuilt
returns-clause-rebuilt g c =
    let gs = mid_groups c.args.middles.now in
    let ps = c.args.pages.items in
    let within : c.args.at < length gs = rw (length-map, length-map) c.requires.in_range in
    let some : 0 < length ps = grind (arith, nat_tests, c.is_empty.ensures, c.if-is_empty.false) in
    IfOk-weaker c.set_at.result _ _ (λ made e.
    subst (IsRebuilt gs c.args.at (flat ps)) (sym (mids_set c.args.middles.now made.items c.args.at _ e))
    (set-rebuilt gs c.args.at (flat ps) within (full_has_pair ps some c.requires.full))
    ) c.set_at.ensures

pub returns-clause-full : goal.returns-clause-full
returns-clause-full g c =
    IfOk-weaker c.set_at.result _ _ (λ made e. full_set c.args.middles.now made.items c.args.at _ e c.requires.full) c.set_at.ensures
