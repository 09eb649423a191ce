use Rattle.std.proofs.Common.{◌<◌, [], ◌≡◌, length, sym, ap, subst, arith}
use Rattle.std.proofs.lemmas.Bool.Decides.{nat_tests}
use Rattle.std.proofs.lemmas.List.{nil_from_length}
use Rattle.std.proofs.lemmas.Result.{IfOk-weaker}
use Rattle.std.proofs.Math.ListN.{length-map}
use Rattle.lf_ptree.specs.Pairs.{pairs_of}
use Rattle.lf_ptree.specs.Pages.{groups, IsRebuilt}
use Rattle.lf_ptree.proofs.PagesLemmas.{pages_set, set-rebuilt, has_pair-handles}
use Rattle.lf_ptree.proofs.RemovalLemmas.{pages_remove, gone-rebuilt}
use Rattle.lf_ptree.proofs.removal.with_fewer_pairs.Goals as goal

pub returns-then-is_empty : goal.returns-then-is_empty
returns-then-is_empty g c =
    let gs = groups c.args.pages.now in
    let ps = c.args.pairs.items in
    let within : c.args.at < length gs = rw (length-map, length-map) c.requires in
    let none : ps ≡ [] = nil_from_length ps (grind (arith, nat_tests, c.is_empty.ensures, c.if-is_empty.true)) in
    IfOk-weaker c.remove_at.result _ _ (λ made e.
    subst (IsRebuilt gs c.args.at (pairs_of ps)) (sym (pages_remove c.args.pages.now made.items c.args.at e)) (gone-rebuilt gs c.args.at (pairs_of ps) within (ap pairs_of none))
    ) c.remove_at.ensures

pub returns : goal.returns
returns g c =
    let gs = groups c.args.pages.now in
    let ps = c.args.pairs.items in
    let within : c.args.at < length gs = rw (length-map, length-map) c.requires in
    let some : 0 < length ps = grind (arith, nat_tests, c.is_empty.ensures, c.if-is_empty.false) in
    IfOk-weaker c.set_at.result _ _ (λ made e.
    subst (IsRebuilt gs c.args.at (pairs_of ps)) (sym (pages_set c.args.pages.now made.items c.args.at _ e))
    (set-rebuilt gs c.args.at (pairs_of ps) within (has_pair-handles ps some))
    ) c.set_at.ensures
