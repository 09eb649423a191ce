use Rattle.std.proofs.Common.{◌≡◌, ◌<◌, ◌+◌, suc, ◌++◌, length, take, drop, set, sym, ap, subst, ◌∙◌, arith}
use Rattle.std.specs.Arc.{arc_value}
use Rattle.std.specs.List.{insert}
use Rattle.std.proofs.lemmas.Result.{IfOk-weaker}
use Rattle.std.proofs.lemmas.List.{map-append, take-append-drop}
use Rattle.std.proofs.Math.ListN.{length-map}
use Rattle.lf_ptree.specs.Pairs.{pairs_of}
use Rattle.lf_ptree.specs.Pages.{groups, HasPair, IsRebuilt}
use Rattle.lf_ptree.proofs.PagesLemmas.{pages_set, pages_insert, set-rebuilt, halves-rebuilt, has_pair-handles}
use Rattle.lf_ptree.proofs.pages.with_page.Goals as goal

pub returns-then-len-le-PAGE : goal.returns-then-len-le-PAGE
returns-then-len-le-PAGE g c =
    let within : c.args.at < length (groups c.args.pages.now) = rw (length-map, length-map) c.requires.in_range in
    IfOk-weaker c.set_at.result _ _ (λ made e.
    subst (IsRebuilt (groups c.args.pages.now) c.args.at (pairs_of c.args.pairs.items)) (sym (pages_set c.args.pages.now made.items c.args.at _ e)) (set-rebuilt (groups c.args.pages.now) c.args.at (pairs_of c.args.pairs.items) within c.requires.some)
    ) c.set_at.ensures

pub returns : goal.returns
returns g c =
    let gs = groups c.args.pages.now in
    let ps = c.args.pairs.items in
    let lower = c.split_off.new.self.items in
    let upper = c.in_ok-upper.upper.items in
    let low = c.in_ok-upper.ensures.items in
    let up = c.in_ok-upper.ensures.tail in
    let within : c.args.at < length gs = rw (length-map, length-map) c.requires.in_range in
    let whole : pairs_of ps ≡ pairs_of lower ++ pairs_of upper =
    ap pairs_of (sym (take-append-drop 32 ps)) ∙ map-append arc_value (take 32 ps) (drop 32 ps) ∙ ap (λ l. pairs_of l ++ pairs_of (drop 32 ps)) (sym low) ∙ ap (λ l. pairs_of lower ++ pairs_of l) (sym up) in
    let some_low : HasPair (pairs_of lower) = has_pair-handles lower (omega (arith, c.in_ok-upper.ensures.len, c.len.ensures, c.if-len-le-PAGE.false)) in
    let some_up : HasPair (pairs_of upper) = has_pair-handles upper (omega (arith, c.in_ok-upper.ensures.tail_len, c.len.ensures, c.if-len-le-PAGE.false)) in
    let next : c.args.at + 1 ≡ suc c.args.at = omega arith in
    IfOk-weaker c.insert_at.result _ _ (λ made e.
    subst (IsRebuilt gs c.args.at (pairs_of ps))
    (sym (pages_insert c.as_slice.result.now made.items (c.args.at + 1) _ e
    ∙ ap (λ hs. insert (groups hs) (c.args.at + 1) (pairs_of upper)) c.as_slice.ensures.value
    ∙ ap (λ hs. insert hs (c.args.at + 1) (pairs_of upper)) (pages_set c.args.pages.now c.in_ok-halved.halved.items c.args.at _ c.in_ok-halved.ensures)
    ∙ ap (λ n. insert (set gs c.args.at (pairs_of lower)) n (pairs_of upper)) next))
    (halves-rebuilt gs c.args.at (pairs_of ps) (pairs_of lower) (pairs_of upper) within some_low some_up whole)
    ) c.insert_at.ensures
