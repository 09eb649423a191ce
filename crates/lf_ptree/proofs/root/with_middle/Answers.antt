use Rattle.std.proofs.Common.{◌≡◌, ◌<◌, ◌+◌, suc, ◌++◌, length, drop, map, set, sym, ap, subst, ◌∙◌, arith}
use Rattle.std.specs.Arc.{arc_value}
use Rattle.std.specs.List.{insert}
use Rattle.std.proofs.lemmas.Result.{IfOk-weaker}
use Rattle.std.proofs.lemmas.List.{take-append-drop}
use Rattle.std.proofs.Math.ListN.{length-map}
use Rattle.lf_ptree.specs.Pages.{flat, HasPair, IsRebuilt}
use Rattle.lf_ptree.specs.declared.root.Middle.{Middle}
use Rattle.lf_ptree.specs.Roots.{mid_groups}
use Rattle.lf_ptree.proofs.PagesLemmas.{set-rebuilt, halves-rebuilt}
use Rattle.lf_ptree.proofs.RootsLemmas.{mids_set, mids_insert, full_front, full_back, full_has_pair, full_set, full_insert, flat-append}
use Rattle.lf_ptree.proofs.root.with_middle.Goals as goal

pub returns-then-len-le-MIDDLE-clause-rebuilt : goal.returns-then-len-le-MIDDLE-clause-rebuilt
returns-then-len-le-MIDDLE-clause-rebuilt g c =
    let gs = mid_groups c.args.middles.now in
    let within : c.args.at < length gs = rw (length-map, length-map) c.requires.in_range in
    IfOk-weaker c.set_at.result _ _ (λ made e.
    subst (IsRebuilt gs c.args.at (flat c.args.pages.items)) (sym (mids_set c.args.middles.now made.items c.args.at _ e)) (set-rebuilt gs c.args.at (flat c.args.pages.items) within c.requires.some)
    ) c.set_at.ensures

pub returns-clause-rebuilt : goal.returns-clause-rebuilt
returns-clause-rebuilt g c =
    let gs = mid_groups c.args.middles.now in
    let ps = c.args.pages.items in
    let lower = c.split_off.new.self.items in
    let upper = c.in_ok-upper.upper.items in
    let parts : ps ≡ lower ++ upper = sym (take-append-drop 64 ps) ∙ ap (λ l. l ++ drop 64 ps) (sym c.in_ok-upper.ensures.items) ∙ ap (λ l. lower ++ l) (sym c.in_ok-upper.ensures.tail) in
    let within : c.args.at < length gs = rw (length-map, length-map) c.requires.in_range in
    let whole : flat ps ≡ flat lower ++ flat upper = ap flat parts ∙ flat-append lower upper in
    let some_low : HasPair (flat lower) = full_has_pair lower (omega (arith, c.in_ok-upper.ensures.len, c.len.ensures, c.if-len-le-MIDDLE.false)) (full_front lower upper ps parts c.requires.full) in
    let some_up : HasPair (flat upper) = full_has_pair upper (omega (arith, c.in_ok-upper.ensures.tail_len, c.len.ensures, c.if-len-le-MIDDLE.false)) (full_back lower upper ps parts c.requires.full) in
    let next : c.args.at + 1 ≡ suc c.args.at = omega arith in
    IfOk-weaker c.insert_at.result _ _ (λ made e.
    subst (IsRebuilt gs c.args.at (flat ps))
    (sym (mids_insert c.as_slice.result.now made.items (c.args.at + 1) _ e
    ∙ ap (λ hs. insert (mid_groups hs) (c.args.at + 1) (flat upper)) c.as_slice.ensures.value
    ∙ ap (λ hs. insert hs (c.args.at + 1) (flat upper)) (mids_set c.args.middles.now c.in_ok-halved.halved.items c.args.at _ c.in_ok-halved.ensures)
    ∙ ap (λ n. insert (set gs c.args.at (flat lower)) n (flat upper)) next))
    (halves-rebuilt gs c.args.at (flat ps) (flat lower) (flat upper) within some_low some_up whole)
    ) c.insert_at.ensures

pub returns-clause-full : goal.returns-clause-full
returns-clause-full g c =
    let ps = c.args.pages.items in
    let lower = c.split_off.new.self.items in
    let upper = c.in_ok-upper.upper.items in
    let parts : ps ≡ lower ++ upper = sym (take-append-drop 64 ps) ∙ ap (λ l. l ++ drop 64 ps) (sym c.in_ok-upper.ensures.items) ∙ ap (λ l. lower ++ l) (sym c.in_ok-upper.ensures.tail) in
    let above : Middle g.row.K.Denot g.row.V.Denot = record { pages = c.in_ok-upper.upper } in
    IfOk-weaker c.insert_at.result _ _ (λ made e full.
    full_insert c.in_ok-halved.halved.items made.items (c.args.at + 1) above (e ∙ ap (λ hs. insert (map arc_value hs) (c.args.at + 1) above) c.as_slice.ensures.value) (full_back lower upper ps parts c.requires.full)
    (full_set c.args.middles.now c.in_ok-halved.halved.items c.args.at _ c.in_ok-halved.ensures (full_front lower upper ps parts c.requires.full) full)
    ) c.insert_at.ensures
