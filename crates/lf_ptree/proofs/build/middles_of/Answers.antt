use Rattle.std.proofs.Common.{ap, arith, rules}
use Rattle.lf_ptree.specs.declared.root.Middle.{Middle}
use Rattle.lf_ptree.proofs.RootsLemmas.{gathering_more, gathering_closed}
use Rattle.lf_ptree.proofs.build.middles_of.Goals as goal

pub loop-page-preserved : goal.loop-page-preserved
loop-page-preserved g c =
    gathering_more c.loop-page.middles.items c.loop-page.gathered.items _ _ _ _ c.in-Some.page c.loop-page.invariant (search rules) (search rules)

pub loop-page-preserved-in-Continue-branch-2 : goal.loop-page-preserved-in-Continue-branch-2
loop-page-preserved-in-Continue-branch-2 g c =
    let full : Middle g.row.K.Denot g.row.V.Denot = record { pages = c.replace-full.result } in
    gathering_closed c.loop-page.middles.items _ c.push.new.self.items _ _ _ full
    (gathering_more c.loop-page.middles.items c.loop-page.gathered.items _ _ _ _ c.in-Some.page c.loop-page.invariant (search rules) (search rules))
    (omega (arith, c.len.ensures, c.if-len-ge-MIDDLE_FILL.true))
    (ap (λ v. v.items) c.replace-full.ensures.value)
    (search rules)
    (search rules)
