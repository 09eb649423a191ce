use Rattle.std.proofs.Common.{[], refl, arith}
use Rattle.std.proofs.lemmas.Bool.Decides.{nat_tests}
use Rattle.lf_ptree.specs.declared.root.Middle.{Middle}
use Rattle.lf_ptree.proofs.RootsLemmas.{gathering_closed}
use Rattle.lf_ptree.proofs.build.with_last_middle.Goals as goal

pub returns : goal.returns
returns g c = λ all h.
    let last : Middle g.row.K.Denot g.row.V.Denot = record { pages = c.args.pages } in
    gathering_closed c.args.middles.items c.close_middle.new.middles.items c.args.pages.items [] all [] last h
    (grind (arith, nat_tests, c.is_empty.ensures, c.if-is_empty.false)) refl c.in_ok-close_middle.ensures refl
