use Rattle.std.proofs.Common.{◌≡◌, drop}
use Rattle.lf_ptree.specs.Pages.{flat, head_order}
use Rattle.lf_ptree.proofs.root.order_beside.Given as goal

abbrev pub invariant-loop-page : goal.invariant-loop-page
invariant-loop-page g l = head_order g.K.Ord.cmp l.key (flat l.page-items) ≡ head_order g.K.Ord.cmp l.key (flat (drop l.page-index l.page-items))
