use Rattle.std.proofs.Common.{◌≡◌, ◌↔◌, IsTrue, rules}
use Rattle.def_datasets.proofs.OrderLaws.{quad_strict}
use Rattle.lf_index.proofs.OrderLemmas.{ties_told}
use Rattle.lf_index.proofs.lined.LinedPartialEq.eq.Goals as goal

pub returns : goal.returns
returns c =
    let is : IsTrue c.is.result ↔ (c.args.self.now ≡ c.args.other.now) = search rules in
    ties_told quad_strict c.is.result c.args.self.now c.args.other.now is
