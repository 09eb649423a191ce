use Rattle.std.proofs.Common.{◌≡◌, ◌↔◌, IsTrue, rules}
use Rattle.lf_index.proofs.OrderLemmas.{term_strictly, ties_told}
use Rattle.lf_index.proofs.shared.SharedPartialEq.eq.Goals as goal

pub returns : goal.returns
returns c =
    let is : IsTrue c.is.result ↔ (c.args.self.now ≡ c.args.other.now) = search rules in
    ties_told term_strictly c.is.result c.args.self.now c.args.other.now is
