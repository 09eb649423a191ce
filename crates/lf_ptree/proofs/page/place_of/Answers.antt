use Rattle.std.proofs.Common.{rules}
use Rattle.std.proofs.lemmas.Fn.{always_returns_same}
use Rattle.std.specs.Arc.{arc_value}
use Rattle.lf_ptree.specs.Pairs.{key_order}
use Rattle.lf_ptree.proofs.PairsLemmas.{searched}
use Rattle.lf_ptree.proofs.page.place_of.Goals as goal

-- the closure compares a pair's key with the key that is looked for
pub returns : goal.returns
returns g c =
    let facts = c.binary_search_by.ensures in
    let by_key = facts.position (λ p. key_order g.K.Ord.cmp c.args.key.now (arc_value p)) (always_returns_same _ _ _ (λ a r f2 called. (search rules, search rules))) in
    let found = searched g.K.Ord.cmp g.met.K.Ord.total arc_value c.args.pairs.now c.args.key.now c.requires _ facts.bound by_key in
    record { found = found.0; absent = found.1 }
