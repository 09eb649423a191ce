use Rattle.std.proofs.Common.{rules}
use Rattle.std.proofs.lemmas.Fn.{always_returns_same}
use Rattle.lf_sorted.specs.Entries.{text_cmp}
use Rattle.lf_sorted.proofs.EntriesLemmas.{searched}
use Rattle.lf_sorted.proofs.map.place_of.Goals as goal

-- the closure compares an entry's key with the key that is looked for
pub returns : goal.returns
returns g c =
    let facts = c.binary_search_by.ensures in
    let by_key = facts.position (λ e. text_cmp e.key c.args.key.now) (always_returns_same _ _ _ (λ a r f2 called. (search rules, search rules))) in
    let found = searched c.args.entries.now c.args.key.now c.requires _ facts.bound by_key in
    record { found = found.0; absent = found.1 }
