use Rattle.std.proofs.Common.{rules}
use Rattle.std.proofs.lemmas.Fn.{always_returns_same}
use Rattle.std.specs.Ordering.{nat_cmp}
use Rattle.std.specs.Cmp.Lexicographic.{slice_cmp}
use Rattle.lf_model.specs.declared.table.TermDef.{TermDef}
use Rattle.lf_context.proofs.Placed.{searched}
use Rattle.lf_context.proofs.table.place_of.Goals as goal

-- the closure compares a definition's name with the name that is looked for
pub returns : goal.returns
returns c =
    let facts = c.binary_search_by.ensures in
    let by_name = facts.position (λ (d : TermDef). slice_cmp nat_cmp d.name c.args.name.now) (always_returns_same _ _ _ (λ a r f2 called. (search rules, search rules))) in
    let found = searched c.args.terms.now c.args.name.now c.requires _ facts.bound by_name in
    record { found = found.0; absent = found.1 }
