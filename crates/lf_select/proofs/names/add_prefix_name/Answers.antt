use Rattle.std.proofs.Common.{◌≡◌, ◌∙◌, ap, get_or, refl, rules}
use Rattle.std.proofs.lemmas.Option.{slice_get_read}
use Rattle.lf_select.proofs.Named.{prefix-added}
use Rattle.lf_select.proofs.names.add_prefix_name.Goals as goal

pub returns-in_ok-insert : goal.returns-in_ok-insert
returns-in_ok-insert c =
    let terms = c.args.table.now.terms in
    let term = c.index-as_slice-place.result in
    let item : term ≡ get_or terms c.args.place term = c.index-as_slice-place.is ∙ ap (λ xs. get_or xs c.args.place term) c.as_slice.ensures in
    prefix-added c.args.table.now c.args.prefixes.now c.insert.new.self c.args.place term
    (slice_get_read terms _ c.args.place term refl c.requires.here item)
    (search rules) (search rules) c.requires.named
