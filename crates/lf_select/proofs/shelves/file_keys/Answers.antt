use Rattle.std.proofs.Common.{◌≡◌, ◌∙◌}
use Rattle.std.proofs.lemmas.Option.{get_or_from_slice_get}
use Rattle.lf_select.proofs.Filed.{keys-more, keys-done, keys-none}
use Rattle.lf_select.proofs.shelves.file_keys.Goals as goal

pub loop-key-init : goal.loop-key-init
loop-key-init c = keys-none c.args.table.now c.args.shelves.now c.args.iri.now c.args.place c.requires.filed

pub loop-key-preserved : goal.loop-key-preserved
loop-key-preserved c =
    keys-more c.args.table.now c.as_slice-terms.result.now c.as_slice-terms.ensures c.loop-key.shelves c.file.new.shelves c.args.iri.now
    c.args.place c.loop-key.key-index c.as_slice-key-items.result.now c.key-item.result c.loop-key-test.true c.key-item.is
    c.loop-key.invariant c.in_ok-file.ensures

pub returns : goal.returns
returns c =
    λ term here has_iri.
    let found = c.index-terms-place.result in
    let same : found ≡ term =
    c.index-terms-place.is ∙ get_or_from_slice_get c.as_slice-terms.result.now c.args.place term found (rw c.as_slice-terms.ensures here) in
    keys-done c.args.table.now c.loop-key.shelves c.args.place c.loop-key.key-index term found c.args.iri.now c.as_slice-key-items.result.now
    here has_iri same (c.as_slice-key-items.ensures.value ∙ c.in_ok-keys.ensures) c.loop-key-test.false c.loop-key.invariant
