use Rattle.std.proofs.Common.{sym, ap, ◌∙◌}
use Rattle.std.specs.List.{list_any}
use Rattle.std.proofs.lemmas.Result.{IfOk-weaker}
use Rattle.std.proofs.lemmas.List.Sorted.{list_any-IsPermutation}
use Rattle.def_datasets.proofs.ViewProofs.{any-map}
use Rattle.lf_index.proofs.near.by_chunk.Goals as goal

pub returns : goal.returns
returns g c =
    let first = c.in_ok-marked.marked.items in
    let sorted = c.sort_by_key.new.self.items in
    IfOk-weaker c.without_chunks.result _ _ (λ made e test.
    ap (list_any test) e
    ∙ (any-map test (λ m. m.value) sorted
    ∙ (sym (list_any-IsPermutation (λ m. test m.value) first sorted c.in_ok-sort_by_key.ensures.permutation)
    ∙ (sym (any-map test (λ m. m.value) first) ∙ ap (list_any test) c.in_ok-marked.ensures)))
    ) c.without_chunks.ensures
