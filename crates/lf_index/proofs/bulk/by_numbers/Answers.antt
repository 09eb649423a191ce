use Rattle.std.proofs.Common.{sym}
use Rattle.std.proofs.lemmas.List.Sorted.{list_any-IsPermutation}
use Rattle.lf_index.proofs.bulk.by_numbers.Goals as goal

pub returns : goal.returns
returns c = λ test. sym (list_any-IsPermutation test c.args.keys.items c.sort_by.new.self.items c.in_ok-sort_by.ensures.permutation)
