use Rattle.std.proofs.Common.{rules, tests, ℕ, List, nat_eq}
use Rattle.std.proofs.lemmas.Iterator.Splits.{YieldsList-from_slice_split}
use Rattle.std.proofs.lemmas.Iterator.Search.{any_from_yields_List}
use Rattle.httparse.specs.Grammar.{trim_ows}
use Rattle.lf_http.specs.Fields.{same_name}
use Rattle.lf_http.proofs.word.is_in_list.Goals as goal

pub returns : goal.returns
returns c =
    any_from_yields_List (λ (part : List ℕ). same_name (trim_ows part) c.args.word.now) _ _ _ c.any.ensures.ran
    (YieldsList-from_slice_split _ (λ b. nat_eq b 44) c.args.value.now (search rules) (search rules) (search rules) (λ x b q k. search (rules, tests)))
    (λ x b q k. search (rules, tests))
