use Rattle.std.proofs.Common.{◌∷◌, [], ap}
use Rattle.lf_model.specs.JsonData.{text}
use Rattle.lf_model.proofs.JsonLemmas.{json_data-Text}
use Rattle.def_selection.specs.Iris.{short_keyword}
use Rattle.def_selection.specs.Keywords.{at_type}
use Rattle.lf_compact.proofs.Added.{adds-same}
use Rattle.lf_compact.proofs.Steps.{some-datatype}
use Rattle.lf_compact.proofs.write.add_datatype.Goals as goal

pub returns-in_ok-add_under-in-Some : goal.returns-in_ok-add_under-in-Some
unfolding at_type
returns-in_ok-add_under-in-Some c =
    let table = c.args.inverse.now in
    let compacted = c.in_ok-compacted-in-Some.compacted in (
      (short_keyword table at_type, text compacted) ∷ [],
      some-datatype table c.args.datatype.now c.in-Some.datatype compacted c.in-Some.is c.in_ok-compacted-in-Some.ensures,
      adds-same c.args.members.now c.add_under.new.members _ _ (ap (λ v. (short_keyword table at_type, v) ∷ []) (json_data-Text compacted))
          c.in_ok-add_under-in-Some.ensures,
    )
