use Rattle.std.proofs.Common.{◌≡◌, false, sym, ap, ◌∙◌, subst}
use Rattle.lf_model.specs.declared.frame.TypeTest.{TypeTest}
use Rattle.lf_model.specs.JsonData.{object}
use Rattle.lf_model.specs.JsonBridge.{json_data, members_data}
use Rattle.def_contexts.specs.NodeTests.{is_any, type_test_of, types_given}
use Rattle.lf_expand.specs.Gives.{Gives}
use Rattle.lf_expand.proofs.Values.{map_value, types_of_map}
use Rattle.lf_expand.proofs.node_tests.type_test_of.Goals as goal

pub returns-in-Map : goal.returns-in-Map
returns-in-Map c =
    let table = c.args.terms.now.table.now in
    let is = map_value c.args.value.now c.in-Map.members c.in-Map.is in
    let some : is_any (json_data c.args.value.now) ≡ false = cc in
    subst (λ v. Gives (λ (test : TypeTest). test) c.types_by_default.result (type_test_of table v)) (sym is)
    (subst (λ r. Gives (λ (test : TypeTest). test) c.types_by_default.result r)
    (sym (types_of_map table (members_data c.in-Map.members) (ap is_any (sym is) ∙ some)))
    (subst (λ ms. Gives (λ (test : TypeTest). test) c.types_by_default.result (types_given table (object (members_data ms))))
    c.as_slice.ensures.entries c.types_by_default.ensures))
