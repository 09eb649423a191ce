use Rattle.std.proofs.Common.{List, Bor, Ok, sym, ap, subst, ◌∙◌, arith}
use Rattle.lf_sorted.specs.declared.map.Entry.{Entry}
use Rattle.lf_model.specs.declared.json.Json.{Json}
use Rattle.lf_model.specs.JsonData.{array}
use Rattle.lf_model.specs.JsonBridge.{json_data, items_data, members_data}
use Rattle.def_contexts.specs.Frames.{one_map}
use Rattle.lf_expand.specs.Gives.{Gives}
use Rattle.lf_expand.proofs.Gathered.{no_item_left, one_item}
use Rattle.lf_expand.proofs.Values.{map_value, list_value}
use Rattle.lf_expand.proofs.Tops.{one_alone}
use Rattle.lf_expand.proofs.expand.one_map.Goals as goal

pub returns-in-Map : goal.returns-in-Map
returns-in-Map c =
    ap one_map (map_value c.args.json.now c.in-Map.members c.in-Map.is) ∙ ap (λ ms. Ok (members_data ms)) (sym c.as_slice.ensures.entries)

pub returns-in-empty : goal.returns-in-empty
returns-in-empty c =
    ap one_map (list_value c.args.json.now c.in-List.items c.in-List.is)
    ∙ ap (λ xs. one_map (array (items_data xs))) (sym c.as_slice-in-List.ensures)
    ∙ ap (λ given. one_map (array given)) (no_item_left c.as_slice-in-List.result.now (omega arith))

pub returns-in-empty-rest : goal.returns-in-empty-rest
returns-in-empty-rest c =
    subst (λ d. Gives (λ (members : Bor (List (Entry Json))). members_data members.now) c.map_alone.result d)
    (sym (ap one_map (list_value c.args.json.now c.in-List.items c.in-List.is)
    ∙ ap (λ xs. one_map (array (items_data xs))) (sym c.as_slice-in-List.ensures)
    ∙ ap (λ given. one_map (array given)) (one_item c.as_slice-in-List.result.now c.only-item.result (omega arith) c.only-item.is)
    ∙ one_alone (json_data c.only-item.result)))
    c.map_alone.ensures
