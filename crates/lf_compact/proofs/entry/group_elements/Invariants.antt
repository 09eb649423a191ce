use Rattle.std.proofs.Common.{◌≡◌, List, ◌++◌, map, not}
use Rattle.std.specs.Prelude.{is_some}
use Rattle.lf_model.specs.JsonData.{JsonValue}
use Rattle.lf_model.specs.JsonBridge.{json_data}
use Rattle.def_documents.specs.Entries.{group_elements}
use Rattle.def_documents.specs.Entries as def
use Rattle.lf_compact.specs.Pieces.{filed_data, IsMap}
use Rattle.lf_compact.proofs.entry.group_elements.Given as goal

abbrev pub invariant-loop-filed : goal.invariant-loop-filed
invariant-loop-filed l =
    (languages : JsonValue) → IsMap languages l.initial.waiting
    → IsMap languages l.waiting
    × ((rest : List def.Filed) → map json_data l.elements.items ++ group_elements languages (not (is_some l.waiting)) rest
    ≡ group_elements languages (not (is_some l.initial.waiting)) (map filed_data l.yielded ++ rest))
