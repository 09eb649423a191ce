use Rattle.std.proofs.Common.{drop, map}
use Rattle.lf_model.specs.declared.json.Json.{Json}
use Rattle.lf_model.specs.JsonBridge.{json_data}
use Rattle.def_documents.specs.Entries.{language_parts}
use Rattle.lf_compact.specs.Groups.{Groups, Hold, PutsAll}
use Rattle.lf_compact.specs.Pieces.{filed_data}
use Rattle.lf_compact.proofs.entry.languages_of.Given as goal

abbrev pub invariant-loop-filed : goal.invariant-loop-filed
invariant-loop-filed l =
    (final : Groups Json) → PutsAll json_data l.parts final (language_parts (map filed_data (drop l.filed-index l.group)))
    → Hold json_data final (language_parts (map filed_data l.group))
