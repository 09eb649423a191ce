-- The parts of a language map, value by value.
use Rattle.std.proofs.Common.{◌≡◌, ℕ, ◌+◌, ◌<◌, ◌≤◌, List, [], ◌∷◌, ◌++◌, length, drop, get_or, map, refl, ap, sym, ◌∙◌, subst}
use Rattle.std.proofs.lemmas.List.{at_drop_more, at_drop_all}
use Rattle.lf_model.specs.declared.json.Json.{Json}
use Rattle.lf_model.specs.JsonBridge.{json_data}
use Rattle.def_documents.specs.Entries.{language_parts}
use Rattle.lf_compact.specs.declared.pieces.Filed.{Filed}
use Rattle.lf_compact.specs.Groups.{Groups, PutsAll}
use Rattle.lf_compact.specs.Pieces.{filed_data}
use Rattle.lf_compact.proofs.Elements.{parts-apart}
use Rattle.lf_compact.proofs.Put.{puts-none, puts-then}

pub languages-step : (before mid after : Groups Json) (group : List Filed) (i : ℕ) (filed : Filed) → i < length group → filed ≡ get_or group i filed
    → PutsAll json_data before mid (language_parts (filed_data filed ∷ []))
    → PutsAll json_data mid after (language_parts (map filed_data (drop (i + 1) group)))
    → PutsAll json_data before after (language_parts (map filed_data (drop i group)))
languages-step before mid after group i filed below here one more =
    subst (PutsAll json_data before after)
    (sym
    (at_drop_more (λ xs. language_parts (map filed_data xs)) group i filed below
    ∙ ap (λ w. language_parts (map filed_data (w ∷ drop (i + 1) group))) (sym here)
    ∙ parts-apart (filed_data filed) (map filed_data (drop (i + 1) group))))
    (puts-then json_data before mid after (language_parts (filed_data filed ∷ [])) (language_parts (map filed_data (drop (i + 1) group))) one more)

pub languages-done : (parts : Groups Json) (group : List Filed) (i : ℕ) → length group ≤ i
    → PutsAll json_data parts parts (language_parts (map filed_data (drop i group)))
languages-done parts group i past =
    subst (PutsAll json_data parts parts) (sym (at_drop_all (λ xs. language_parts (map filed_data xs)) group i past)) (puts-none json_data parts)
