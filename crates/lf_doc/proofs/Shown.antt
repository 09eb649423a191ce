-- Contexts that have something to say.
use Rattle.std.proofs.Common.{◌≡◌, [], ◌∷◌, List, refl, sym, subst}
use Rattle.lf_sorted.specs.declared.map.Entry.{Entry}
use Rattle.lf_model.specs.declared.json.Json.{Json}
use Rattle.lf_model.specs.declared.json.Json.TheVariants as j
use Rattle.lf_model.specs.JsonBridge.{json_data}
use Rattle.lf_model.proofs.JsonLemmas.{json_data-List, json_data-Map}
use Rattle.def_documents.specs.PrintedContext.{shown}
use Rattle.def_selection.specs.Keywords.{at_context}

pub shown-list : (items : List Json) → (items ≡ [] → ⊥) → shown (json_data (j.List items)) ≡ (at_context, json_data (j.List items)) ∷ []
shown-list [] some = absurd (some refl)
shown-list (x ∷ xs) some = subst (λ v. shown v ≡ (at_context, v) ∷ []) (sym (json_data-List (x ∷ xs))) refl

pub shown-map : (entries : List (Entry Json)) → (entries ≡ [] → ⊥) → shown (json_data (j.Map entries)) ≡ (at_context, json_data (j.Map entries)) ∷ []
shown-map [] some = absurd (some refl)
shown-map (e ∷ es) some = subst (λ v. shown v ≡ (at_context, v) ∷ []) (sym (json_data-Map (e ∷ es))) refl
