-- The parts of a language map, value by value.
use Rattle.std.proofs.Common.{◌≡◌, ℕ, List, [], ◌∷◌, ◌++◌, refl, ap, sym, ◌∙◌}
use Rattle.lf_model.specs.JsonData.{JsonValue}
use Rattle.def_documents.specs.Entries.{Filed, Piece, in_language, language_parts, nothing, whole_value}

-- ---- the parts of a language map

pub whole-parts : (f : Filed) (rest : List Filed) (json : JsonValue) → f.piece ≡ whole_value json → language_parts (f ∷ rest) ≡ language_parts rest
whole-parts f rest json e = rw e refl

pub language-parts : (f : Filed) (rest : List Filed) (language : List ℕ) (scalar : JsonValue) → f.piece ≡ in_language language scalar
    → language_parts (f ∷ rest) ≡ (language, scalar) ∷ language_parts rest
language-parts f rest language scalar e = rw e refl

pub nothing-parts : (f : Filed) (rest : List Filed) → f.piece ≡ nothing → language_parts (f ∷ rest) ≡ language_parts rest
nothing-parts f rest e = rw e refl

pub parts-apart : (f : Filed) (rest : List Filed) → language_parts (f ∷ rest) ≡ language_parts (f ∷ []) ++ language_parts rest
parts-apart f rest = go (f.piece) refl
  where
    go : (p : Piece) → f.piece ≡ p → language_parts (f ∷ rest) ≡ language_parts (f ∷ []) ++ language_parts rest
    go (whole_value json) e = whole-parts f rest json e ∙ ap (λ l. l ++ language_parts rest) (sym (whole-parts f [] json e))
    go (in_language language scalar) e =
        language-parts f rest language scalar e ∙ ap (λ l. l ++ language_parts rest) (sym (language-parts f [] language scalar e))
    go nothing e = nothing-parts f rest e ∙ ap (λ l. l ++ language_parts rest) (sym (nothing-parts f [] e))
