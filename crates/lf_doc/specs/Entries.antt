-- The entry of a context in the map of a document.
use Rattle.std.specs.Prelude.{List, [], ◌∷◌, ℕ, Option, Some, None}
use Rattle.lf_model.specs.JsonData.{JsonValue}
use Rattle.def_selection.specs.Keywords.{at_context}

-- the entry of `@context`, where a context is shown
abbrev pub entry_of : Option JsonValue → List (List ℕ × JsonValue)
entry_of None = []
entry_of (Some context) = (at_context, context) ∷ []
