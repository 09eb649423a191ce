-- What a compacted value gives to the entry of its property, as definitions see it.
use Rattle.std.specs.Prelude.{◌≡◌, List, ◌∷◌, ◌++◌, ℕ, Option, Some, None, Vec, map, not, is_some}
use Rattle.std.specs.Option.{option_copied}
use Rattle.std.specs.declared.alloc.Global.{Global}
use Rattle.lf_model.specs.declared.json.Json.{Json}
use Rattle.lf_model.specs.JsonData.{JsonValue}
use Rattle.lf_model.specs.JsonBridge.{json_data}
use Rattle.def_documents.specs.Entries as def
use Rattle.lf_compact.specs.declared.pieces.Piece.{Piece}
use Rattle.lf_compact.specs.declared.pieces.Piece.TheVariants as p
use Rattle.lf_compact.specs.declared.pieces.Filed.{Filed}
use Rattle.lf_compact.specs.declared.property.FiledProperty.{FiledProperty}

abbrev pub piece_data : Piece → def.Piece
piece_data (p.Whole json) = def.whole_value (json_data json)
piece_data (p.InLanguage language scalar) = def.in_language language (json_data scalar)
piece_data p.Nothing = def.nothing

abbrev pub filed_data : Filed → def.Filed
filed_data filed =
    record { key = filed.key; term = option_copied filed.term; piece = piece_data filed.piece }

-- the language map that waits for its place, where it does, is this
abbrev pub IsMap : JsonValue → Option Json → Type 0
IsMap languages None = Unit {0}
IsMap languages (Some map) = json_data map ≡ languages

abbrev pub filed_list : Vec Filed Global → List def.Filed
filed_list values = map filed_data values.items

-- a property's IRI and its values
abbrev pub property_data : FiledProperty → List ℕ × List def.Filed
property_data property = (property.iri, filed_list property.values)

abbrev pub properties_data : Vec FiledProperty Global → List (List ℕ × List def.Filed)
properties_data properties = map property_data properties.items

-- values by their keys
abbrev pub keyed : List def.Filed → List (List ℕ × def.Filed)
keyed values = map (λ value. (value.key, value)) values

-- a piece that follows: the elements after it, and what they were to be before
abbrev pub Follows :
    JsonValue → List Json → Option Json → List Json → Option Json → def.Piece → Type 0
Follows languages before waited after waits piece =
    (filed : def.Filed) (rest : List def.Filed) → filed.piece ≡ piece
    → map json_data after ++ def.group_elements languages (not (is_some waits)) rest
    ≡ map json_data before ++ def.group_elements languages (not (is_some waited)) (filed ∷ rest)
