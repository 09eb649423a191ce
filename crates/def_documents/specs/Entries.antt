-- The entries that a property makes (JSON-LD 1.1 Processing Algorithms and API, section 5.1.2, from
-- step 12.8 on).
use Rattle.std.specs.Prelude.{List, [], ◌∷◌, ◌++◌, ℕ, Bool, true, false, Option, Some, None, if◌then◌else◌, map, unwrap_or}
use Rattle.std.specs.List.{flat_map}
use Rattle.lf_model.specs.declared.table.TermTable.{TermTable}
use Rattle.lf_model.specs.declared.table.TermDef.{TermDef}
use Rattle.lf_model.specs.declared.table.Container.{Container}
use Rattle.lf_model.specs.declared.table.Container.TheVariants as container
use Rattle.lf_model.specs.declared.frame.DefaultValue.{DefaultValue}
use Rattle.lf_model.specs.declared.frame.DefaultValue.TheVariants as default
use Rattle.lf_model.specs.JsonData.{JsonValue}
use Rattle.lf_model.specs.TreeData.{TreeEntry, node_entry, literal_entry, list_entry, fallback_entry, empty_fallback}
use Rattle.def_selection.specs.Keywords.{at_none}
use Rattle.def_selection.specs.Iris.{short_keyword}
use Rattle.def_documents.specs.Picks.{Plain, literal_plain, scalar_plain}
use Rattle.def_documents.specs.Grouping.{alone_or_array, grouped, object_of}

-- what a value gives to the entry of its property: a value, a text or scalar of a language map, or
-- nothing
pub data Piece : Type 0 where
  whole_value : JsonValue → Piece
  in_language : List ℕ → JsonValue → Piece
  nothing : Piece

-- a compacted value of a property: its key, the term chosen for it, if any, and what it gives
pub record Filed : Type 0 where
  pub key : List ℕ
  pub term : Option TermDef
  pub piece : Piece

abbrev pub container_of : Option TermDef → Container
container_of None = container.NoContainer
container_of (Some term) = term.container

abbrev pub is_language_container : Container → Bool
is_language_container container.Language = true
is_language_container container.LanguageSet = true
is_language_container _ = false

-- the container has `@set`
abbrev pub has_set : Container → Bool
has_set container.Set = true
has_set container.LanguageSet = true
has_set _ = false

abbrev pub is_list_container : Container → Bool
is_list_container container.List = true
is_list_container _ = false

-- the container is `@set` alone
abbrev pub is_set : Container → Bool
is_set container.Set = true
is_set _ = false

-- a text or scalar under its language, or under the keyword `@none` where it has none
abbrev pub piece_in_language : TermTable → Plain → Piece
piece_in_language table plain =
    in_language (unwrap_or plain.language (short_keyword table at_none)) plain.scalar

abbrev pub default_piece : TermTable → DefaultValue → JsonValue → Piece
default_piece table default.Null json = whole_value json
default_piece table (default.Ref id) json = whole_value json
default_piece table (default.Scalar value datatype language) json =
    piece_in_language table (scalar_plain value datatype language)

-- what a value gives in a language map: literals and scalars go under their languages
abbrev pub mapped_piece : TermTable → TreeEntry → JsonValue → Piece
mapped_piece table (literal_entry literal) json = piece_in_language table (literal_plain literal)
mapped_piece table (fallback_entry value) json = default_piece table value json
mapped_piece table (node_entry node) json = whole_value json
mapped_piece table (list_entry items) json = whole_value json
mapped_piece table empty_fallback json = nothing

-- what a value gives otherwise: an empty default gives nothing, and every other value what it is
-- compacted to
abbrev pub plain_piece : TreeEntry → JsonValue → Piece
plain_piece empty_fallback json = nothing
plain_piece (node_entry node) json = whole_value json
plain_piece (literal_entry literal) json = whole_value json
plain_piece (list_entry items) json = whole_value json
plain_piece (fallback_entry value) json = whole_value json

abbrev pub piece_of : TermTable → Option TermDef → TreeEntry → JsonValue → Piece
piece_of table term value json =
    if is_language_container (container_of term) then mapped_piece table value json
    else plain_piece value json

-- the language and text of each piece of a language map
abbrev pub language_parts : List Filed → List (List ℕ × JsonValue)
language_parts [] = []
language_parts (first ∷ rest) = elim (first.piece) [
  | whole_value json ↦ language_parts rest
  | in_language language scalar ↦ (language, scalar) ∷ language_parts rest
  | nothing ↦ language_parts rest
]

-- the container of the values' term, where one was chosen
abbrev pub group_container : List Filed → Container
group_container [] = container.NoContainer
group_container (first ∷ rest) =
    elim (first.term) [ None ↦ group_container rest | Some term ↦ term.container ]

-- a language map: one value of a language stands alone without `@set`
abbrev pub language_map : List Filed → JsonValue
language_map group =
    object_of (grouped (alone_or_array (has_set (group_container group))) (language_parts group))

-- the elements that the values make, in order; the language map stands at the place of its first
-- text
abbrev pub group_elements : JsonValue → Bool → List Filed → List JsonValue
group_elements languages placed [] = []
group_elements languages placed (first ∷ rest) = elim (first.piece) [
  | whole_value json ↦ json ∷ group_elements languages placed rest
  | in_language language scalar ↦ (if placed then [] else languages ∷ [])
      ++ group_elements languages true rest
  | nothing ↦ group_elements languages placed rest
]

-- the entry of a property under one key
abbrev pub group_entry : List Filed → JsonValue
group_entry group = alone_or_array (is_set (group_container group))
    (group_elements (language_map group) false group)

-- the entries of a property, one under each key that its values have
abbrev pub property_entries : List Filed → List (List ℕ × JsonValue)
property_entries filed = grouped group_entry (map (λ value. (value.key, value)) filed)

-- the entries of several properties, in byte order of their IRIs
abbrev pub entries_in_order : List (List ℕ × List Filed) → List (List ℕ × JsonValue)
entries_in_order properties =
    flat_map (λ property. flat_map property_entries property.1)
    (grouped (λ groups. groups) properties)
