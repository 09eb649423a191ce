-- What the keys of a frame's map are, and what the map is by its keys (JSON-LD 1.1 Framing, section
-- 4.1).
use Rattle.std.specs.Prelude.{List, [], ◌∷◌, ℕ, Bool, true, false, ◌&&◌, ◌||◌, if◌then◌else◌, Option, Some, None, codes}
use Rattle.std.specs.List.{list_any}
use Rattle.lf_rdf.specs.Equality.{text_eq}
use Rattle.lf_model.specs.declared.table.TermTable.{TermTable}
use Rattle.lf_model.specs.declared.table.TermDef.{TermDef}
use Rattle.lf_model.specs.JsonData.{JsonValue, JsonItems, JsonMembers, null, truth, whole, fraction, text, array, object, no_items, item, no_members, member}
use Rattle.def_contexts.specs.Texts.{is_absolute}
use Rattle.def_contexts.specs.Keywords.{is_keyword}
use Rattle.def_contexts.specs.Expansion.{expand, find_term}
use Rattle.def_contexts.specs.FrameFlags.{FlagKey, embed_key, explicit_key, require_all_key, omit_default_key}

-- what a key is: it is dropped, or it is a keyword, a property with its term, or a reverse property
pub data Meaning : Type 0 where
  dropped : Meaning
  keyword : List ℕ → Meaning
  property : List ℕ → Option TermDef → Meaning
  reverse_property : List ℕ → Meaning

abbrev pub reverse_iri : Option TermDef → Option (List ℕ)
reverse_iri (Some d) = if d.reverse then d.iri else None
reverse_iri None = None

abbrev pub expanded_meaning : Option TermDef → Option (List ℕ) → Meaning
expanded_meaning term None = dropped
expanded_meaning term (Some iri) =
    if is_keyword iri then keyword iri
    else if is_absolute iri then property iri term
    else dropped

abbrev pub meaning_by : Option (List ℕ) → Option TermDef → Option (List ℕ) → Meaning
meaning_by (Some iri) term expansion = reverse_property iri
meaning_by None term expansion = expanded_meaning term expansion

abbrev pub meaning_with : TermTable → List ℕ → Option TermDef → Meaning
meaning_with table key term = meaning_by (reverse_iri term) term (expand table key true)

-- what a key is by a term table
unfoldable pub meaning_of : TermTable → List ℕ → Meaning
meaning_of table key = meaning_with table key (find_term key table.terms)

-- whether a key is a given keyword
abbrev pub is_the_keyword : List ℕ → Meaning → Bool
is_the_keyword name (keyword own) = text_eq name own
is_the_keyword name _ = false

-- a key that is dropped isn't kept, nor is a property whose value stands for null
abbrev pub keep : Meaning → Bool → List Meaning → List Meaning
keep dropped is_null rest = rest
keep (property iri term) true rest = rest
keep (property iri term) false rest = property iri term ∷ rest
keep (keyword name) is_null rest = keyword name ∷ rest
keep (reverse_property iri) is_null rest = reverse_property iri ∷ rest

-- `@set` as the only key
abbrev pub is_set_only : List Meaning → Bool
is_set_only (m ∷ []) = is_the_keyword (codes "@set") m
is_set_only _ = false

-- what a property is dropped by: null, alone or in an array or under `@set`
abbrev mutual
  pub stands_for_null : TermTable → JsonValue → Bool
  stands_for_null table null = true
  stands_for_null table (array items) = item_for_null table items
  stands_for_null table (object members) =
      is_set_only (kept table members) && set_for_null table members
  stands_for_null table (truth b) = false
  stands_for_null table (whole n) = false
  stands_for_null table fraction = false
  stands_for_null table (text t) = false

  pub item_for_null : TermTable → JsonItems → Bool
  item_for_null table no_items = false
  item_for_null table (item value no_items) = stands_for_null table value
  item_for_null table (item value (item _ _)) = false

  -- the meanings of the keys that are kept
  pub kept : TermTable → JsonMembers → List Meaning
  kept table no_members = []
  kept table (member key value rest) =
      keep (meaning_of table key) (stands_for_null table value) (kept table rest)

  pub set_for_null : TermTable → JsonMembers → Bool
  set_for_null table no_members = false
  set_for_null table (member key value rest) =
      (is_the_keyword (codes "@set") (meaning_of table key) && stands_for_null table value)
      || set_for_null table rest

-- whether one of the keys is a given keyword
abbrev pub has_keyword : List ℕ → List Meaning → Bool
has_keyword name meanings = list_any (is_the_keyword name) meanings

-- what a map is, before its keys are read
pub data MapClass : Type 0 where
  value_map : MapClass
  list_map : MapClass
  set_map : MapClass
  node_map : MapClass

abbrev pub class_of_kept : List Meaning → MapClass
class_of_kept meanings =
    if has_keyword (codes "@value") meanings || has_keyword (codes "@language") meanings
    then value_map
    else if has_keyword (codes "@list") meanings then list_map
    else if is_set_only meanings then set_map
    else node_map

abbrev pub class_of : TermTable → JsonMembers → MapClass
class_of table members = class_of_kept (kept table members)

abbrev pub is_keyword_meaning : Meaning → Bool
is_keyword_meaning (keyword name) = true
is_keyword_meaning _ = false

-- whether each key is a keyword
abbrev pub are_all_keywords : TermTable → JsonMembers → Bool
are_all_keywords table no_members = true
are_all_keywords table (member key value rest) =
    is_keyword_meaning (meaning_of table key) && are_all_keywords table rest

-- the keywords that a frame may hold
pub data FrameKey : Type 0 where
  flag_key : FlagKey → FrameKey
  default_key : FrameKey
  id_key : FrameKey
  type_key : FrameKey
  graph_key : FrameKey
  reverse_key : FrameKey
  value_key : FrameKey
  language_key : FrameKey
  list_key : FrameKey
  other_key : FrameKey

abbrev pub frame_key : List ℕ → FrameKey
frame_key name =
    if text_eq name (codes "@embed") then flag_key embed_key
    else if text_eq name (codes "@explicit") then flag_key explicit_key
    else if text_eq name (codes "@requireAll") then flag_key require_all_key
    else if text_eq name (codes "@omitDefault") then flag_key omit_default_key
    else if text_eq name (codes "@default") then default_key
    else if text_eq name (codes "@id") then id_key
    else if text_eq name (codes "@type") then type_key
    else if text_eq name (codes "@graph") then graph_key
    else if text_eq name (codes "@reverse") then reverse_key
    else if text_eq name (codes "@value") then value_key
    else if text_eq name (codes "@language") then language_key
    else if text_eq name (codes "@list") then list_key
    else other_key
