-- What must stand in the map of a frame for an error to come from it (JSON-LD 1.1 Framing, section
-- 4.1).
use Rattle.std.specs.Prelude.{◌≡◌, List, [], ◌∷◌, ℕ, Bool, true, false, not, ◌&&◌, ◌||◌, Option, Result, Ok, Err, IsTrue, codes}
use Rattle.std.specs.List.{list_any}
use Rattle.lf_rdf.specs.Equality.{text_eq}
use Rattle.lf_model.specs.declared.table.TermTable.{TermTable}
use Rattle.lf_model.specs.declared.table.TermDef.{TermDef}
use Rattle.lf_model.specs.declared.error.LdError.{LdError}
use Rattle.lf_model.specs.declared.error.LdError.TheVariants as ld
use Rattle.lf_model.specs.JsonData.{JsonValue, JsonItems, JsonMembers, null, truth, whole, fraction, text, array, object, no_items, item, no_members, member}
use Rattle.def_contexts.specs.Keywords.{one_of}
use Rattle.def_contexts.specs.GivenValues.{Coercion, to_id, to_vocab, to_datatype, uncoerced, coercion_of}
use Rattle.def_contexts.specs.NodeTests.{id_test_of, type_test_of}
use Rattle.def_contexts.specs.FrameFlags.{embed_key, explicit_key, require_all_key, omit_default_key, alone, embed_given}
use Rattle.def_contexts.specs.FrameKeys.{Meaning, dropped, keyword, property, reverse_property, meaning_of, is_the_keyword, FrameKey, flag_key, default_key, id_key, type_key, graph_key, reverse_key, value_key, language_key, list_key, other_key, frame_key}
use Rattle.def_contexts.specs.Places.{under_language}
use Rattle.def_contexts.specs.SubFrames.{top_frame}

abbrev pub makes_reference : Coercion → Bool
makes_reference to_id = true
makes_reference to_vocab = true
makes_reference (to_datatype iri) = false
makes_reference uncoerced = false

-- whether a text under a term is a reference
abbrev pub refers : Option TermDef → Bool
refers term = makes_reference (coercion_of term)

abbrev pub is_truth : JsonValue → Bool
is_truth (truth b) = true
is_truth _ = false

abbrev pub is_no_object : JsonValue → Bool
is_no_object (object _) = false
is_no_object _ = true

abbrev pub are_no_map : JsonItems → Bool
are_no_map no_items = false
are_no_map (item value no_items) = is_no_object value
are_no_map (item value (item _ _)) = true

abbrev pub is_refused : {A : Type 0} → Result A LdError → Bool
is_refused (Ok value) = false
is_refused (Err error) = true

-- a value that `@embed` can't have, also alone in an array
abbrev pub is_no_embed : JsonValue → Bool
is_no_embed value = is_refused (embed_given (alone value))

-- a value that asks for no ids, and one that asks for no types and gives none
abbrev pub is_no_id : TermTable → JsonValue → Bool
is_no_id table value = is_refused (id_test_of table value)

abbrev pub is_no_type : TermTable → JsonValue → Bool
is_no_type table value = is_refused (type_test_of table value)

-- a value that is neither a map nor an array of at most one map
abbrev pub is_no_map : JsonValue → Bool
is_no_map (object _) = false
is_no_map (array items) = are_no_map items
is_no_map _ = true

-- a value that a property can't have: a fraction, or an array of several values, also in an array
-- of one
abbrev mutual
  pub is_no_value : JsonValue → Bool
  is_no_value fraction = true
  is_no_value (array items) = are_no_value items
  is_no_value null = false
  is_no_value (truth b) = false
  is_no_value (whole n) = false
  is_no_value (text t) = false
  is_no_value (object _) = false

  pub are_no_value : JsonItems → Bool
  are_no_value no_items = false
  are_no_value (item value no_items) = is_no_value value
  are_no_value (item value (item _ _)) = true

-- a key gives this property
abbrev pub gives : List ℕ → Meaning → Bool
gives iri (property own term) = text_eq iri own
gives iri _ = false

-- a key gives reverse properties: `@reverse`, or a reverse term
abbrev pub gives_reverses : Meaning → Bool
gives_reverses (keyword name) = text_eq name (codes "@reverse")
gives_reverses (reverse_property iri) = true
gives_reverses _ = false

-- What a keyword and its value must be for `invalid frame`, with the keys before it: a flag that is
-- neither true nor false, a bad `@graph`, a second source of reverse properties, or another keyword
-- than `@id`, `@type` and `@embed`
abbrev pub is_misused : List Meaning → FrameKey → JsonValue → Bool
is_misused before (flag_key embed_key) value = false
is_misused before (flag_key explicit_key) value = not (is_truth (alone value))
is_misused before (flag_key require_all_key) value = not (is_truth (alone value))
is_misused before (flag_key omit_default_key) value = not (is_truth (alone value))
is_misused before id_key value = false
is_misused before type_key value = false
is_misused before graph_key value = is_no_map value
is_misused before reverse_key value = list_any gives_reverses before
is_misused before default_key value = true
is_misused before value_key value = true
is_misused before language_key value = true
is_misused before list_key value = true
is_misused before other_key value = true

-- the same of a key: a property is given a second time, has a value that none can have, or stands
-- under a term with the container `@language`
abbrev pub is_misread : List Meaning → Meaning → JsonValue → Bool
is_misread before dropped value = false
is_misread before (keyword name) value = is_misused before (frame_key name) value
is_misread before (property iri term) value =
    list_any (gives iri) before || (is_no_value value || under_language term)
is_misread before (reverse_property iri) value = list_any gives_reverses before

-- what a key and its value must be for an error of frames to come from its map, with the keys
-- before it
abbrev pub speaks : LdError → TermTable → List Meaning → Meaning → JsonValue → Bool
speaks ld.InvalidFrame table before m value = is_misread before m value
speaks ld.CollidingKeywords table before (keyword name) value =
    list_any (is_the_keyword name) before
speaks ld.InvalidEmbedValue table before (keyword name) value =
    text_eq name (codes "@embed") && is_no_embed value
speaks ld.InvalidTypeValue table before (keyword name) value =
    text_eq name (codes "@type") && is_no_type table value
speaks ld.InvalidIdValue table before (keyword name) value =
    text_eq name (codes "@id") && is_no_id table value
speaks ld.InvalidIdValue table before (property iri term) value = refers term
speaks ld.InvalidReverseValue table before (keyword name) value = text_eq name (codes "@reverse")
speaks ld.InvalidReverseValue table before (reverse_property iri) value = true
speaks ld.InvalidValueObject table before (keyword name) value =
    text_eq name (codes "@value") || text_eq name (codes "@language")
speaks _ _ _ _ _ = false

-- whether the value of a key holds frames
abbrev pub holds_frames : Meaning → Bool
holds_frames dropped = false
holds_frames (keyword name) =
    one_of (codes "@graph" ∷ codes "@list" ∷ codes "@reverse" ∷ codes "@set" ∷ []) name
holds_frames (property iri term) = true
holds_frames (reverse_property iri) = true

-- whether a map of a frame has such a key, or a map within it
abbrev mutual
  pub value_speaks : LdError → TermTable → JsonValue → Bool
  value_speaks e table (array items) = items_speak e table items
  value_speaks e table (object members) = members_speak e table [] members
  value_speaks e table null = false
  value_speaks e table (truth b) = false
  value_speaks e table (whole n) = false
  value_speaks e table fraction = false
  value_speaks e table (text t) = false

  pub items_speak : LdError → TermTable → JsonItems → Bool
  items_speak e table no_items = false
  items_speak e table (item value rest) = value_speaks e table value || items_speak e table rest

  pub members_speak : LdError → TermTable → List Meaning → JsonMembers → Bool
  members_speak e table before no_members = false
  members_speak e table before (member key value rest) =
      speaks e table before (meaning_of table key) value
      || ((holds_frames (meaning_of table key) && value_speaks e table value)
      || members_speak e table (meaning_of table key ∷ before) rest)

-- an error of a top map comes only where a key in it speaks of it
abbrev pub FrameErrorsHaveCauses : Type 0
FrameErrorsHaveCauses =
    (table : TermTable) (members : JsonMembers) (e : LdError) → top_frame table members ≡ Err e →
    IsTrue (members_speak e table [] members)
