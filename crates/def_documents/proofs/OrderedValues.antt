-- Values and entries have their members in order.
use Rattle.std.proofs.Common.{◌≡◌, ℕ, Bool, true, false, List, [], ◌∷◌, ◌++◌, Option, Some, None, cond, subst, map, ◌||◌}
use Rattle.std.specs.List.{AllByRecursion, flat_map}
use Rattle.lf_rdf.specs.declared.term.Term.{Term}
use Rattle.lf_rdf.specs.declared.term.Term.TheVariants.{Iri, Blank, Literal}
use Rattle.lf_model.specs.declared.table.TermTable.{TermTable}
use Rattle.lf_model.specs.declared.table.TermDef.{TermDef}
use Rattle.lf_model.specs.declared.frame.DefaultValue.{DefaultValue}
use Rattle.lf_model.specs.declared.frame.DefaultValue.TheVariants as default
use Rattle.lf_model.specs.declared.scalar.Scalar.{Scalar}
use Rattle.lf_model.specs.declared.scalar.Scalar.TheVariants as scalar
use Rattle.lf_model.specs.JsonData.{JsonValue, null, text}
use Rattle.lf_model.specs.TreeData.{TreeEntry, node_entry, literal_entry, list_entry, fallback_entry, empty_fallback}
use Rattle.def_selection.specs.Keywords.{at_id, at_type, at_value, at_vocab}
use Rattle.def_selection.specs.Iris.{no_value, short, short_keyword, short_node}
use Rattle.def_documents.specs.Picks.{Plain, literal_plain, scalar_plain}
use Rattle.def_documents.specs.Grouping.{alone_or_array, grouped, object_of}
use Rattle.def_documents.specs.Values.{coerces_to, datatype_entry, is_bare, language_entry, plain_json, reference_json, reference_value, value_object}
use Rattle.def_documents.specs.Entries.{Filed, Piece, whole_value, in_language, nothing, container_of, default_piece, entries_in_order, group_container, group_elements, group_entry, has_set, is_language_container, is_set, language_map, language_parts, mapped_piece, piece_of, plain_piece, property_entries}
use Rattle.def_documents.specs.Nodes.{default_json}
use Rattle.def_documents.specs.Ordered.{IsOrdered}
use Rattle.def_documents.proofs.OrderedKit.{alone-ordered, append-all, flat_map-all, grouped-all, map-all, object-ordered, stepped}

-- entries whose values are in order
abbrev pub EntriesOrdered : List (List ℕ × JsonValue) → Type 0
EntriesOrdered entries = AllByRecursion (λ e. IsOrdered e.1) entries

scalar_plain-ordered : (value : Scalar) (datatype language : Option (List ℕ)) → IsOrdered (scalar_plain value datatype language).scalar
scalar_plain-ordered (scalar.Text lexical) datatype language = tt
scalar_plain-ordered (scalar.Whole number) datatype language = tt
scalar_plain-ordered (scalar.Bool flag) datatype language = tt

literal_plain-ordered : (literal : Term) → IsOrdered (literal_plain literal).scalar
literal_plain-ordered (Iri iri) = tt
literal_plain-ordered (Blank label) = tt
literal_plain-ordered (Literal lexical datatype None) = tt
literal_plain-ordered (Literal lexical datatype (Some language)) = tt

datatype-ordered : (table : TermTable) (datatype : Option (List ℕ)) (entries : List (List ℕ × JsonValue)) → datatype_entry table datatype ≡ Some entries → EntriesOrdered entries
datatype-ordered table None entries e = let same : [] ≡ entries = cc in subst EntriesOrdered same tt
datatype-ordered table (Some datatype) entries e =
    let (compacted, at, made) = stepped (short table datatype true no_value) (λ c. Some ((short_keyword table at_type, text c) ∷ [])) entries e in
    let same : (short_keyword table at_type, text compacted) ∷ [] ≡ entries = cc in
    subst EntriesOrdered same (tt, tt)

language-ordered : (table : TermTable) (language : Option (List ℕ)) → EntriesOrdered (language_entry table language)
language-ordered table None = tt
language-ordered table (Some language) = (tt, tt)

value_object-ordered : (table : TermTable) (plain : Plain) (json : JsonValue) → IsOrdered plain.scalar → value_object table plain ≡ Some json → IsOrdered json
value_object-ordered table plain json ok e =
    let (part, at, made) = stepped (datatype_entry table plain.datatype) (λ part. Some (object_of ((short_keyword table at_value, plain.scalar) ∷ part ++ language_entry table plain.language))) json e in
    let same : object_of ((short_keyword table at_value, plain.scalar) ∷ part ++ language_entry table plain.language) ≡ json = cc in
    subst IsOrdered same
    (object-ordered ((short_keyword table at_value, plain.scalar) ∷ part ++ language_entry table plain.language)
    (ok, append-all (λ entry. IsOrdered entry.1) part (language_entry table plain.language) (datatype-ordered table plain.datatype part at) (language-ordered table plain.language)))

pub plain-ordered : (table : TermTable) (term : Option TermDef) (plain : Plain) (json : JsonValue) → IsOrdered plain.scalar → plain_json table term plain ≡ Some json → IsOrdered json
plain-ordered table term plain json ok e = go (is_bare table term plain) e
  where
    go : (b : Bool) → cond b (Some plain.scalar) (value_object table plain) ≡ Some json → IsOrdered json
    go true e' = let same : plain.scalar ≡ json = cc in subst IsOrdered same ok
    go false e' = value_object-ordered table plain json ok e'

reference_value-ordered : (table : TermTable) (term : Option TermDef) (compacted : List ℕ) → IsOrdered (reference_value table term compacted)
reference_value-ordered table term compacted = go (coerces_to at_id term || coerces_to at_vocab term)
  where
    go : (b : Bool) → IsOrdered (cond b (text compacted) (object_of ((short_keyword table at_id, text compacted) ∷ [])))
    go true = tt
    go false = object-ordered ((short_keyword table at_id, text compacted) ∷ []) (tt, tt)

pub reference-ordered : (table : TermTable) (term : Option TermDef) (id : Term) (json : JsonValue) → reference_json table term id ≡ Some json → IsOrdered json
reference-ordered table term id json e =
    let (compacted, at, made) = stepped (short_node table (coerces_to at_vocab term) id) (λ c. Some (reference_value table term c)) json e in
    let same : reference_value table term compacted ≡ json = cc in
    subst IsOrdered same (reference_value-ordered table term compacted)

pub default-ordered : (table : TermTable) (term : Option TermDef) (value : DefaultValue) (json : JsonValue) → default_json table term value ≡ Some json → IsOrdered json
default-ordered table term default.Null json e = let same : null ≡ json = cc in subst IsOrdered same tt
default-ordered table term (default.Ref id) json e = reference-ordered table term id json e
default-ordered table term (default.Scalar value datatype language) json e =
    plain-ordered table term (scalar_plain value datatype language) json (scalar_plain-ordered value datatype language) e

pub literal-ordered : (table : TermTable) (term : Option TermDef) (literal : Term) (json : JsonValue) → plain_json table term (literal_plain literal) ≡ Some json → IsOrdered json
literal-ordered table term literal json e = plain-ordered table term (literal_plain literal) json (literal_plain-ordered literal) e

-- a piece whose value is in order
abbrev pub PieceOrdered : Piece → Type 0
PieceOrdered (whole_value json) = IsOrdered json
PieceOrdered (in_language language json) = IsOrdered json
PieceOrdered nothing = Unit {0}

abbrev pub FiledOrdered : List Filed → Type 0
FiledOrdered filed = AllByRecursion (λ f. PieceOrdered f.piece) filed

default_piece-ordered : (table : TermTable) (value : DefaultValue) (json : JsonValue) → IsOrdered json → PieceOrdered (default_piece table value json)
default_piece-ordered table default.Null json ok = ok
default_piece-ordered table (default.Ref id) json ok = ok
default_piece-ordered table (default.Scalar value datatype language) json ok = scalar_plain-ordered value datatype language

mapped-ordered : (table : TermTable) (value : TreeEntry) (json : JsonValue) → IsOrdered json → PieceOrdered (mapped_piece table value json)
mapped-ordered table (literal_entry literal) json ok = literal_plain-ordered literal
mapped-ordered table (fallback_entry value) json ok = default_piece-ordered table value json ok
mapped-ordered table (node_entry value) json ok = ok
mapped-ordered table (list_entry items) json ok = ok
mapped-ordered table empty_fallback json ok = tt

whole-ordered : (value : TreeEntry) (json : JsonValue) → IsOrdered json → PieceOrdered (plain_piece value json)
whole-ordered (literal_entry literal) json ok = ok
whole-ordered (fallback_entry value) json ok = ok
whole-ordered (node_entry value) json ok = ok
whole-ordered (list_entry items) json ok = ok
whole-ordered empty_fallback json ok = tt

pub piece-ordered : (table : TermTable) (term : Option TermDef) (value : TreeEntry) (json : JsonValue) → IsOrdered json → PieceOrdered (piece_of table term value json)
piece-ordered table term value json ok = go (is_language_container (container_of term))
  where
    go : (b : Bool) → PieceOrdered (cond b (mapped_piece table value json) (plain_piece value json))
    go true = mapped-ordered table value json ok
    go false = whole-ordered value json ok

parts-ordered : (filed : List Filed) → FiledOrdered filed → EntriesOrdered (language_parts filed)
parts-ordered [] all = tt
parts-ordered (first ∷ rest) all = go (first.piece) all.0 (parts-ordered rest all.1)
  where
    go : (piece : Piece) → PieceOrdered piece → EntriesOrdered (language_parts rest)
        → EntriesOrdered (elim piece [ whole_value json ↦ language_parts rest | in_language language scalar ↦ (language, scalar) ∷ language_parts rest | nothing ↦ language_parts rest ])
    go (whole_value json) ok ih = ih
    go (in_language language json) ok ih = (ok, ih)
    go nothing ok ih = ih

language_map-ordered : (filed : List Filed) → FiledOrdered filed → IsOrdered (language_map filed)
language_map-ordered filed all =
    let set : Bool = has_set (group_container filed) in
    object-ordered (grouped (alone_or_array set) (language_parts filed))
    (grouped-all IsOrdered IsOrdered (alone_or_array set) (alone-ordered set) (language_parts filed) (parts-ordered filed all))

group_elements-ordered : (languages : JsonValue) → IsOrdered languages → (placed : Bool) (filed : List Filed) → FiledOrdered filed → AllByRecursion IsOrdered (group_elements languages placed filed)
group_elements-ordered languages fine placed [] all = tt
group_elements-ordered languages fine placed (first ∷ rest) all =
    go (first.piece) all.0 (group_elements-ordered languages fine placed rest all.1) (group_elements-ordered languages fine true rest all.1)
  where
    once : (b : Bool) → AllByRecursion IsOrdered (cond b [] (languages ∷ []))
    once true = tt
    once false = (fine, tt)

    go : (piece : Piece) → PieceOrdered piece → AllByRecursion IsOrdered (group_elements languages placed rest) → AllByRecursion IsOrdered (group_elements languages true rest)
        → AllByRecursion IsOrdered (elim piece [
          | whole_value json ↦ json ∷ group_elements languages placed rest
          | in_language language scalar ↦ cond placed [] (languages ∷ []) ++ group_elements languages true rest
          | nothing ↦ group_elements languages placed rest
        ])
    go (whole_value json) ok ih ih' = (ok, ih)
    go (in_language language json) ok ih ih' = append-all IsOrdered (cond placed [] (languages ∷ [])) (group_elements languages true rest) (once placed) ih'
    go nothing ok ih ih' = ih

group_entry-ordered : (filed : List Filed) → FiledOrdered filed → IsOrdered (group_entry filed)
group_entry-ordered filed all =
    alone-ordered (is_set (group_container filed)) (group_elements (language_map filed) false filed)
    (group_elements-ordered (language_map filed) (language_map-ordered filed all) false filed all)

property-ordered : (filed : List Filed) → FiledOrdered filed → EntriesOrdered (property_entries filed)
property-ordered filed all =
    grouped-all (λ f. PieceOrdered f.piece) IsOrdered group_entry group_entry-ordered (map (λ f. (f.key, f)) filed)
    (map-all (λ (e : List ℕ × Filed). PieceOrdered e.1.piece) (λ f. (f.key, f)) filed all)

-- the entries of several properties
abbrev pub GroupsOrdered : List (List ℕ × List Filed) → Type 0
GroupsOrdered groups = AllByRecursion (λ g. FiledOrdered g.1) groups

pub entries-ordered : (groups : List (List ℕ × List Filed)) → GroupsOrdered groups → EntriesOrdered (entries_in_order groups)
entries-ordered groups all =
    flat_map-all (λ (g : List ℕ × List (List Filed)). AllByRecursion FiledOrdered g.1) (λ (e : List ℕ × JsonValue). IsOrdered e.1)
    (λ g. flat_map property_entries g.1)
    (λ g each. flat_map-all FiledOrdered (λ (e : List ℕ × JsonValue). IsOrdered e.1) property_entries property-ordered g.1 each)
    (grouped (λ gs. gs) groups)
    (grouped-all FiledOrdered (AllByRecursion FiledOrdered) (λ gs. gs) (λ gs each. each) groups all)
