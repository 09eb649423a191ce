-- What a value asks of a term (JSON-LD 1.1 Processing Algorithms and API, section 6.2: the
-- containers, the type or language and its value that IRI compaction looks for).
use Rattle.std.specs.Prelude.{List, [], ◌∷◌, ◌++◌, ℕ, Bool, true, false, ◌&&◌, Option, Some, None, if◌then◌else◌}
use Rattle.lf_rdf.specs.declared.term.Term.{Term}
use Rattle.lf_rdf.specs.declared.term.Term.TheVariants.{Iri, Blank, Literal}
use Rattle.lf_rdf.specs.Canonical.{id_of}
use Rattle.lf_rdf.specs.Equality.{text_eq}
use Rattle.lf_rdf.specs.Vocabulary.{xsd_string}
use Rattle.lf_model.specs.declared.table.Container.{Container}
use Rattle.lf_model.specs.declared.table.Container.TheVariants as container
use Rattle.lf_model.specs.declared.table.TermTable.{TermTable}
use Rattle.lf_model.specs.declared.table.TermDef.{TermDef}
use Rattle.lf_model.specs.declared.frame.DefaultValue.{DefaultValue}
use Rattle.lf_model.specs.declared.frame.DefaultValue.TheVariants as default
use Rattle.lf_model.specs.declared.scalar.Scalar.{Scalar}
use Rattle.lf_model.specs.declared.scalar.Scalar.TheVariants as scalar
use Rattle.lf_model.specs.JsonData.{JsonValue, text, whole, truth}
use Rattle.lf_model.specs.TreeData.{TreeNode, tree, TreeEntry, node_entry, literal_entry, list_entry, fallback_entry, empty_fallback, TreeEntries, no_entries, entry}
use Rattle.def_selection.specs.declared.pick.Pick.{Pick}
use Rattle.def_selection.specs.declared.pick.PickKind.{PickKind}
use Rattle.def_selection.specs.declared.pick.PickKind.TheVariants.{AnyKind, LanguageKind, TypeKind}
use Rattle.def_selection.specs.Keywords.{at_any, at_id, at_none, at_null, at_reverse, at_vocab}
use Rattle.def_selection.specs.Chosen.{stands_for}
use Rattle.def_selection.specs.Iris.{no_value, short, term_named}

-- a value object: its scalar, its datatype and its language
pub record Plain : Type 0 where
  pub scalar : JsonValue
  pub datatype : Option (List ℕ)
  pub language : Option (List ℕ)

-- a datatype that counts: a literal of `xsd:string` has none
abbrev pub counted_datatype : List ℕ → Option (List ℕ)
counted_datatype datatype = if text_eq datatype xsd_string then None else Some datatype

-- the value object of a literal; one with a language has no datatype
abbrev pub literal_plain : Term → Plain
literal_plain (Literal lexical datatype (Some language)) =
    record { scalar = text lexical; datatype = None; language = Some language }
literal_plain (Literal lexical datatype None) =
    record { scalar = text lexical; datatype = counted_datatype datatype; language = None }
literal_plain (Iri iri) = record { scalar = text iri; datatype = None; language = None }
literal_plain (Blank label) =
    record { scalar = text (id_of (Blank label)); datatype = None; language = None }

abbrev pub scalar_json : Scalar → JsonValue
scalar_json (scalar.Text lexical) = text lexical
scalar_json (scalar.Whole number) = whole number
scalar_json (scalar.Bool flag) = truth flag

-- the value object of a default scalar, whose datatype stays as it is written
abbrev pub scalar_plain : Scalar → Option (List ℕ) → Option (List ℕ) → Plain
scalar_plain value datatype language =
    record { scalar = scalar_json value; datatype = datatype; language = language }

-- a pick of a value: these slots, then `@none` and `@any`
abbrev pub pick : List Container → PickKind → List (List ℕ) → Pick
pick containers kind preferred =
    record {
      containers = containers;
      kind = kind;
      preferred = preferred ++ at_none ∷ at_any ∷ [];
      has_value = true;
    }

abbrev pub sets : List Container
sets = container.Set ∷ container.NoContainer ∷ []

-- a literal with a language: a language map first
abbrev pub language_pick : List ℕ → Pick
language_pick language =
    pick (container.Language ∷ container.LanguageSet ∷ sets) LanguageKind (language ∷ [])

-- a literal or scalar with a datatype
abbrev pub datatype_pick : List ℕ → Pick
datatype_pick datatype = pick sets TypeKind (datatype ∷ [])

-- any other literal or scalar: a language map last
abbrev pub untyped_pick : Pick
untyped_pick =
    pick (sets ++ container.Language ∷ container.LanguageSet ∷ []) LanguageKind (at_null ∷ [])

-- a scalar by its datatype
abbrev pub scalar_pick : Option (List ℕ) → Pick
scalar_pick (Some datatype) = datatype_pick datatype
scalar_pick None = untyped_pick

-- a literal by its language, else by its datatype
abbrev pub literal_pick : Option (List ℕ) → Option (List ℕ) → Pick
literal_pick (Some language) datatype = language_pick language
literal_pick None datatype = scalar_pick datatype

-- a text is the name of a term that stands for this IRI
abbrev pub names_term_for : List ℕ → Option TermDef → Bool
names_term_for iri None = false
names_term_for iri (Some term) = stands_for iri term

-- an id that compacts to a term of this very IRI
abbrev pub becomes_term : TermTable → List ℕ → Option (List ℕ) → Bool
becomes_term table iri None = false
becomes_term table iri (Some compacted) = names_term_for iri (term_named table compacted)

-- the slots of a node with an id: `@vocab` before `@id` where the id compacts to a term
abbrev pub id_slots : TermTable → Term → List (List ℕ)
id_slots table (Iri iri) =
    if becomes_term table iri (short table iri true no_value) then at_vocab ∷ at_id ∷ []
    else at_id ∷ at_vocab ∷ []
id_slots table (Blank label) = at_id ∷ at_vocab ∷ []
id_slots table (Literal lexical datatype language) = at_id ∷ at_vocab ∷ []

-- a node, null or an empty default
abbrev pub node_pick : TermTable → Option Term → Pick
node_pick table (Some id) = pick sets TypeKind (id_slots table id)
node_pick table None = pick sets TypeKind (at_id ∷ [])

-- a node of `@reverse`: a reverse term first; without an id `@id` isn't asked for
abbrev pub reverse_pick : TermTable → Option Term → Pick
reverse_pick table (Some id) = pick sets TypeKind (at_reverse ∷ id_slots table id)
reverse_pick table None = pick sets TypeKind (at_reverse ∷ [])

abbrev pub default_pick : TermTable → DefaultValue → Pick
default_pick table default.Null = node_pick table None
default_pick table (default.Ref id) = node_pick table (Some id)
default_pick table (default.Scalar value datatype language) = scalar_pick datatype

-- what an item of a list is: of a datatype, of a language, a text or scalar without either, or a
-- node or list
pub data ItemKind : Type 0 where
  of_datatype : List ℕ → ItemKind
  of_language : List ℕ → ItemKind
  untyped : ItemKind
  of_node : ItemKind

abbrev pub same_kind : ItemKind → ItemKind → Bool
same_kind (of_datatype a) (of_datatype b) = text_eq a b
same_kind (of_language a) (of_language b) = text_eq a b
same_kind untyped untyped = true
same_kind of_node of_node = true
same_kind _ _ = false

abbrev pub plain_kind : Option (List ℕ) → Option (List ℕ) → ItemKind
plain_kind (Some datatype) language = of_datatype datatype
plain_kind None (Some language) = of_language language
plain_kind None None = untyped

abbrev pub default_kind : DefaultValue → ItemKind
default_kind default.Null = of_node
default_kind (default.Ref id) = of_node
default_kind (default.Scalar value datatype language) = plain_kind datatype language

abbrev pub item_kind : TreeEntry → ItemKind
item_kind (node_entry node) = of_node
item_kind (list_entry items) = of_node
item_kind (literal_entry literal) =
    plain_kind (literal_plain literal).datatype (literal_plain literal).language
item_kind (fallback_entry value) = default_kind value
item_kind empty_fallback = of_node

-- all items are of this kind
abbrev pub all_of_kind : ItemKind → TreeEntries → Bool
all_of_kind kind no_entries = true
all_of_kind kind (entry item rest) = same_kind kind (item_kind item) && all_of_kind kind rest

-- a list whose items are of one kind
abbrev pub kind_pick : List Container → ItemKind → Pick
kind_pick containers (of_datatype datatype) = pick containers TypeKind (datatype ∷ [])
kind_pick containers of_node = pick containers TypeKind (at_id ∷ [])
kind_pick containers (of_language language) = pick containers LanguageKind (language ∷ [])
kind_pick containers untyped = pick containers LanguageKind (at_null ∷ [])

-- a list: an empty one asks for any term; one of mixed kinds for a term without language and type
abbrev pub list_pick : List Container → TreeEntries → Pick
list_pick containers no_entries = pick containers AnyKind []
list_pick containers (entry first rest) =
    if all_of_kind (item_kind first) rest then kind_pick containers (item_kind first)
    else pick containers LanguageKind []

-- the container `@list` is tried only for a property's sole value
abbrev pub list_containers : Bool → List Container
list_containers sole =
    if sole then container.List ∷ container.NoContainer ∷ [] else container.NoContainer ∷ []

abbrev pub tree_id : TreeNode → Option Term
tree_id (tree id _ _ _ _) = id

-- the pick of a property's value
abbrev pub pick_of : TermTable → Bool → TreeEntry → Pick
pick_of table sole (node_entry node) = node_pick table (tree_id node)
pick_of table sole (literal_entry literal) =
    literal_pick (literal_plain literal).language (literal_plain literal).datatype
pick_of table sole (list_entry items) = list_pick (list_containers sole) items
pick_of table sole (fallback_entry value) = default_pick table value
pick_of table sole empty_fallback = node_pick table None
