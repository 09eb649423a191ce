-- Term tables and trees of the worked cases.
use Rattle.std.specs.Prelude.{List, [], ◌∷◌, ℕ, Option, Some, None, true, false, codes, option_map}
use Rattle.lf_rdf.specs.declared.term.Term.TheVariants.{Iri, Blank, Literal}
use Rattle.lf_rdf.specs.Vocabulary.{rdf_lang_string, xsd_string}
use Rattle.lf_model.specs.JsonData.{JsonValue, text, object, members_of}
use Rattle.lf_model.specs.TreeData.{TreeNode, tree, no_nodes, no_reverses, TreeEntry, node_entry, literal_entry, TreeEntries, entries_of, properties_of}
use Rattle.lf_model.specs.declared.table.TermTable.{TermTable}
use Rattle.lf_model.specs.declared.table.TermDef.{TermDef}
use Rattle.lf_model.specs.declared.table.Container.{Container}
use Rattle.lf_model.specs.declared.table.Container.TheVariants as container
use Rattle.def_documents.specs.Nodes.{compact}
use Rattle.def_documents.specs.JsonPrint.{json_text}

-- a term that stands for an IRI
abbrev pub plain_term : List ℕ → List ℕ → TermDef
plain_term name iri = record {
  name = name;
  iri = Some iri;
  prefix = false;
  reverse = false;
  coercion = None;
  language = None;
  container = container.NoContainer;
}

-- a term with a coercion and a container
abbrev pub typed_term : List ℕ → List ℕ → List ℕ → Container → TermDef
typed_term name iri coercion held = record {
  name = name;
  iri = Some iri;
  prefix = false;
  reverse = false;
  coercion = Some coercion;
  language = None;
  container = held;
}

-- a term with a container
abbrev pub held_term : List ℕ → List ℕ → Container → TermDef
held_term name iri held = record {
  name = name;
  iri = Some iri;
  prefix = false;
  reverse = false;
  coercion = None;
  language = None;
  container = held;
}

-- a term that may be a prefix
abbrev pub prefix_term : List ℕ → List ℕ → TermDef
prefix_term name iri = record {
  name = name;
  iri = Some iri;
  prefix = true;
  reverse = false;
  coercion = None;
  language = None;
  container = container.NoContainer;
}

abbrev pub table_of : Option (List ℕ) → List TermDef → TermTable
table_of vocab terms = record { vocab = vocab; language = None; terms = terms; type_set = false }

-- the empty context
abbrev pub no_terms : TermTable
no_terms = table_of None []

-- `{"@vocab":"http://l/","dc":"http://purl.org/dc/terms/","creator":{"@id":"dc:creator","@type":"@id"},
-- "contains":{"@type":"@id","@container":"@set"}}`
abbrev pub library : TermTable
library =
    table_of (Some (codes "http://l/"))
    (typed_term (codes "contains") (codes "http://l/contains") (codes "@id") container.Set
    ∷ typed_term (codes "creator") (codes "http://purl.org/dc/terms/creator") (codes "@id")
    container.NoContainer
    ∷ prefix_term (codes "dc") (codes "http://purl.org/dc/terms/")
    ∷ [])

-- a context that gives one term an IRI and a container
abbrev pub held_context : List ℕ → List ℕ → List ℕ → JsonValue
held_context name iri held =
    object (members_of ((
      name,
      object (members_of ((codes "@container", text held) ∷ (codes "@id", text iri) ∷ [])),
    )
    ∷ []))

-- the empty context
abbrev pub no_context : JsonValue
no_context = object (members_of [])

-- a node with an IRI and properties
abbrev pub node_of : List ℕ → List (List ℕ × TreeEntries) → TreeNode
node_of iri properties = tree (Some (Iri iri)) [] no_nodes (properties_of properties) no_reverses

-- a blank node with properties
abbrev pub blank_of : List ℕ → List (List ℕ × TreeEntries) → TreeNode
blank_of label properties =
    tree (Some (Blank label)) [] no_nodes (properties_of properties) no_reverses

-- a property with one value, or with several
abbrev pub one : List ℕ → TreeEntry → List ℕ × TreeEntries
one iri value = (iri, entries_of (value ∷ []))

abbrev pub many : List ℕ → List TreeEntry → List ℕ × TreeEntries
many iri values = (iri, entries_of values)

-- a plain text, and a text with a language
abbrev pub plain : List ℕ → TreeEntry
plain lexical = literal_entry (Literal lexical xsd_string None)

abbrev pub tagged : List ℕ → List ℕ → TreeEntry
tagged lexical language = literal_entry (Literal lexical rdf_lang_string (Some language))

-- a reference
abbrev pub reference : List ℕ → TreeEntry
reference iri = node_entry (node_of iri [])

-- the printed text of a compacted tree
abbrev pub printed : TermTable → TreeNode → Option (List ℕ)
printed table root = option_map json_text (compact table root)
