-- The IRIs that a tree is written with: the ids of its nodes and references, its types, its
-- datatypes and its properties.
use Rattle.std.specs.Prelude.{List, [], ◌∷◌, ℕ, Bool, false, ◌||◌, Option, Some, None}
use Rattle.lf_rdf.specs.declared.term.Term.{Term}
use Rattle.lf_rdf.specs.declared.term.Term.TheVariants.{Iri, Blank, Literal}
use Rattle.lf_model.specs.declared.frame.DefaultValue.{DefaultValue}
use Rattle.lf_model.specs.declared.frame.DefaultValue.TheVariants as default
use Rattle.lf_model.specs.TreeData.{TreeNode, tree, TreeNodes, no_nodes, node, TreeProperties, no_properties, property, TreeReverses, no_reverses, reverse, TreeEntry, node_entry, literal_entry, list_entry, fallback_entry, empty_fallback, TreeEntries, no_entries, entry}
use Rattle.def_documents.specs.Picks.{literal_plain}

-- whether a node's id is an IRI of this kind
abbrev pub id_is : (List ℕ → Bool) → Term → Bool
id_is test (Iri iri) = test iri
id_is test (Blank label) = false
id_is test (Literal lexical datatype language) = false

abbrev pub some_id_is : (List ℕ → Bool) → Option Term → Bool
some_id_is test None = false
some_id_is test (Some id) = id_is test id

abbrev pub types_have : (List ℕ → Bool) → List Term → Bool
types_have test [] = false
types_have test (first ∷ rest) = id_is test first || types_have test rest

abbrev pub datatype_is : (List ℕ → Bool) → Option (List ℕ) → Bool
datatype_is test None = false
datatype_is test (Some datatype) = test datatype

abbrev pub default_has : (List ℕ → Bool) → DefaultValue → Bool
default_has test default.Null = false
default_has test (default.Ref id) = id_is test id
default_has test (default.Scalar value datatype language) = datatype_is test datatype

-- whether a tree is written with an IRI of this kind
abbrev mutual
  pub node_has : (List ℕ → Bool) → TreeNode → Bool
  node_has test (tree id types graph properties reverses) =
      some_id_is test id
      || (types_have test types
      || (nodes_have test graph
      || (properties_have test properties || reverses_have test reverses)))

  pub nodes_have : (List ℕ → Bool) → TreeNodes → Bool
  nodes_have test no_nodes = false
  nodes_have test (node first rest) = node_has test first || nodes_have test rest

  pub properties_have : (List ℕ → Bool) → TreeProperties → Bool
  properties_have test no_properties = false
  properties_have test (property iri values rest) =
      test iri || (entries_have test values || properties_have test rest)

  pub reverses_have : (List ℕ → Bool) → TreeReverses → Bool
  reverses_have test no_reverses = false
  reverses_have test (reverse iri nodes rest) =
      test iri || (nodes_have test nodes || reverses_have test rest)

  pub entry_has : (List ℕ → Bool) → TreeEntry → Bool
  entry_has test (node_entry value) = node_has test value
  entry_has test (literal_entry literal) = datatype_is test (literal_plain literal).datatype
  entry_has test (list_entry items) = entries_have test items
  entry_has test (fallback_entry value) = default_has test value
  entry_has test empty_fallback = false

  pub entries_have : (List ℕ → Bool) → TreeEntries → Bool
  entries_have test no_entries = false
  entries_have test (entry first rest) = entry_has test first || entries_have test rest
