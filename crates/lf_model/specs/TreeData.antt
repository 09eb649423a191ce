-- A framed tree as data that definitions match on (JSON-LD 1.1 Framing, section 4.1: the output of framing).
use Rattle.std.specs.Prelude.{ℕ, List, [], ◌∷◌, Option}
use Rattle.lf_rdf.specs.declared.term.Term.{Term}
use Rattle.lf_model.specs.declared.frame.DefaultValue.{DefaultValue}

mutual
  -- a node: its id unless pruned, its types, the nodes of its graph, its properties and its reverse properties
  pub data TreeNode : Type 0 where
    tree : Option Term → List Term → TreeNodes → TreeProperties → TreeReverses → TreeNode

  pub data TreeNodes : Type 0 where
    no_nodes : TreeNodes
    node : TreeNode → TreeNodes → TreeNodes

  -- a property IRI and its values, and the rest
  pub data TreeProperties : Type 0 where
    no_properties : TreeProperties
    property : List ℕ → TreeEntries → TreeProperties → TreeProperties

  -- a property IRI and the nodes that point here by it, and the rest
  pub data TreeReverses : Type 0 where
    no_reverses : TreeReverses
    reverse : List ℕ → TreeNodes → TreeReverses → TreeReverses

  -- one value of a property
  pub data TreeEntry : Type 0 where
    node_entry : TreeNode → TreeEntry
    literal_entry : Term → TreeEntry
    list_entry : TreeEntries → TreeEntry
    fallback_entry : DefaultValue → TreeEntry
    empty_fallback : TreeEntry

  pub data TreeEntries : Type 0 where
    no_entries : TreeEntries
    entry : TreeEntry → TreeEntries → TreeEntries

-- nodes from a list, and as a list
abbrev pub nodes_of : List TreeNode → TreeNodes
nodes_of [] = no_nodes
nodes_of (first ∷ rest) = node first (nodes_of rest)

abbrev pub nodes_list : TreeNodes → List TreeNode
nodes_list no_nodes = []
nodes_list (node first rest) = first ∷ nodes_list rest

-- values from a list, and as a list
abbrev pub entries_of : List TreeEntry → TreeEntries
entries_of [] = no_entries
entries_of (first ∷ rest) = entry first (entries_of rest)

abbrev pub entries_list : TreeEntries → List TreeEntry
entries_list no_entries = []
entries_list (entry first rest) = first ∷ entries_list rest

-- properties from a list of IRIs and values, and as such a list
abbrev pub properties_of : List (List ℕ × TreeEntries) → TreeProperties
properties_of [] = no_properties
properties_of (first ∷ rest) = property first.0 first.1 (properties_of rest)

abbrev pub properties_list : TreeProperties → List (List ℕ × TreeEntries)
properties_list no_properties = []
properties_list (property iri values rest) = (iri, values) ∷ properties_list rest

-- reverse properties from a list of IRIs and nodes, and as such a list
abbrev pub reverses_of : List (List ℕ × TreeNodes) → TreeReverses
reverses_of [] = no_reverses
reverses_of (first ∷ rest) = reverse first.0 first.1 (reverses_of rest)

abbrev pub reverses_list : TreeReverses → List (List ℕ × TreeNodes)
reverses_list no_reverses = []
reverses_list (reverse iri nodes rest) = (iri, nodes) ∷ reverses_list rest
