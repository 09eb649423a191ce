-- Pruning of blank node ids (JSON-LD 1.1 Framing, section 4.2: prune blank node identifiers).
use Rattle.std.specs.Prelude.{List, [], ◌∷◌, ℕ, ◌+◌, ◌==◌, Option, Some, None, if◌then◌else◌}
use Rattle.lf_rdf.specs.declared.term.Term.{Term}
use Rattle.lf_rdf.specs.declared.term.Term.TheVariants.{Iri, Blank, Literal}
use Rattle.lf_rdf.specs.Equality.{text_eq}
use Rattle.lf_model.specs.declared.frame.DefaultValue.{DefaultValue}
use Rattle.lf_model.specs.declared.frame.DefaultValue.TheVariants as default
use Rattle.lf_model.specs.TreeData.{TreeNode, tree, TreeNodes, no_nodes, node, TreeProperties, no_properties, property, TreeReverses, no_reverses, reverse, TreeEntry, node_entry, literal_entry, list_entry, fallback_entry, empty_fallback, TreeEntries, no_entries, entry}

-- one where the term is the blank node of this label
abbrev pub count_term : List ℕ → Term → ℕ
count_term label (Blank other) = if text_eq other label then 1 else 0
count_term label (Iri iri) = 0
count_term label (Literal lexical datatype language) = 0

abbrev pub count_id : List ℕ → Option Term → ℕ
count_id label None = 0
count_id label (Some id) = count_term label id

abbrev pub count_types : List ℕ → List Term → ℕ
count_types label [] = 0
count_types label (first ∷ rest) = count_term label first + count_types label rest

-- a reference in a default
abbrev pub count_default : List ℕ → DefaultValue → ℕ
count_default label default.Null = 0
count_default label (default.Ref id) = count_term label id
count_default label (default.Scalar value datatype language) = 0

-- how often a label stands in a tree: at the id of each node and reference, in references of
-- defaults, and among the types
abbrev mutual
  pub count_node : List ℕ → TreeNode → ℕ
  count_node label (tree id types graph properties reverses) =
      count_id label id + count_types label types + count_nodes label graph
      + count_properties label properties
      + count_reverses label reverses

  pub count_nodes : List ℕ → TreeNodes → ℕ
  count_nodes label no_nodes = 0
  count_nodes label (node first rest) = count_node label first + count_nodes label rest

  pub count_properties : List ℕ → TreeProperties → ℕ
  count_properties label no_properties = 0
  count_properties label (property iri values rest) =
      count_entries label values + count_properties label rest

  pub count_reverses : List ℕ → TreeReverses → ℕ
  count_reverses label no_reverses = 0
  count_reverses label (reverse iri nodes rest) =
      count_nodes label nodes + count_reverses label rest

  pub count_entry : List ℕ → TreeEntry → ℕ
  count_entry label (node_entry value) = count_node label value
  count_entry label (literal_entry literal) = 0
  count_entry label (list_entry items) = count_entries label items
  count_entry label (fallback_entry value) = count_default label value
  count_entry label empty_fallback = 0

  pub count_entries : List ℕ → TreeEntries → ℕ
  count_entries label no_entries = 0
  count_entries label (entry first rest) = count_entry label first + count_entries label rest

-- the count over all trees of a document
abbrev pub label_count : List TreeNode → List ℕ → ℕ
label_count [] label = 0
label_count (first ∷ rest) label = count_node label first + label_count rest label

-- an id that is a blank node whose label is counted once is removed
abbrev pub prune_id : (List ℕ → ℕ) → Option Term → Option Term
prune_id counts None = None
prune_id counts (Some (Iri iri)) = Some (Iri iri)
prune_id counts (Some (Blank label)) = if counts label == 1 then None else Some (Blank label)
prune_id counts (Some (Literal lexical datatype language)) =
    Some (Literal lexical datatype language)

-- the tree without those ids; types and references of defaults stay
abbrev mutual
  pub prune_node : (List ℕ → ℕ) → TreeNode → TreeNode
  prune_node counts (tree id types graph properties reverses) =
      tree (prune_id counts id) types (prune_nodes counts graph)
      (prune_properties counts properties)
      (prune_reverses counts reverses)

  pub prune_nodes : (List ℕ → ℕ) → TreeNodes → TreeNodes
  prune_nodes counts no_nodes = no_nodes
  prune_nodes counts (node first rest) = node (prune_node counts first) (prune_nodes counts rest)

  pub prune_properties : (List ℕ → ℕ) → TreeProperties → TreeProperties
  prune_properties counts no_properties = no_properties
  prune_properties counts (property iri values rest) =
      property iri (prune_entries counts values) (prune_properties counts rest)

  pub prune_reverses : (List ℕ → ℕ) → TreeReverses → TreeReverses
  prune_reverses counts no_reverses = no_reverses
  prune_reverses counts (reverse iri nodes rest) =
      reverse iri (prune_nodes counts nodes) (prune_reverses counts rest)

  pub prune_entry : (List ℕ → ℕ) → TreeEntry → TreeEntry
  prune_entry counts (node_entry value) = node_entry (prune_node counts value)
  prune_entry counts (literal_entry literal) = literal_entry literal
  prune_entry counts (list_entry items) = list_entry (prune_entries counts items)
  prune_entry counts (fallback_entry value) = fallback_entry value
  prune_entry counts empty_fallback = empty_fallback

  pub prune_entries : (List ℕ → ℕ) → TreeEntries → TreeEntries
  prune_entries counts no_entries = no_entries
  prune_entries counts (entry first rest) =
      entry (prune_entry counts first) (prune_entries counts rest)
