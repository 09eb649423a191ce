-- Compaction of nodes (JSON-LD 1.1 Processing Algorithms and API, section 5.1.2: compaction).
use Rattle.std.specs.Prelude.{List, [], ◌∷◌, ◌++◌, ℕ, Bool, true, false, not, ◌&&◌, ◌||◌, Option, Some, None, if◌then◌else◌, filter, map}
use Rattle.lf_rdf.specs.declared.term.Term.{Term}
use Rattle.lf_rdf.specs.Equality.{text_eq}
use Rattle.lf_model.specs.declared.table.TermTable.{TermTable}
use Rattle.lf_model.specs.declared.table.TermDef.{TermDef}
use Rattle.lf_model.specs.declared.frame.DefaultValue.{DefaultValue}
use Rattle.lf_model.specs.declared.frame.DefaultValue.TheVariants as default
use Rattle.lf_model.specs.JsonData.{JsonValue, null, text, array, items_of}
use Rattle.lf_model.specs.TreeData.{TreeNode, tree, TreeNodes, no_nodes, node, TreeProperties, no_properties, property, TreeReverses, no_reverses, reverse, TreeEntry, node_entry, literal_entry, list_entry, fallback_entry, empty_fallback, TreeEntries, no_entries, entry}
use Rattle.def_selection.specs.Keywords.{at_graph, at_id, at_list, at_reverse, at_type}
use Rattle.def_selection.specs.Chosen.{chosen}
use Rattle.def_selection.specs.Iris.{short, short_keyword, short_node, term_named}
use Rattle.def_documents.specs.Trying.{◌>>=◌}
use Rattle.def_documents.specs.Picks.{literal_plain, pick_of, reverse_pick, scalar_plain, tree_id}
use Rattle.def_documents.specs.Values.{plain_json, reference_json}
use Rattle.def_documents.specs.Grouping.{alone_or_array, array_of, object_of}
use Rattle.def_documents.specs.Entries.{Filed, container_of, entries_in_order, has_set, is_list_container, piece_of, whole_value}

-- the entry of the id, unless it was pruned
abbrev pub id_entry : TermTable → Option Term → Option (List (List ℕ × JsonValue))
id_entry table None = Some []
id_entry table (Some id) = do
  compacted ← short_node table false id
  Some ((short_keyword table at_id, text compacted) ∷ [])

-- the compacted types
abbrev pub short_types : TermTable → List Term → Option (List JsonValue)
short_types table [] = Some []
short_types table (first ∷ rest) = do
  compacted ← short_node table true first
  others ← short_types table rest
  Some (text compacted ∷ others)

-- one type is an array too: the key is `@type` and the table says so, or a term with `@set`
abbrev pub types_in_array : TermTable → List ℕ → Bool
types_in_array table key =
    text_eq key at_type && table.type_set || has_set (container_of (term_named table key))

-- the entry of the types, where there are any
abbrev pub type_entry : TermTable → List Term → Option (List (List ℕ × JsonValue))
type_entry table [] = Some []
type_entry table (first ∷ rest) = do
  types ← short_types table (first ∷ rest)
  let key = short_keyword table at_type
  Some ((key, alone_or_array (types_in_array table key) types) ∷ [])

-- the entry of the nodes of a graph, always an array
abbrev pub graph_entry : TermTable → List JsonValue → List (List ℕ × JsonValue)
graph_entry table [] = []
graph_entry table (first ∷ rest) =
    (short_keyword table at_graph, array (items_of (first ∷ rest))) ∷ []

-- the value was filed under a reverse term
abbrev pub is_turned : Filed → Bool
is_turned filed = elim (filed.term) [ None ↦ false | Some term ↦ term.reverse ]

-- the entry of `@reverse`: the values that were filed under no reverse term
abbrev pub reverse_entry : TermTable → List (List ℕ × List Filed) → List (List ℕ × JsonValue)
reverse_entry table reverses =
    elim (entries_in_order (map (λ r. (r.0, filter (λ f. not (is_turned f)) r.1)) reverses)) [
      | [] ↦ []
      | first ∷ rest ↦ (short_keyword table at_reverse, object_of (first ∷ rest)) ∷ []
    ]

-- the entries under reverse terms, which stand in the node itself
abbrev pub turned_entries : List (List ℕ × List Filed) → List (List ℕ × JsonValue)
turned_entries reverses = entries_in_order (map (λ r. (r.0, filter is_turned r.1)) reverses)

-- the id of a node that has nothing but an id
abbrev pub lone_id :
    Option Term → List Term → TreeNodes → TreeProperties → TreeReverses → Option Term
lone_id id [] no_nodes no_properties no_reverses = id
lone_id _ _ _ _ _ = None

-- a node that has an id alone by its coercion, and any other by its map
abbrev pub reference_or_map :
    TermTable → Option TermDef → Option Term → Option JsonValue → Option JsonValue
reference_or_map table term None map = map
reference_or_map table term (Some id) map = reference_json table term id

-- the parts of a node's map: the keywords first, then the properties, then those under reverse
-- terms
abbrev pub node_map :
    TermTable → List (List ℕ × JsonValue) → List (List ℕ × JsonValue) → List JsonValue →
    List (List ℕ × List Filed) → List (List ℕ × List Filed) → JsonValue
node_map table ids types graph properties reverses =
    object_of
    (ids ++ types ++ graph_entry table graph ++ reverse_entry table reverses ++ entries_in_order properties
    ++ turned_entries reverses)

-- a list under a term with `@list` is an array, and otherwise a map of `@list`
abbrev pub list_json : TermTable → Option TermDef → List JsonValue → JsonValue
list_json table term items =
    if is_list_container (container_of term) then array (items_of items)
    else object_of ((short_keyword table at_list, array (items_of items)) ∷ [])

abbrev pub default_json : TermTable → Option TermDef → DefaultValue → Option JsonValue
default_json table term default.Null = Some null
default_json table term (default.Ref id) = reference_json table term id
default_json table term (default.Scalar value datatype language) =
    plain_json table term (scalar_plain value datatype language)

-- a property's sole value
abbrev pub is_sole : TreeEntries → Bool
is_sole (entry first no_entries) = true
is_sole _ = false

-- the value of a property with its key and what it gives
abbrev pub filed_value : TermTable → List ℕ → Option TermDef → TreeEntry → JsonValue → Filed
filed_value table key term value json =
    record { key = key; term = term; piece = piece_of table term value json }

abbrev mutual
  -- a node under a chosen term, or none
  pub node_json : TermTable → Option TermDef → TreeNode → Option JsonValue
  node_json table term (tree id types graph properties reverses) =
      reference_or_map table term (lone_id id types graph properties reverses) (do
        ids ← id_entry table id
        type_names ← type_entry table types
        inner ← nodes_json table graph
        filed ← properties_filed table properties
        pointing ← reverses_filed table reverses
        Some (node_map table ids type_names inner filed pointing))

  pub nodes_json : TermTable → TreeNodes → Option (List JsonValue)
  nodes_json table no_nodes = Some []
  nodes_json table (node first rest) = do
    json ← node_json table None first
    others ← nodes_json table rest
    Some (json ∷ others)

  pub properties_filed : TermTable → TreeProperties → Option (List (List ℕ × List Filed))
  properties_filed table no_properties = Some []
  properties_filed table (property iri values rest) = do
    filed ← values_filed table iri (is_sole values) values
    others ← properties_filed table rest
    Some ((iri, filed) ∷ others)

  pub values_filed : TermTable → List ℕ → Bool → TreeEntries → Option (List Filed)
  values_filed table iri sole no_entries = Some []
  values_filed table iri sole (entry first rest) = do
    key ← short table iri true (pick_of table sole first)
    let term = chosen table iri (pick_of table sole first)
    json ← value_json table term first
    others ← values_filed table iri sole rest
    Some (filed_value table key term first json ∷ others)

  -- a value under a chosen term, or none
  pub value_json : TermTable → Option TermDef → TreeEntry → Option JsonValue
  value_json table term (node_entry value) = node_json table term value
  value_json table term (literal_entry literal) = plain_json table term (literal_plain literal)
  value_json table term (list_entry items) = do
    inner ← items_json table term items
    Some (list_json table term inner)
  value_json table term (fallback_entry value) = default_json table term value
  value_json table term empty_fallback = Some (array_of [])

  pub items_json : TermTable → Option TermDef → TreeEntries → Option (List JsonValue)
  items_json table term no_entries = Some []
  items_json table term (entry first rest) = do
    json ← value_json table term first
    others ← items_json table term rest
    Some (json ∷ others)

  pub reverses_filed : TermTable → TreeReverses → Option (List (List ℕ × List Filed))
  reverses_filed table no_reverses = Some []
  reverses_filed table (reverse iri nodes rest) = do
    filed ← pointing_filed table iri nodes
    others ← reverses_filed table rest
    Some ((iri, filed) ∷ others)

  pub pointing_filed : TermTable → List ℕ → TreeNodes → Option (List Filed)
  pointing_filed table iri no_nodes = Some []
  pointing_filed table iri (node first rest) = do
    key ← short table iri true (reverse_pick table (tree_id first))
    let term = chosen table iri (reverse_pick table (tree_id first))
    json ← node_json table term first
    others ← pointing_filed table iri rest
    Some (record { key = key; term = term; piece = whole_value json } ∷ others)

-- the compacted tree
abbrev pub compact : TermTable → TreeNode → Option JsonValue
compact table root = node_json table None root
