-- The parts of a node's map, in the order in which the program makes them.
use Rattle.std.specs.Prelude.{◌≡◌, Bool, true, false, List, [], ◌∷◌, ◌++◌, ℕ, Option, Some, None, Result, Ok, Err, Vec, map}
use Rattle.std.specs.Option.{option_copied}
use Rattle.std.specs.declared.alloc.Global.{Global}
use Rattle.lf_rdf.specs.declared.term.Term.{Term}
use Rattle.lf_model.specs.declared.error.LdError.TheVariants.{IriConfusedWithPrefix}
use Rattle.lf_model.specs.declared.json.Json.{Json}
use Rattle.lf_model.specs.declared.table.TermTable.{TermTable}
use Rattle.lf_model.specs.declared.table.TermDef.{TermDef}
use Rattle.lf_model.specs.JsonData.{JsonValue, text}
use Rattle.lf_model.specs.JsonBridge.{json_data}
use Rattle.lf_model.specs.TreeBridge.{Property, Reverse}
use Rattle.lf_model.specs.TreeData.{TreeNode, tree, no_nodes, no_properties, no_reverses, TreeEntry}
use Rattle.def_selection.specs.declared.pick.Pick.{Pick}
use Rattle.def_selection.specs.Chosen.{chosen}
use Rattle.def_selection.specs.Iris.{short, short_keyword, short_node}
use Rattle.def_selection.specs.Keywords.{at_reverse, at_type}
use Rattle.def_documents.specs.Trying.{◌>>=◌}
use Rattle.def_documents.specs.Entries.{Filed, entries_in_order, whole_value}
use Rattle.def_documents.specs.Grouping.{alone_or_array, object_of}
use Rattle.def_documents.specs.Nodes.{filed_value, graph_entry, id_entry, is_sole, lone_id, node_json, nodes_json, pointing_filed, properties_filed, reverses_filed, type_entry, types_in_array, value_json, values_filed}
use Rattle.def_documents.specs.Picks.{pick_of, reverse_pick, tree_id}
use Rattle.lf_compact.specs.Members.{Hold, Members}
use Rattle.lf_compact.specs.Turned.{turned_of, unturned_of}
use Rattle.lf_compact.specs.declared.error.CompactErr.{CompactErr}
use Rattle.lf_compact.specs.declared.error.CompactErr.TheVariants as e

abbrev pub json_list : Vec Json Global → List JsonValue
json_list values = map json_data values.items

-- one compacted type
abbrev pub short_type : TermTable → Term → Option JsonValue
short_type table class = do
  compacted ← short_node table true class
  Some (text compacted)

-- the entry of the types by their compacted names
abbrev pub type_names_entry : TermTable → List JsonValue → List (List ℕ × JsonValue)
type_names_entry table names = (
  short_keyword table at_type,
  alone_or_array (types_in_array table (short_keyword table at_type)) names,
) ∷ []

-- the same, where there are any
abbrev pub names_entry : TermTable → List JsonValue → List (List ℕ × JsonValue)
names_entry table [] = []
names_entry table (first ∷ rest) = type_names_entry table (first ∷ rest)

-- the entries of the id and the types
abbrev pub beginning : TermTable → Option Term → List Term → Option (List (List ℕ × JsonValue))
beginning table id types = do
  ids ← id_entry table id
  type_names ← type_entry table types
  Some (ids ++ type_names)

-- the members hold these entries, or there are none
abbrev pub Begins : Result Members CompactErr → Option (List (List ℕ × JsonValue)) → Type 0
Begins (Ok members) answer =
    (entries : List (List ℕ × JsonValue)) × (answer ≡ Some entries) × Hold members entries
Begins (Err (e.Ld error)) answer = (answer ≡ None) × (error ≡ IriConfusedWithPrefix)
Begins (Err e.Memory) answer = Unit {0}

-- the entry of `@reverse`, where anything stands in it
abbrev pub reverse_part : TermTable → List (List ℕ × JsonValue) → List (List ℕ × JsonValue)
reverse_part table entries =
    elim entries
    [ [] ↦ [] | first ∷ rest ↦ (short_keyword table at_reverse, object_of (first ∷ rest)) ∷ [] ]

-- all entries of a node, after those of its id and types
abbrev pub node_entries :
    TermTable → List (List ℕ × JsonValue) → List JsonValue → List (List ℕ × List Filed) →
    List (List ℕ × List Filed) → List (List ℕ × JsonValue)
node_entries table entries graph properties reverses =
    entries ++ graph_entry table graph
    ++ reverse_part table (entries_in_order (unturned_of reverses))
    ++ entries_in_order properties ++ entries_in_order (turned_of reverses)

-- the id of a node that has nothing but an id
abbrev pub lone_id_of : TreeNode → Option Term
lone_id_of (tree id types graph properties reverses) = lone_id id types graph properties reverses

-- the node has nothing but an id
abbrev pub has_only_id : TreeNode → Bool
has_only_id (tree id [] no_nodes no_properties no_reverses) = true
has_only_id (tree id _ _ _ _) = false

-- the map of a node
abbrev pub map_json : TermTable → TreeNode → Option JsonValue
map_json table (tree id types graph properties reverses) = do
  entries ← beginning table id types
  inner ← nodes_json table graph
  filed ← properties_filed table properties
  pointing ← reverses_filed table reverses
  Some (object_of (node_entries table entries inner filed pointing))

-- the key of a value and the term that is chosen for it
abbrev pub under_pick : TermTable → List ℕ → Pick → Option (List ℕ × Option TermDef)
under_pick table iri pick = do
  key ← short table iri true pick
  Some (key, chosen table iri pick)

-- one value of a property
abbrev pub one_value : TermTable → List ℕ → Bool → TreeEntry → Option Filed
one_value table iri sole value = do
  under ← under_pick table iri (pick_of table sole value)
  json ← value_json table under.1 value
  Some (filed_value table under.0 under.1 value json)

-- one property
abbrev pub one_property : TermTable → Property → Option (List ℕ × List Filed)
one_property table p = do
  filed ← values_filed table p.0 (is_sole p.1) p.1
  Some (p.0, filed)

-- one node of a reverse property
abbrev pub one_pointing : TermTable → List ℕ → TreeNode → Option Filed
one_pointing table iri node = do
  under ← under_pick table iri (reverse_pick table (tree_id node))
  json ← node_json table under.1 node
  Some (record { key = under.0; term = under.1; piece = whole_value json })

-- one reverse property
abbrev pub one_reverse : TermTable → Reverse → Option (List ℕ × List Filed)
one_reverse table r = do
  filed ← pointing_filed table r.0 r.1
  Some (r.0, filed)
