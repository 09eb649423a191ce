-- Compacted nodes have their members in order.
use Rattle.std.proofs.Common.{◌≡◌, ℕ, Bool, true, false, List, [], ◌∷◌, ◌++◌, Option, Some, None, cond, subst, map, not}
use Rattle.std.specs.List.{AllByRecursion, filter}
use Rattle.lf_rdf.specs.declared.term.Term.{Term}
use Rattle.lf_model.specs.declared.table.TermTable.{TermTable}
use Rattle.lf_model.specs.declared.table.TermDef.{TermDef}
use Rattle.lf_model.specs.JsonData.{JsonValue, text, array, items_of}
use Rattle.lf_model.specs.TreeData.{TreeNode, tree, TreeNodes, no_nodes, node, TreeProperties, no_properties, property, TreeReverses, no_reverses, reverse, TreeEntry, node_entry, literal_entry, list_entry, fallback_entry, empty_fallback, TreeEntries, no_entries, entry}
use Rattle.def_selection.specs.Keywords.{at_id, at_list, at_reverse, at_type}
use Rattle.def_selection.specs.Chosen.{chosen}
use Rattle.def_selection.specs.Iris.{short, short_keyword, short_node}
use Rattle.def_documents.specs.Trying.{◌>>=◌}
use Rattle.def_documents.specs.Picks.{pick_of, reverse_pick, tree_id}
use Rattle.def_documents.specs.Grouping.{alone_or_array, object_of}
use Rattle.def_documents.specs.Entries.{Filed, container_of, entries_in_order, is_list_container, whole_value}
use Rattle.def_documents.specs.Nodes.{compact, filed_value, graph_entry, id_entry, is_sole, is_turned, items_json, list_json, lone_id, node_json, node_map, nodes_json, pointing_filed, properties_filed, reference_or_map, reverse_entry, reverses_filed, short_types, turned_entries, type_entry, types_in_array, value_json, values_filed}
use Rattle.def_documents.specs.Ordered.{IsOrdered}
use Rattle.def_documents.proofs.OrderedKit.{alone-ordered, append-all, filter-all, items-ordered, object-ordered, stepped}
use Rattle.def_documents.proofs.OrderedValues.{EntriesOrdered, FiledOrdered, GroupsOrdered, PieceOrdered, default-ordered, entries-ordered, literal-ordered, piece-ordered, reference-ordered}

module _ (table : TermTable) where
  id-ordered : (id : Option Term) (entries : List (List ℕ × JsonValue)) → id_entry table id ≡ Some entries → EntriesOrdered entries
  id-ordered None entries e = let same : [] ≡ entries = cc in subst EntriesOrdered same tt
  id-ordered (Some id) entries e =
      let (compacted, at, made) = stepped (short_node table false id) (λ c. Some ((short_keyword table at_id, text c) ∷ [])) entries e in
      let same : (short_keyword table at_id, text compacted) ∷ [] ≡ entries = cc in
      subst EntriesOrdered same (tt, tt)

  types-ordered : (types : List Term) (values : List JsonValue) → short_types table types ≡ Some values → AllByRecursion IsOrdered values
  types-ordered [] values e = let same : [] ≡ values = cc in subst (AllByRecursion IsOrdered) same tt
  types-ordered (first ∷ rest) values e =
      let (compacted, at, made) = stepped (short_node table true first) (λ c. short_types table rest >>= (λ others. Some (text c ∷ others))) values e in
      let (others, at', made') = stepped (short_types table rest) (λ others. Some (text compacted ∷ others)) values made in
      let same : text compacted ∷ others ≡ values = cc in
      subst (AllByRecursion IsOrdered) same (tt, types-ordered rest others at')

  type-ordered : (types : List Term) (entries : List (List ℕ × JsonValue)) → type_entry table types ≡ Some entries → EntriesOrdered entries
  type-ordered [] entries e = let same : [] ≡ entries = cc in subst EntriesOrdered same tt
  type-ordered (first ∷ rest) entries e =
      let key : List ℕ = short_keyword table at_type in
      let (values, at, made) = stepped (short_types table (first ∷ rest)) (λ vs. Some ((key, alone_or_array (types_in_array table key) vs) ∷ [])) entries e in
      let same : (key, alone_or_array (types_in_array table key) values) ∷ [] ≡ entries = cc in
      subst EntriesOrdered same (alone-ordered (types_in_array table key) values (types-ordered (first ∷ rest) values at), tt)

  graph-ordered : (values : List JsonValue) → AllByRecursion IsOrdered values → EntriesOrdered (graph_entry table values)
  graph-ordered [] all = tt
  graph-ordered (first ∷ rest) all = (items-ordered (first ∷ rest) all, tt)

  -- the values of each group that pass a test
  some-ordered : (p : Filed → Bool) (groups : List (List ℕ × List Filed)) → GroupsOrdered groups → GroupsOrdered (map (λ g. (g.0, filter p g.1)) groups)
  some-ordered p [] all = tt
  some-ordered p (first ∷ rest) all = (filter-all (λ f. PieceOrdered f.piece) p first.1 all.0, some-ordered p rest all.1)

  reverse-ordered : (groups : List (List ℕ × List Filed)) → GroupsOrdered groups → EntriesOrdered (reverse_entry table groups)
  reverse-ordered groups all =
      go (entries_in_order (map (λ r. (r.0, filter (λ f. not (is_turned f)) r.1)) groups))
      (entries-ordered (map (λ r. (r.0, filter (λ f. not (is_turned f)) r.1)) groups) (some-ordered (λ f. not (is_turned f)) groups all))
    where
      go : (entries : List (List ℕ × JsonValue)) → EntriesOrdered entries
          → EntriesOrdered (elim entries [ [] ↦ [] | first ∷ rest ↦ (short_keyword table at_reverse, object_of (first ∷ rest)) ∷ [] ])
      go [] each = tt
      go (first ∷ rest) each = (object-ordered (first ∷ rest) each, tt)

  map-ordered : (ids types : List (List ℕ × JsonValue)) (graph : List JsonValue) (properties reverses : List (List ℕ × List Filed))
      → EntriesOrdered ids → EntriesOrdered types → AllByRecursion IsOrdered graph → GroupsOrdered properties → GroupsOrdered reverses
      → IsOrdered (node_map table ids types graph properties reverses)
  map-ordered ids types graph properties reverses a b c d e =
      let P : List ℕ × JsonValue → Type 0 = λ entry. IsOrdered entry.1 in
      let inner : List (List ℕ × JsonValue) = graph_entry table graph in
      let back : List (List ℕ × JsonValue) = reverse_entry table reverses in
      let forward : List (List ℕ × JsonValue) = entries_in_order properties in
      let turned : List (List ℕ × JsonValue) = turned_entries reverses in
      object-ordered (ids ++ types ++ inner ++ back ++ forward ++ turned)
      (append-all P (ids ++ types ++ inner ++ back ++ forward) turned
      (append-all P (ids ++ types ++ inner ++ back) forward
      (append-all P (ids ++ types ++ inner) back
      (append-all P (ids ++ types) inner (append-all P ids types a b) (graph-ordered graph c))
      (reverse-ordered reverses e))
      (entries-ordered properties d))
      (entries-ordered (map (λ r. (r.0, filter is_turned r.1)) reverses) (some-ordered is_turned reverses e)))

  -- the steps that make a node's map
  made-ordered : (id : Option Term) (types : List Term) (graph : TreeNodes) (properties : TreeProperties) (reverses : TreeReverses) (json : JsonValue)
      → ((values : List JsonValue) → nodes_json table graph ≡ Some values → AllByRecursion IsOrdered values)
      → ((groups : List (List ℕ × List Filed)) → properties_filed table properties ≡ Some groups → GroupsOrdered groups)
      → ((groups : List (List ℕ × List Filed)) → reverses_filed table reverses ≡ Some groups → GroupsOrdered groups)
      → (id_entry table id >>= (λ ids. type_entry table types >>= (λ names. nodes_json table graph >>= (λ inner.
      properties_filed table properties >>= (λ filed. reverses_filed table reverses >>= (λ pointing.
      Some (node_map table ids names inner filed pointing))))))) ≡ Some json
      → IsOrdered json
  made-ordered id types graph properties reverses json of_nodes of_properties of_reverses e =
      let (ids, at1, e1) = stepped (id_entry table id) (λ ids. type_entry table types >>= (λ names. nodes_json table graph >>= (λ inner.
      properties_filed table properties >>= (λ filed. reverses_filed table reverses >>= (λ pointing. Some (node_map table ids names inner filed pointing)))))) json e in
      let (names, at2, e2) = stepped (type_entry table types) (λ names. nodes_json table graph >>= (λ inner.
      properties_filed table properties >>= (λ filed. reverses_filed table reverses >>= (λ pointing. Some (node_map table ids names inner filed pointing))))) json e1 in
      let (inner, at3, e3) = stepped (nodes_json table graph) (λ inner.
      properties_filed table properties >>= (λ filed. reverses_filed table reverses >>= (λ pointing. Some (node_map table ids names inner filed pointing)))) json e2 in
      let (filed, at4, e4) = stepped (properties_filed table properties) (λ filed. reverses_filed table reverses >>= (λ pointing. Some (node_map table ids names inner filed pointing))) json e3 in
      let (pointing, at5, e5) = stepped (reverses_filed table reverses) (λ pointing. Some (node_map table ids names inner filed pointing)) json e4 in
      let same : node_map table ids names inner filed pointing ≡ json = cc (e5) in
      subst IsOrdered same
      (map-ordered ids names inner filed pointing (id-ordered id ids at1) (type-ordered types names at2) (of_nodes inner at3) (of_properties filed at4) (of_reverses pointing at5))

  lone-or-map : (term : Option TermDef) (lone : Option Term) (made : Option JsonValue) (json : JsonValue) → (made ≡ Some json → IsOrdered json)
      → reference_or_map table term lone made ≡ Some json → IsOrdered json
  lone-or-map term None made json ih e = ih e
  lone-or-map term (Some id) made json ih e = reference-ordered table term id json e

  list-json-ordered : (term : Option TermDef) (values : List JsonValue) → AllByRecursion IsOrdered values → IsOrdered (list_json table term values)
  list-json-ordered term values all = go (is_list_container (container_of term))
    where
      go : (b : Bool) → IsOrdered (cond b (array (items_of values)) (object_of ((short_keyword table at_list, array (items_of values)) ∷ [])))
      go true = items-ordered values all
      go false = object-ordered ((short_keyword table at_list, array (items_of values)) ∷ []) (items-ordered values all, tt)

  mutual
    node-ordered : (n : TreeNode) (term : Option TermDef) (json : JsonValue) → node_json table term n ≡ Some json → IsOrdered json
    node-ordered (tree id types graph properties reverses) term json e =
        lone-or-map term (lone_id id types graph properties reverses) _ json
        (made-ordered id types graph properties reverses json (λ values at. nodes-ordered graph values at)
        (λ groups at. properties-ordered properties groups at) (λ groups at. reverses-ordered reverses groups at))
        e

    nodes-ordered : (ns : TreeNodes) (values : List JsonValue) → nodes_json table ns ≡ Some values → AllByRecursion IsOrdered values
    nodes-ordered no_nodes values e = let same : [] ≡ values = cc in subst (AllByRecursion IsOrdered) same tt
    nodes-ordered (node first rest) values e =
        let (json, at, e1) = stepped (node_json table None first) (λ json. nodes_json table rest >>= (λ others. Some (json ∷ others))) values e in
        let (others, at', e2) = stepped (nodes_json table rest) (λ others. Some (json ∷ others)) values e1 in
        let same : json ∷ others ≡ values = cc (e2) in
        subst (AllByRecursion IsOrdered) same (node-ordered first None json at, nodes-ordered rest others at')

    properties-ordered : (ps : TreeProperties) (groups : List (List ℕ × List Filed)) → properties_filed table ps ≡ Some groups → GroupsOrdered groups
    properties-ordered no_properties groups e = let same : [] ≡ groups = cc in subst GroupsOrdered same tt
    properties-ordered (property iri values rest) groups e =
        let (filed, at, e1) = stepped (values_filed table iri (is_sole values) values) (λ filed. properties_filed table rest >>= (λ others. Some ((iri, filed) ∷ others))) groups e in
        let (others, at', e2) = stepped (properties_filed table rest) (λ others. Some ((iri, filed) ∷ others)) groups e1 in
        let same : (iri, filed) ∷ others ≡ groups = cc (e2) in
        subst GroupsOrdered same (values-ordered values iri (is_sole values) filed at, properties-ordered rest others at')

    values-ordered : (es : TreeEntries) (iri : List ℕ) (sole : Bool) (filed : List Filed) → values_filed table iri sole es ≡ Some filed → FiledOrdered filed
    values-ordered no_entries iri sole filed e = let same : [] ≡ filed = cc in subst FiledOrdered same tt
    values-ordered (entry first rest) iri sole filed e =
        let term : Option TermDef = chosen table iri (pick_of table sole first) in
        let (key, at, e1) = stepped (short table iri true (pick_of table sole first)) (λ key. value_json table term first >>= (λ json. values_filed table iri sole rest >>= (λ others. Some (filed_value table key term first json ∷ others)))) filed e in
        let (json, at', e2) = stepped (value_json table term first) (λ json. values_filed table iri sole rest >>= (λ others. Some (filed_value table key term first json ∷ others))) filed e1 in
        let (others, at'', e3) = stepped (values_filed table iri sole rest) (λ others. Some (filed_value table key term first json ∷ others)) filed e2 in
        let same : filed_value table key term first json ∷ others ≡ filed = cc (e3) in
        subst FiledOrdered same (piece-ordered table term first json (value-ordered first term json at'), values-ordered rest iri sole others at'')

    value-ordered : (v : TreeEntry) (term : Option TermDef) (json : JsonValue) → value_json table term v ≡ Some json → IsOrdered json
    value-ordered (node_entry value) term json e = node-ordered value term json e
    value-ordered (literal_entry literal) term json e = literal-ordered table term literal json e
    value-ordered (list_entry items) term json e =
        let (inner, at, e1) = stepped (items_json table term items) (λ inner. Some (list_json table term inner)) json e in
        let same : list_json table term inner ≡ json = cc (e1) in
        subst IsOrdered same (list-json-ordered term inner (items-json-ordered items term inner at))
    value-ordered (fallback_entry value) term json e = default-ordered table term value json e
    value-ordered empty_fallback term json e = let same : array (items_of []) ≡ json = cc in subst IsOrdered same tt

    items-json-ordered : (es : TreeEntries) (term : Option TermDef) (values : List JsonValue) → items_json table term es ≡ Some values → AllByRecursion IsOrdered values
    items-json-ordered no_entries term values e = let same : [] ≡ values = cc in subst (AllByRecursion IsOrdered) same tt
    items-json-ordered (entry first rest) term values e =
        let (json, at, e1) = stepped (value_json table term first) (λ json. items_json table term rest >>= (λ others. Some (json ∷ others))) values e in
        let (others, at', e2) = stepped (items_json table term rest) (λ others. Some (json ∷ others)) values e1 in
        let same : json ∷ others ≡ values = cc (e2) in
        subst (AllByRecursion IsOrdered) same (value-ordered first term json at, items-json-ordered rest term others at')

    reverses-ordered : (rs : TreeReverses) (groups : List (List ℕ × List Filed)) → reverses_filed table rs ≡ Some groups → GroupsOrdered groups
    reverses-ordered no_reverses groups e = let same : [] ≡ groups = cc in subst GroupsOrdered same tt
    reverses-ordered (reverse iri nodes rest) groups e =
        let (filed, at, e1) = stepped (pointing_filed table iri nodes) (λ filed. reverses_filed table rest >>= (λ others. Some ((iri, filed) ∷ others))) groups e in
        let (others, at', e2) = stepped (reverses_filed table rest) (λ others. Some ((iri, filed) ∷ others)) groups e1 in
        let same : (iri, filed) ∷ others ≡ groups = cc (e2) in
        subst GroupsOrdered same (pointing-ordered nodes iri filed at, reverses-ordered rest others at')

    pointing-ordered : (ns : TreeNodes) (iri : List ℕ) (filed : List Filed) → pointing_filed table iri ns ≡ Some filed → FiledOrdered filed
    pointing-ordered no_nodes iri filed e = let same : [] ≡ filed = cc in subst FiledOrdered same tt
    pointing-ordered (node first rest) iri filed e =
        let pick = reverse_pick table (tree_id first) in
        let term : Option TermDef = chosen table iri pick in
        let (key, at, e1) = stepped (short table iri true pick) (λ key. node_json table term first >>= (λ json. pointing_filed table iri rest >>= (λ others. Some (record { key = key; term = term; piece = whole_value json } ∷ others)))) filed e in
        let (json, at', e2) = stepped (node_json table term first) (λ json. pointing_filed table iri rest >>= (λ others. Some (record { key = key; term = term; piece = whole_value json } ∷ others))) filed e1 in
        let (others, at'', e3) = stepped (pointing_filed table iri rest) (λ others. Some (record { key = key; term = term; piece = whole_value json } ∷ others)) filed e2 in
        let made : Filed = record { key = key; term = term; piece = whole_value json } in
        let same : made ∷ others ≡ filed = cc (e3) in
        subst FiledOrdered same (node-ordered first term json at', pointing-ordered rest iri others at'')

  pub compact-ordered : (root : TreeNode) (json : JsonValue) → compact table root ≡ Some json → IsOrdered json
  compact-ordered root json e = node-ordered root None json e
