-- A tree of which no IRI is confused is compacted.
use Rattle.std.proofs.Common.{◌≡◌, ℕ, Bool, true, false, ◌||◌, List, [], ◌∷◌, Option, Some, None, cond, refl, ap, is_some, map, ◌==◌}
use Rattle.std.specs.List.{list_any}
use Rattle.std.specs.Option.{option_map, option_or}
use Rattle.std.proofs.lemmas.Bool.{or_parts}
use Rattle.lf_rdf.specs.declared.term.Term.{Term}
use Rattle.lf_rdf.specs.declared.term.Term.TheVariants.{Iri, Blank, Literal}
use Rattle.lf_model.specs.declared.table.TermTable.{TermTable}
use Rattle.lf_model.specs.declared.table.TermDef.{TermDef}
use Rattle.lf_model.specs.declared.frame.DefaultValue.{DefaultValue}
use Rattle.lf_model.specs.declared.frame.DefaultValue.TheVariants as default
use Rattle.lf_model.specs.JsonData.{JsonValue}
use Rattle.lf_model.specs.TreeData.{TreeNode, tree, TreeNodes, no_nodes, node, TreeProperties, no_properties, property, TreeReverses, no_reverses, reverse, TreeEntry, node_entry, literal_entry, list_entry, fallback_entry, empty_fallback, TreeEntries, no_entries, entry}
use Rattle.def_selection.specs.declared.pick.Pick.{Pick}
use Rattle.def_selection.specs.Chosen.{chosen}
use Rattle.def_selection.specs.Iris.{by_prefix, by_vocab, is_confused, no_value, short, short_node}
use Rattle.def_documents.specs.Trying.{◌>>=◌}
use Rattle.def_documents.specs.Picks.{Plain, literal_plain, pick_of, reverse_pick, scalar_plain, tree_id}
use Rattle.def_documents.specs.Values.{datatype_entry, is_bare, plain_json, reference_json, value_object}
use Rattle.def_documents.specs.Nodes.{compact, default_json, id_entry, is_sole, items_json, lone_id, node_json, nodes_json, pointing_filed, properties_filed, reference_or_map, reverses_filed, short_types, type_entry, value_json, values_filed}
use Rattle.def_documents.specs.Pruning.{prune_entries, prune_entry, prune_id, prune_node, prune_nodes, prune_properties, prune_reverses}
use Rattle.def_documents.specs.Document.{compact_all}
use Rattle.def_documents.specs.Written.{datatype_is, default_has, entries_have, entry_has, id_is, node_has, nodes_have, properties_have, reverses_have, some_id_is, types_have}

-- there is a result
abbrev pub Given : {A : Type 0} → Option A → Type 0
Given o = is_some o ≡ true

then-given : {A B : Type 0} (o : Option A) (step : A → Option B) → Given o → ((x : A) → Given (step x)) → Given (o >>= step)
then-given None step e h = cc
then-given (Some x) step e h = h x

or-given : {A : Type 0} (o p : Option A) → Given p → Given (option_or o p)
or-given None p e = e
or-given (Some x) p e = refl

cond-given : {A : Type 0} (b : Bool) (o p : Option A) → Given o → Given p → Given (cond b o p)
cond-given true o p one other = one
cond-given false o p one other = other

module _ (table : TermTable) where
  short-given : (iri : List ℕ) (vocab : Bool) (pick : Pick) → is_confused table iri ≡ false → Given (short table iri vocab pick)
  short-given iri vocab pick clear =
      let last : Option (List ℕ) = cond (is_confused table iri) None (Some iri) in
      let left : Option (List ℕ) = cond vocab (by_vocab table iri) None in
      or-given (cond vocab (option_map (λ term. term.name) (chosen table iri pick)) None)
      (option_or left (option_or (by_prefix table iri pick.has_value) last))
      (or-given left (option_or (by_prefix table iri pick.has_value) last)
      (or-given (by_prefix table iri pick.has_value) last (ap (λ b. is_some (cond b None (Some iri))) clear)))

  id-given : (vocab : Bool) (id : Term) → id_is (is_confused table) id ≡ false → Given (short_node table vocab id)
  id-given vocab (Iri iri) clear = short-given iri vocab no_value clear
  id-given vocab (Blank label) clear = refl
  id-given vocab (Literal lexical datatype language) clear = refl

  id_entry-given : (id : Option Term) → some_id_is (is_confused table) id ≡ false → Given (id_entry table id)
  id_entry-given None clear = refl
  id_entry-given (Some id) clear = then-given (short_node table false id) _ (id-given false id clear) (λ compacted. refl)

  types-given : (types : List Term) → types_have (is_confused table) types ≡ false → Given (short_types table types)
  types-given [] clear = refl
  types-given (first ∷ rest) clear =
      let both = or_parts (id_is (is_confused table) first) (types_have (is_confused table) rest) clear in
      then-given (short_node table true first) _ (id-given true first both.0)
      (λ compacted. then-given (short_types table rest) _ (types-given rest both.1) (λ others. refl))

  type_entry-given : (types : List Term) → types_have (is_confused table) types ≡ false → Given (type_entry table types)
  type_entry-given [] clear = refl
  type_entry-given (first ∷ rest) clear = then-given (short_types table (first ∷ rest)) _ (types-given (first ∷ rest) clear) (λ types. refl)

  datatype-given : (datatype : Option (List ℕ)) → datatype_is (is_confused table) datatype ≡ false → Given (datatype_entry table datatype)
  datatype-given None clear = refl
  datatype-given (Some datatype) clear = then-given (short table datatype true no_value) _ (short-given datatype true no_value clear) (λ compacted. refl)

  plain-given : (term : Option TermDef) (plain : Plain) → datatype_is (is_confused table) plain.datatype ≡ false → Given (plain_json table term plain)
  plain-given term plain clear =
      cond-given (is_bare table term plain) (Some plain.scalar) (value_object table plain) refl
      (then-given (datatype_entry table plain.datatype) _ (datatype-given plain.datatype clear) (λ part. refl))

  reference-given : (term : Option TermDef) (id : Term) → id_is (is_confused table) id ≡ false → Given (reference_json table term id)
  reference-given term id clear = then-given (short_node table _ id) _ (id-given _ id clear) (λ compacted. refl)

  default-given : (term : Option TermDef) (value : DefaultValue) → default_has (is_confused table) value ≡ false → Given (default_json table term value)
  default-given term default.Null clear = refl
  default-given term (default.Ref id) clear = reference-given term id clear
  default-given term (default.Scalar value datatype language) clear = plain-given term (scalar_plain value datatype language) clear

  lone-clear : (id : Option Term) (types : List Term) (graph : TreeNodes) (properties : TreeProperties) (reverses : TreeReverses)
      → some_id_is (is_confused table) id ≡ false → some_id_is (is_confused table) (lone_id id types graph properties reverses) ≡ false
  lone-clear id [] no_nodes no_properties no_reverses clear = clear
  lone-clear id (first ∷ rest) _ _ _ clear = refl
  lone-clear id [] (node first rest) _ _ clear = refl
  lone-clear id [] no_nodes (property iri values rest) _ clear = refl
  lone-clear id [] no_nodes no_properties (reverse iri nodes rest) clear = refl

  reference_or_map-given : (term : Option TermDef) (id : Option Term) (made : Option JsonValue) → some_id_is (is_confused table) id ≡ false
      → Given made → Given (reference_or_map table term id made)
  reference_or_map-given term None made clear given = given
  reference_or_map-given term (Some id) made clear given = reference-given term id clear

  mutual
    pub node-given : (term : Option TermDef) (n : TreeNode) → node_has (is_confused table) n ≡ false → Given (node_json table term n)
    node-given term (tree id types graph properties reverses) clear =
        let ids = or_parts (some_id_is (is_confused table) id) _ clear in
        let kinds = or_parts (types_have (is_confused table) types) _ ids.1 in
        let inner = or_parts (nodes_have (is_confused table) graph) _ kinds.1 in
        let rest = or_parts (properties_have (is_confused table) properties) (reverses_have (is_confused table) reverses) inner.1 in
        reference_or_map-given term (lone_id id types graph properties reverses) _ (lone-clear id types graph properties reverses ids.0)
        (then-given (id_entry table id) _ (id_entry-given id ids.0)
        (λ i. then-given (type_entry table types) _ (type_entry-given types kinds.0)
        (λ t. then-given (nodes_json table graph) _ (nodes-given graph inner.0)
        (λ g. then-given (properties_filed table properties) _ (properties-given properties rest.0)
        (λ p. then-given (reverses_filed table reverses) _ (reverses-given reverses rest.1) (λ r. refl))))))

    nodes-given : (ns : TreeNodes) → nodes_have (is_confused table) ns ≡ false → Given (nodes_json table ns)
    nodes-given no_nodes clear = refl
    nodes-given (node first rest) clear =
        let both = or_parts (node_has (is_confused table) first) (nodes_have (is_confused table) rest) clear in
        then-given (node_json table None first) _ (node-given None first both.0)
        (λ json. then-given (nodes_json table rest) _ (nodes-given rest both.1) (λ others. refl))

    properties-given : (ps : TreeProperties) → properties_have (is_confused table) ps ≡ false → Given (properties_filed table ps)
    properties-given no_properties clear = refl
    properties-given (property iri values rest) clear =
        let own = or_parts (is_confused table iri) _ clear in
        let both = or_parts (entries_have (is_confused table) values) (properties_have (is_confused table) rest) own.1 in
        then-given (values_filed table iri (is_sole values) values) _ (values-given iri (is_sole values) own.0 values both.0)
        (λ filed. then-given (properties_filed table rest) _ (properties-given rest both.1) (λ others. refl))

    values-given : (iri : List ℕ) (sole : Bool) → is_confused table iri ≡ false → (values : TreeEntries) → entries_have (is_confused table) values ≡ false
        → Given (values_filed table iri sole values)
    values-given iri sole own no_entries clear = refl
    values-given iri sole own (entry first rest) clear =
        let both = or_parts (entry_has (is_confused table) first) (entries_have (is_confused table) rest) clear in
        let term : Option TermDef = chosen table iri (pick_of table sole first) in
        then-given (short table iri true (pick_of table sole first)) _ (short-given iri true (pick_of table sole first) own)
        (λ key. then-given (value_json table term first) _ (value-given term first both.0)
        (λ json. then-given (values_filed table iri sole rest) _ (values-given iri sole own rest both.1) (λ others. refl)))

    value-given : (term : Option TermDef) (value : TreeEntry) → entry_has (is_confused table) value ≡ false → Given (value_json table term value)
    value-given term (node_entry value) clear = node-given term value clear
    value-given term (literal_entry literal) clear = plain-given term (literal_plain literal) clear
    value-given term (list_entry items) clear = then-given (items_json table term items) _ (items-given term items clear) (λ inner. refl)
    value-given term (fallback_entry value) clear = default-given term value clear
    value-given term empty_fallback clear = refl

    items-given : (term : Option TermDef) (items : TreeEntries) → entries_have (is_confused table) items ≡ false → Given (items_json table term items)
    items-given term no_entries clear = refl
    items-given term (entry first rest) clear =
        let both = or_parts (entry_has (is_confused table) first) (entries_have (is_confused table) rest) clear in
        then-given (value_json table term first) _ (value-given term first both.0)
        (λ json. then-given (items_json table term rest) _ (items-given term rest both.1) (λ others. refl))

    reverses-given : (rs : TreeReverses) → reverses_have (is_confused table) rs ≡ false → Given (reverses_filed table rs)
    reverses-given no_reverses clear = refl
    reverses-given (reverse iri nodes rest) clear =
        let own = or_parts (is_confused table iri) _ clear in
        let both = or_parts (nodes_have (is_confused table) nodes) (reverses_have (is_confused table) rest) own.1 in
        then-given (pointing_filed table iri nodes) _ (pointing-given iri own.0 nodes both.0)
        (λ filed. then-given (reverses_filed table rest) _ (reverses-given rest both.1) (λ others. refl))

    pointing-given : (iri : List ℕ) → is_confused table iri ≡ false → (ns : TreeNodes) → nodes_have (is_confused table) ns ≡ false
        → Given (pointing_filed table iri ns)
    pointing-given iri own no_nodes clear = refl
    pointing-given iri own (node first rest) clear =
        let both = or_parts (node_has (is_confused table) first) (nodes_have (is_confused table) rest) clear in
        let term : Option TermDef = chosen table iri (reverse_pick table (tree_id first)) in
        then-given (short table iri true (reverse_pick table (tree_id first))) _ (short-given iri true (reverse_pick table (tree_id first)) own)
        (λ key. then-given (node_json table term first) _ (node-given term first both.0)
        (λ json. then-given (pointing_filed table iri rest) _ (pointing-given iri own rest both.1) (λ others. refl)))

-- pruning leaves the IRIs as they are
module _ (counts : List ℕ → ℕ) (test : List ℕ → Bool) where
  id-alike : (id : Option Term) → some_id_is test (prune_id counts id) ≡ some_id_is test id
  id-alike None = refl
  id-alike (Some (Iri iri)) = refl
  id-alike (Some (Literal lexical datatype language)) = refl
  id-alike (Some (Blank label)) = go (counts label == 1)
    where
      go : (b : Bool) → some_id_is test (cond b None (Some (Blank label))) ≡ false
      go true = refl
      go false = refl

  mutual
    pub node-alike : (n : TreeNode) → node_has test (prune_node counts n) ≡ node_has test n
    node-alike (tree id types graph properties reverses) =
        λ i. id-alike id i || (types_have test types || (nodes-alike graph i || (properties-alike properties i || reverses-alike reverses i)))

    nodes-alike : (ns : TreeNodes) → nodes_have test (prune_nodes counts ns) ≡ nodes_have test ns
    nodes-alike no_nodes = refl
    nodes-alike (node first rest) = λ i. node-alike first i || nodes-alike rest i

    properties-alike : (ps : TreeProperties) → properties_have test (prune_properties counts ps) ≡ properties_have test ps
    properties-alike no_properties = refl
    properties-alike (property iri values rest) = λ i. test iri || (entries-alike values i || properties-alike rest i)

    reverses-alike : (rs : TreeReverses) → reverses_have test (prune_reverses counts rs) ≡ reverses_have test rs
    reverses-alike no_reverses = refl
    reverses-alike (reverse iri nodes rest) = λ i. test iri || (nodes-alike nodes i || reverses-alike rest i)

    entry-alike : (e : TreeEntry) → entry_has test (prune_entry counts e) ≡ entry_has test e
    entry-alike (node_entry value) = node-alike value
    entry-alike (literal_entry literal) = refl
    entry-alike (list_entry items) = entries-alike items
    entry-alike (fallback_entry value) = refl
    entry-alike empty_fallback = refl

    entries-alike : (es : TreeEntries) → entries_have test (prune_entries counts es) ≡ entries_have test es
    entries-alike no_entries = refl
    entries-alike (entry first rest) = λ i. entry-alike first i || entries-alike rest i

pub all-given : (table : TermTable) (all : List TreeNode) → list_any (node_has (is_confused table)) all ≡ false → Given (compact_all table all)
all-given table [] clear = refl
all-given table (first ∷ rest) clear =
    let both = or_parts (node_has (is_confused table) first) (list_any (node_has (is_confused table)) rest) clear in
    then-given (compact table first) _ (node-given table None first both.0)
    (λ json. then-given (compact_all table rest) _ (all-given table rest both.1) (λ others. refl))

pub pruned-alike : (counts : List ℕ → ℕ) (test : List ℕ → Bool) (all : List TreeNode) → list_any (node_has test) (map (prune_node counts) all) ≡ list_any (node_has test) all
pruned-alike counts test [] = refl
pruned-alike counts test (first ∷ rest) = λ i. node-alike counts test first i || pruned-alike counts test rest i
