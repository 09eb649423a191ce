-- The parts of a node's map, as the program makes them, are those of the definition.
use Rattle.std.proofs.Common.{◌≡◌, ℕ, Bool, true, List, [], ◌∷◌, ◌++◌, Option, Some, None, refl, ap}
use Rattle.lf_model.specs.declared.table.TermTable.{TermTable}
use Rattle.lf_model.specs.declared.table.TermDef.{TermDef}
use Rattle.lf_model.specs.JsonData.{JsonValue}
use Rattle.lf_model.specs.TreeData.{TreeNode, tree, TreeEntry, entries_of, TreeEntries, nodes_of, properties_of, reverses_of}
use Rattle.lf_model.specs.TreeBridge.{Property, Reverse}
use Rattle.def_selection.specs.Chosen.{chosen}
use Rattle.def_selection.specs.Iris.{short}
use Rattle.def_documents.specs.Trying.{◌>>=◌}
use Rattle.def_documents.specs.Entries.{Filed, whole_value}
use Rattle.def_documents.specs.Grouping.{object_of}
use Rattle.def_documents.specs.Nodes.{filed_value, id_entry, is_sole, lone_id, node_json, nodes_json, pointing_filed, properties_filed, reference_or_map, reverses_filed, type_entry, value_json, values_filed}
use Rattle.def_documents.specs.Picks.{pick_of, reverse_pick, tree_id}
use Rattle.lf_compact.specs.Nodes.{lone_id_of, map_json, node_entries, one_pointing, one_property, one_reverse, one_value}
use Rattle.lf_compact.proofs.Traversed.{step_then}

-- first the beginning, then the rest
in-two : {E J : Type 0} (join : E → E → E) (a b : Option E) (rest : E → Option J) →
    (a >>= (λ x. b >>= (λ y. rest (join x y)))) ≡ ((a >>= (λ x. b >>= (λ y. Some (join x y)))) >>= rest)
in-two join None b rest = refl
in-two join (Some x) None rest = refl
in-two join (Some x) (Some y) rest = refl

pub node-map : (table : TermTable) (term : Option TermDef) (node : TreeNode) →
    node_json table term node ≡ reference_or_map table term (lone_id_of node) (map_json table node)
node-map table term (tree id types graph properties reverses) =
    ap (reference_or_map table term (lone_id id types graph properties reverses))
    (in-two {E = List (List ℕ × JsonValue)} (λ x y. x ++ y) (id_entry table id) (type_entry table types)
    (λ entries. nodes_json table graph >>= (λ inner. properties_filed table properties >>= (λ filed. reverses_filed table reverses >>= (λ pointing.
    Some (object_of (node_entries table entries inner filed pointing)))))))

-- ---- one value, then the others

abbrev some_pair : {K C : Type 0} → K → C → Option (K × C)
some_pair key term = Some (key, term)

abbrev named : {A : Type 0} → List ℕ → A → List ℕ × A
named iri values = (iri, values)

value-then : {K C V F : Type 0} (key : Option K) (term : C) (json : C → Option V) (file : K → C → V → F) (rest : Option (List F)) →
    (key >>= (λ k. json term >>= (λ v. rest >>= (λ others. Some (file k term v ∷ others)))))
    ≡ step_then ((key >>= (λ k. some_pair k term)) >>= (λ u. json u.1 >>= (λ v. Some (file u.0 u.1 v)))) rest
value-then None term json file rest = refl
value-then {K} {C} {V} {F} (Some k) term json file rest = go (json term)
  where
    go : (o : Option V) → (o >>= (λ v. rest >>= (λ others. Some (file k term v ∷ others)))) ≡ step_then (o >>= (λ v. Some (file k term v))) rest
    go None = refl
    go (Some v) = refl

pub value-step : (table : TermTable) (iri : List ℕ) (sole : Bool) (value : TreeEntry) (rest : List TreeEntry) →
    values_filed table iri sole (entries_of (value ∷ rest)) ≡ step_then (one_value table iri sole value) (values_filed table iri sole (entries_of rest))
value-step table iri sole value rest =
    value-then (short table iri true (pick_of table sole value)) (chosen table iri (pick_of table sole value))
    (λ term. value_json table term value) (λ key term json. filed_value table key term value json) (values_filed table iri sole (entries_of rest))

pub pointing-step : (table : TermTable) (iri : List ℕ) (node : TreeNode) (rest : List TreeNode) →
    pointing_filed table iri (nodes_of (node ∷ rest)) ≡ step_then (one_pointing table iri node) (pointing_filed table iri (nodes_of rest))
pointing-step table iri node rest =
    value-then {F = Filed} (short table iri true (reverse_pick table (tree_id node))) (chosen table iri (reverse_pick table (tree_id node)))
    (λ term. node_json table term node) (λ key term json. record { key = key; term = term; piece = whole_value json }) (pointing_filed table iri (nodes_of rest))

-- ---- one property, then the others

named-then : {A : Type 0} (iri : List ℕ) (values : Option A) (rest : Option (List (List ℕ × A))) →
    (values >>= (λ filed. rest >>= (λ others. Some (named iri filed ∷ others)))) ≡ step_then (values >>= (λ filed. Some (named iri filed))) rest
named-then iri None rest = refl
named-then iri (Some filed) rest = refl

pub property-step : (table : TermTable) (p : Property) (rest : List Property) →
    properties_filed table (properties_of (p ∷ rest)) ≡ step_then (one_property table p) (properties_filed table (properties_of rest))
property-step table p rest = named-then p.0 (values_filed table p.0 (is_sole p.1) p.1) (properties_filed table (properties_of rest))

pub reverse-step : (table : TermTable) (r : Reverse) (rest : List Reverse) →
    reverses_filed table (reverses_of (r ∷ rest)) ≡ step_then (one_reverse table r) (reverses_filed table (reverses_of rest))
reverse-step table r rest = named-then r.0 (pointing_filed table r.0 r.1) (reverses_filed table (reverses_of rest))
