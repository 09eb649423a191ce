-- What pruning leaves as it is.
use Rattle.std.proofs.Common.{◌≡◌, ◌≢◌, ℕ, ◌+◌, ◌==◌, Bool, true, false, List, [], ◌∷◌, ◌++◌, Option, Some, None, cond, refl, sym, ap, ◌∙◌, arith}
use Rattle.std.specs.Cmp.Lexicographic.{bytes_decides}
use Rattle.std.proofs.lemmas.Bool.{eqb-true}
use Rattle.lf_rdf.specs.declared.term.Term.{Term}
use Rattle.lf_rdf.specs.declared.term.Term.TheVariants.{Iri, Blank, Literal}
use Rattle.lf_rdf.specs.Equality.{text_eq}
use Rattle.lf_model.specs.TreeData.{TreeNode, tree, TreeNodes, no_nodes, node, TreeProperties, no_properties, property, TreeReverses, no_reverses, reverse, TreeEntry, node_entry, literal_entry, list_entry, fallback_entry, empty_fallback, TreeEntries, no_entries, entry}
use Rattle.def_framing.specs.Items.{node_items, nodes_items, properties_items, reverses_items, entry_items, entries_items}
use Rattle.def_documents.specs.Pruning.{count_node, count_nodes, count_properties, count_reverses, count_entry, count_entries, count_types, count_id, count_term, label_count, prune_id, prune_node, prune_nodes, prune_properties, prune_reverses, prune_entry, prune_entries}

pub counts-append : (some others : List TreeNode) (label : List ℕ) → label_count (some ++ others) label ≡ label_count some label + label_count others label
counts-append [] others label = omega arith
counts-append (first ∷ rest) others label = let ih = counts-append rest others label in omega arith

-- a blank node of another label isn't counted
other_label : (label other : List ℕ) → ¬ (other ≡ label) → count_term label (Blank other) ≡ 0
other_label label other differ = go (text_eq other label) (bytes_decides other label).0
  where
    go : (b : Bool) → (b ≡ true → other ≡ label) → cond {A = ℕ} b 1 0 ≡ 0
    go true same = absurd (differ (same refl))
    go false same = refl

module _ (counts : List ℕ → ℕ) (label : List ℕ) (others : counts label ≢ 1) where
  id-kept : (id : Option Term) → count_id label (prune_id counts id) ≡ count_id label id
  id-kept None = refl
  id-kept (Some (Iri iri)) = refl
  id-kept (Some (Literal lexical datatype language)) = refl
  id-kept (Some (Blank other)) = go (counts other == 1) refl
    where
      go : (b : Bool) → (counts other == 1) ≡ b → count_id label (cond b None (Some (Blank other))) ≡ count_term label (Blank other)
      go true once = sym (other_label label other (λ same. others (ap counts (sym same) ∙ eqb-true (counts other) 1 once)))
      go false more = refl

  mutual
    pub node-kept : (n : TreeNode) → count_node label (prune_node counts n) ≡ count_node label n
    node-kept (tree id types graph properties reverses) =
        λ i. id-kept id i + count_types label types + nodes-kept graph i + properties-kept properties i + reverses-kept reverses i

    nodes-kept : (ns : TreeNodes) → count_nodes label (prune_nodes counts ns) ≡ count_nodes label ns
    nodes-kept no_nodes = refl
    nodes-kept (node first rest) = λ i. node-kept first i + nodes-kept rest i

    properties-kept : (ps : TreeProperties) → count_properties label (prune_properties counts ps) ≡ count_properties label ps
    properties-kept no_properties = refl
    properties-kept (property iri values rest) = λ i. entries-kept values i + properties-kept rest i

    reverses-kept : (rs : TreeReverses) → count_reverses label (prune_reverses counts rs) ≡ count_reverses label rs
    reverses-kept no_reverses = refl
    reverses-kept (reverse iri nodes rest) = λ i. nodes-kept nodes i + reverses-kept rest i

    entry-kept : (e : TreeEntry) → count_entry label (prune_entry counts e) ≡ count_entry label e
    entry-kept (node_entry value) = node-kept value
    entry-kept (literal_entry literal) = refl
    entry-kept (list_entry items) = entries-kept items
    entry-kept (fallback_entry value) = refl
    entry-kept empty_fallback = refl

    entries-kept : (es : TreeEntries) → count_entries label (prune_entries counts es) ≡ count_entries label es
    entries-kept no_entries = refl
    entries-kept (entry first rest) = λ i. entry-kept first i + entries-kept rest i

module _ (counts : List ℕ → ℕ) (never : (label : List ℕ) → counts label ≢ 1) where
  id-same : (id : Option Term) → prune_id counts id ≡ id
  id-same None = refl
  id-same (Some (Iri iri)) = refl
  id-same (Some (Literal lexical datatype language)) = refl
  id-same (Some (Blank other)) = go (counts other == 1) refl
    where
      go : (b : Bool) → (counts other == 1) ≡ b → cond b None (Some (Blank other)) ≡ Some (Blank other)
      go true once = absurd (never other (eqb-true (counts other) 1 once))
      go false more = refl

  mutual
    pub node-same : (n : TreeNode) → prune_node counts n ≡ n
    node-same (tree id types graph properties reverses) =
        λ i. tree (id-same id i) types (nodes-same graph i) (properties-same properties i) (reverses-same reverses i)

    nodes-same : (ns : TreeNodes) → prune_nodes counts ns ≡ ns
    nodes-same no_nodes = refl
    nodes-same (node first rest) = λ i. node (node-same first i) (nodes-same rest i)

    properties-same : (ps : TreeProperties) → prune_properties counts ps ≡ ps
    properties-same no_properties = refl
    properties-same (property iri values rest) = λ i. property iri (entries-same values i) (properties-same rest i)

    reverses-same : (rs : TreeReverses) → prune_reverses counts rs ≡ rs
    reverses-same no_reverses = refl
    reverses-same (reverse iri nodes rest) = λ i. reverse iri (nodes-same nodes i) (reverses-same rest i)

    entry-same : (e : TreeEntry) → prune_entry counts e ≡ e
    entry-same (node_entry value) = ap node_entry (node-same value)
    entry-same (literal_entry literal) = refl
    entry-same (list_entry items) = ap list_entry (entries-same items)
    entry-same (fallback_entry value) = refl
    entry-same empty_fallback = refl

    entries-same : (es : TreeEntries) → prune_entries counts es ≡ es
    entries-same no_entries = refl
    entries-same (entry first rest) = λ i. entry (entry-same first i) (entries-same rest i)

module _ (counts : List ℕ → ℕ) where
  mutual
    unfolding node_items

    pub items-kept : (n : TreeNode) → node_items (prune_node counts n) ≡ node_items n
    items-kept (tree id types graph properties reverses) =
        λ i. 1 + (nodes_items-kept graph i + (properties_items-kept properties i + reverses_items-kept reverses i))

    nodes_items-kept : (ns : TreeNodes) → nodes_items (prune_nodes counts ns) ≡ nodes_items ns
    nodes_items-kept no_nodes = refl
    nodes_items-kept (node first rest) = λ i. items-kept first i + nodes_items-kept rest i

    properties_items-kept : (ps : TreeProperties) → properties_items (prune_properties counts ps) ≡ properties_items ps
    properties_items-kept no_properties = refl
    properties_items-kept (property iri values rest) = λ i. entries_items-kept values i + properties_items-kept rest i

    reverses_items-kept : (rs : TreeReverses) → reverses_items (prune_reverses counts rs) ≡ reverses_items rs
    reverses_items-kept no_reverses = refl
    reverses_items-kept (reverse iri nodes rest) = λ i. nodes_items-kept nodes i + reverses_items-kept rest i

    entry_items-kept : (e : TreeEntry) → entry_items (prune_entry counts e) ≡ entry_items e
    entry_items-kept (node_entry value) = items-kept value
    entry_items-kept (literal_entry literal) = refl
    entry_items-kept (list_entry items) = λ i. 1 + entries_items-kept items i
    entry_items-kept (fallback_entry value) = refl
    entry_items-kept empty_fallback = refl

    entries_items-kept : (es : TreeEntries) → entries_items (prune_entries counts es) ≡ entries_items es
    entries_items-kept no_entries = refl
    entries_items-kept (entry first rest) = λ i. entry_items-kept first i + entries_items-kept rest i
