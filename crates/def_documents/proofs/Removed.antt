-- What pruning removes.
use Rattle.std.proofs.Common.{◌≡◌, ℕ, ◌==◌, Bool, true, false, ◌||◌, List, Option, Some, None, cond, refl, ap, ◌∙◌}
use Rattle.std.specs.Cmp.Lexicographic.{bytes_decides}
use Rattle.std.proofs.lemmas.Bool.{eq-eqb, both_ways, false_from_ne_true}
use Rattle.lf_rdf.specs.declared.term.Term.{Term}
use Rattle.lf_rdf.specs.declared.term.Term.TheVariants.{Iri, Blank, Literal}
use Rattle.lf_rdf.specs.Equality.{text_eq}
use Rattle.lf_model.specs.TreeData.{TreeNode, tree, TreeNodes, no_nodes, node, TreeProperties, no_properties, property, TreeReverses, no_reverses, reverse, TreeEntry, node_entry, literal_entry, list_entry, fallback_entry, empty_fallback, TreeEntries, no_entries, entry}
use Rattle.def_documents.specs.Ids.{is_id, node_has_id, nodes_have_id, properties_have_id, reverses_have_id, entry_has_id, entries_have_id}
use Rattle.def_documents.specs.Pruning.{prune_id, prune_node, prune_nodes, prune_properties, prune_reverses, prune_entry, prune_entries}

module _ (counts : List ℕ → ℕ) (label : List ℕ) (once : counts label ≡ 1) where
  id-gone : (id : Option Term) → is_id label (prune_id counts id) ≡ false
  id-gone None = refl
  id-gone (Some (Iri iri)) = refl
  id-gone (Some (Literal lexical datatype language)) = refl
  id-gone (Some (Blank other)) = go (counts other == 1) refl
    where
      go : (b : Bool) → (counts other == 1) ≡ b → is_id label (cond b None (Some (Blank other))) ≡ false
      go true at = refl
      go false at =
          false_from_ne_true (text_eq other label)
          (λ same. both_ways (counts other == 1) at (eq-eqb (counts other) 1 (ap counts ((bytes_decides other label).0 same) ∙ once)))

  mutual
    pub node-gone : (n : TreeNode) → node_has_id label (prune_node counts n) ≡ false
    node-gone (tree id types graph properties reverses) =
        λ i. id-gone id i || nodes-gone graph i || properties-gone properties i || reverses-gone reverses i

    nodes-gone : (ns : TreeNodes) → nodes_have_id label (prune_nodes counts ns) ≡ false
    nodes-gone no_nodes = refl
    nodes-gone (node first rest) = λ i. node-gone first i || nodes-gone rest i

    properties-gone : (ps : TreeProperties) → properties_have_id label (prune_properties counts ps) ≡ false
    properties-gone no_properties = refl
    properties-gone (property iri values rest) = λ i. entries-gone values i || properties-gone rest i

    reverses-gone : (rs : TreeReverses) → reverses_have_id label (prune_reverses counts rs) ≡ false
    reverses-gone no_reverses = refl
    reverses-gone (reverse iri nodes rest) = λ i. nodes-gone nodes i || reverses-gone rest i

    entry-gone : (e : TreeEntry) → entry_has_id label (prune_entry counts e) ≡ false
    entry-gone (node_entry value) = node-gone value
    entry-gone (literal_entry literal) = refl
    entry-gone (list_entry items) = entries-gone items
    entry-gone (fallback_entry value) = refl
    entry-gone empty_fallback = refl

    entries-gone : (es : TreeEntries) → entries_have_id label (prune_entries counts es) ≡ false
    entries-gone no_entries = refl
    entries-gone (entry first rest) = λ i. entry-gone first i || entries-gone rest i
