-- Nodes with an id alone, and sole values.
use Rattle.std.proofs.Common.{◌≡◌, ℕ, Bool, true, false, ◌&&◌, cond, List, [], ◌∷◌, Option, Some, None, refl, ap, sym, ◌∙◌, length, arith}
use Rattle.std.specs.Prelude.{nat_eq}
use Rattle.std.proofs.Math.Dec.{eqb-suc-zero}
use Rattle.std.proofs.lemmas.Bool.{ne_eqb}
use Rattle.lf_rdf.specs.declared.term.Term.{Term}
use Rattle.lf_model.specs.declared.tree.Tree.{Tree, out-Tree}
use Rattle.lf_model.specs.declared.tree.TreeProp.{TreeProp}
use Rattle.lf_model.specs.declared.tree.TreeReverse.{TreeReverse}
use Rattle.lf_model.specs.declared.tree.TreeValue.{TreeValue}
use Rattle.lf_model.specs.TreeBridge.{tree_data, nodes_data, properties_data, reverses_data, entries_data}
use Rattle.lf_model.specs.TreeData.{tree, TreeNode}
use Rattle.lf_model.proofs.TreeLemmas.{tree_data_out}
use Rattle.def_documents.specs.Nodes.{is_sole}
use Rattle.lf_compact.specs.Nodes.{has_only_id, lone_id_of}

pub sole_one : (xs : List TreeValue) → nat_eq (length xs) 1 ≡ is_sole (entries_data xs)
sole_one [] = refl
sole_one (x ∷ []) = refl
sole_one (x ∷ y ∷ rest) = ne_eqb (length (x ∷ y ∷ rest)) 1 (λ e. omega arith)

parts-empty : (id : Option Term) (types : List Term) (graph : List Tree) (props : List TreeProp) (reverses : List TreeReverse) →
    has_only_id (tree id types (nodes_data graph) (properties_data props) (reverses_data reverses))
    ≡ (nat_eq (length types) 0 && nat_eq (length graph) 0 && nat_eq (length props) 0 && nat_eq (length reverses) 0)
parts-empty id [] [] [] [] = refl
parts-empty id [] [] [] (r ∷ rs) = sym (eqb-suc-zero (length rs))
parts-empty id [] [] (p ∷ ps) reverses = sym (ap (λ b. b && nat_eq (length reverses) 0) (eqb-suc-zero (length ps)))
parts-empty id [] (g ∷ gs) props reverses = sym (ap (λ b. b && nat_eq (length props) 0 && nat_eq (length reverses) 0) (eqb-suc-zero (length gs)))
parts-empty id (t ∷ ts) graph props reverses =
    sym (ap (λ b. b && nat_eq (length graph) 0 && nat_eq (length props) 0 && nat_eq (length reverses) 0) (eqb-suc-zero (length ts)))

pub only_id : (t : Tree) → has_only_id (tree_data t)
    ≡ (nat_eq (length (out-Tree t).types) 0 && nat_eq (length (out-Tree t).graph) 0 && nat_eq (length (out-Tree t).props) 0 && nat_eq (length (out-Tree t).reverse) 0)
only_id t =
    ap has_only_id (tree_data_out t)
    ∙ parts-empty (out-Tree t).id (out-Tree t).types (out-Tree t).graph (out-Tree t).props (out-Tree t).reverse

lone-parts : (id : Option Term) (types : List Term) (graph : List Tree) (props : List TreeProp) (reverses : List TreeReverse) →
    lone_id_of (tree id types (nodes_data graph) (properties_data props) (reverses_data reverses))
    ≡ cond (has_only_id (tree id types (nodes_data graph) (properties_data props) (reverses_data reverses))) id None
lone-parts id [] [] [] [] = refl
lone-parts id [] [] [] (r ∷ rs) = refl
lone-parts id [] [] (p ∷ ps) reverses = refl
lone-parts id [] (g ∷ gs) props reverses = refl
lone-parts id (t ∷ ts) graph props reverses = refl

-- the lone id, where there is one
pub lone : (t : Tree) → lone_id_of (tree_data t) ≡ cond (has_only_id (tree_data t)) (out-Tree t).id None
lone t =
    ap lone_id_of (tree_data_out t)
    ∙ lone-parts (out-Tree t).id (out-Tree t).types (out-Tree t).graph (out-Tree t).props (out-Tree t).reverse
    ∙ ap (λ n. cond (has_only_id n) (out-Tree t).id None) (sym (tree_data_out t))
