-- Views that were learnt and are kept.
use Rattle.std.specs.Prelude.{◌≡◌, List, ℕ, Option, Some, None, option_map}
use Rattle.std.specs.BTreeMap.{BTreeMap, get}
use Rattle.lf_rdf.specs.declared.quad.Quad.{Quad}
use Rattle.lf_rdf.specs.declared.term.Term.{Term}
use Rattle.lf_rdf.specs.declared.question.GraphRef.{GraphRef}
use Rattle.lf_model.specs.declared.value.NodeView.{NodeView}
use Rattle.def_datasets.specs.Views.{view_of}
use Rattle.lf_oracle.specs.Asking.{Learns}
use Rattle.lf_oracle.specs.Nearby.{IsNearOne, IsOfNode}
use Rattle.lf_oracle.specs.NodeViews.{view_data}
use Rattle.lf_kept.specs.Keys.{key_cmp}
use Rattle.lf_kept.specs.declared.entry.Kept.{Kept}
use Rattle.lf_kept.specs.declared.key.NodeKey.{NodeKey}

-- what is learnt of a node by questions that nobody tells
abbrev pub ViewIsLearnt : List Quad → GraphRef → Term → ℕ → ℕ → Option NodeView → Type 0
ViewIsLearnt dataset g id first last found =
    Learns (IsNearOne dataset (IsOfNode g id)) dataset None None first last
    (λ other. view_of other g id) (option_map view_data found)

-- what was kept was learnt by as many questions as it says
abbrev pub IsKept : List Quad → Kept → Type 0
IsKept dataset kept = ViewIsLearnt dataset kept.graph kept.id 0 kept.asked kept.found

-- all that is kept was
abbrev pub AllKept : List Quad → BTreeMap NodeKey Kept → Type 0
AllKept dataset kept =
    (key : NodeKey) (one : Kept) → get key_cmp kept key ≡ Some one → IsKept dataset one

-- what is given again, where it was kept; otherwise no step is made
abbrev pub IsAgain : List Quad → GraphRef → Term → ℕ → ℕ → Option (Option NodeView) → Type 0
IsAgain dataset g id first last None = last ≡ first
IsAgain dataset g id first last (Some found) = ViewIsLearnt dataset g id first last found
