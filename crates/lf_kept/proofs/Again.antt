-- What was learnt once is learnt again by the same questions.
use Rattle.std.proofs.Common.{◌≡◌, ℕ, ◌+◌, Bool, true, false, cond, List, length, Option, Some, None, refl, sym, subst, ◌∙◌, arith, is_eq}
use Rattle.std.specs.BTreeMap.{BTreeMap, get}
use Rattle.lf_rdf.specs.declared.quad.Quad.{Quad}
use Rattle.lf_rdf.specs.declared.term.Term.{Term}
use Rattle.lf_rdf.specs.declared.question.GraphRef.{GraphRef}
use Rattle.lf_rdf.specs.declared.question.Question.{Question}
use Rattle.lf_model.specs.declared.value.NodeView.{NodeView}
use Rattle.lf_oracle.specs.Asking.{Learns}
use Rattle.lf_kept.specs.Keys.{key_cmp}
use Rattle.lf_kept.specs.declared.entry.Kept.{Kept}
use Rattle.lf_kept.specs.declared.key.NodeKey.{NodeKey}
use Rattle.lf_kept.specs.Views.{AllKept, IsKept, ViewIsLearnt}

-- what was learnt, from another number of steps on and with nothing told
pub moved_on : {A : Type 0} {Near : Question → Type 0} {dataset : List Quad} {before after : Option (List Question)} {first last : ℕ} {gives : List Quad → A} {given : A} (start end : ℕ) →
    Learns Near dataset before after first last gives given → ((n : ℕ) → last ≡ first + n → end ≡ start + n) →
    Learns Near dataset None None start end gives given
moved_on start end learnt counted =
    record { asked = learnt.asked; told = refl; counted = counted (length learnt.asked) learnt.counted; near = learnt.near; same = learnt.same }

-- what was learnt with nothing told
pub untold : {A : Type 0} {Near : Question → Type 0} {dataset : List Quad} {before after : Option (List Question)} {first last : ℕ} {gives : List Quad → A} {given : A} →
    Learns Near dataset before after first last gives given → Learns Near dataset None None first last gives given
untold learnt = record { asked = learnt.asked; told = refl; counted = learnt.counted; near = learnt.near; same = learnt.same }

-- the same, where the quads are known by another name
pub untold_of : {A : Type 0} {dataset later : List Quad} {before after : Option (List Question)} {first last : ℕ} {gives : List Quad → A} {given : A} (Near : List Quad → Question → Type 0) → later ≡ dataset →
    Learns (Near later) later before after first last gives given → Learns (Near dataset) dataset None None first last gives given
untold_of {first = first} {last = last} {gives = gives} {given = given} Near same learnt =
    subst (λ d. Learns (Near d) d None None first last gives given) same (untold learnt)

-- a kept view is that of its node, with as many steps
pub kept_again : (dataset : List Quad) (one : Kept) (g : GraphRef) (id : Term) (first last : ℕ) (found : Option NodeView) →
    IsKept dataset one → one.graph ≡ g → one.id ≡ id → found ≡ one.found → last ≡ first + one.asked → ViewIsLearnt dataset g id first last found
kept_again dataset one g id first last found kept at_graph at_id same counted =
    subst (λ h. ViewIsLearnt dataset h id first last found) at_graph
    (subst (λ x. ViewIsLearnt dataset one.graph x first last found) at_id
    (subst (λ v. ViewIsLearnt dataset one.graph one.id first last v) (sym same)
    (moved_on first last kept (λ n e. omega (arith, e, counted)))))

-- all that is kept with one more
pub one_more : (dataset : List Quad) (old new : BTreeMap NodeKey Kept) (key : NodeKey) (one : Kept) →
    ((q : NodeKey) → get key_cmp new q ≡ cond (is_eq (key_cmp key q)) (Some one) (get key_cmp old q)) →
    AllKept dataset old → IsKept dataset one → AllKept dataset new
one_more dataset old new key one updates kept here =
    λ q other at. go q other (is_eq (key_cmp key q)) (sym (updates q) ∙ at)
  where
    go : (q : NodeKey) (other : Kept) (b : Bool) → cond b (Some one) (get key_cmp old q) ≡ Some other → IsKept dataset other
    go q other true e = subst (λ k. IsKept dataset k) (cc e) here
    go q other false e = kept q other e

-- what is kept of the same quads by another name
pub kept_of : (dataset later : List Quad) (views : BTreeMap NodeKey Kept) → later ≡ dataset → AllKept dataset views → AllKept later views
kept_of dataset later views stays kept = subst (λ d. AllKept d views) (sym stays) kept
