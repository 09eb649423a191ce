-- The outcome of a term from its view and its tree.
use Rattle.std.proofs.Common.{◌≡◌, inl, inr, ℕ, Bool, true, false, List, [], Option, Some, None, option_map, Result as Returned, Ok, Err, IfOk, sym, ap, subst, ◌∙◌}
use Rattle.lf_base.specs.declared.memory.Memory.{Memory}
use Rattle.lf_rdf.specs.declared.term.Term.{Term}
use Rattle.lf_rdf.specs.declared.quad.Quad.{Quad}
use Rattle.lf_rdf.specs.declared.question.GraphRef.{GraphRef}
use Rattle.lf_rdf.specs.declared.question.Question.{Question}
use Rattle.lf_model.specs.declared.document.Outcome as program
use Rattle.lf_model.specs.declared.value.NodeView.{NodeView}
use Rattle.lf_model.specs.TreeData.{TreeNode}
use Rattle.lf_oracle.specs.Asking.{Learns}
use Rattle.lf_oracle.specs.Nearby.{IsNearOne, IsOfNode}
use Rattle.lf_oracle.specs.NodeViews.{view_data}
use Rattle.lf_oracle.proofs.Learning.{learns_map, learns_then}
use Rattle.lf_match.specs.NearNodes.{IsNearOneFor, IsOfView}
use Rattle.lf_match.specs.Viewed.{matches_viewed}
use Rattle.lf_match.proofs.NearTerms.{themselves}
use Rattle.def_nested.specs.Nested.{Nested}
use Rattle.def_datasets.specs.Near.{NearQuestion}
use Rattle.def_datasets.specs.Views.{View, view_of}
use Rattle.def_framing.specs.Nearness.{reversed_in}
use Rattle.def_framing.specs.Outcome.{Outcome, depth_limit, framed_graph, no_match, not_key, outcome_in, outcome_of_key, outcome_of_result, outcome_of_view}
use Rattle.def_framing.specs.OutcomeBridge.{outcome_data}
use Rattle.def_framing.specs.Results.{Result, State, at_first}
use Rattle.def_framing.specs.Steps.{seen}
use Rattle.def_framing.specs.Views.{Place, of_dataset}
use Rattle.lf_embed.specs.Cycle.{embed_viewed}
use Rattle.lf_embed.specs.Embeds.{Embeds, IsNearBy, IsNearTo, IsOfNodeOrView}
use Rattle.lf_embed.proofs.CycleProofs.{embed_is_viewed}
use Rattle.lf_embed.proofs.EmbedProofs.{both_known, judged, known_match, node_wide}
use Rattle.lf_embed.proofs.NearParts.{seen_is_near, wide_by}

-- a tree, or a limit, as the outcome
pub top_outcome :
    {dataset : List Quad} {before after : Option (List Question)} {first last : ℕ} (g : GraphRef) (x : Term) (frame : Nested) (view : View)
    (path : List Place) (state : State) (given : Result TreeNode) (came : Outcome) → came ≡ outcome_of_result given →
    Embeds dataset before after first last (reversed_in frame) (IsOfNodeOrView g x view)
    (λ views. embed_viewed views depth_limit g x frame true view path state) (Some given) →
    Learns (IsNearBy dataset (reversed_in frame) (IsOfNodeOrView g x view)) dataset before after first last
    (λ d. outcome_of_result (embed_viewed (of_dataset d) depth_limit g x frame true view path state)) came
top_outcome g x frame view path state given came is one =
    learns_map _ (λ d. outcome_of_result (embed_viewed (of_dataset d) depth_limit g x frame true view path state)) came one.gained
    (λ e question near. near) (λ other e. is ∙ ap outcome_of_result e)

pub outcome_unseen :
    {dataset : List Quad} {before after : Option (List Question)} {first last : ℕ} (g : GraphRef) (x : Term) (frame : Nested) (found : Option NodeView) →
    found ≡ None → Learns (IsNearOne dataset (IsOfNode g x)) dataset before after first last (λ d. view_of d g x) (option_map view_data found) →
    Learns (IsNearBy dataset (reversed_in frame) (IsOfNode g x)) dataset before after first last (λ d. outcome_in (of_dataset d) frame g x) not_key
outcome_unseen {dataset = dataset} g x frame found is one =
    learns_map _ (λ d. outcome_in (of_dataset d) frame g x) not_key one (λ e. node_wide dataset (reversed_in frame) g x)
    (λ other e. ap (outcome_of_view (of_dataset other) frame g x) (subst (λ o. option_map view_data o ≡ view_of other g x) is e))

outcome_known :
    (other : List Quad) (g : GraphRef) (x : Term) (frame : Nested) (view : View) (fits : Bool) →
    judged (Some view) fits ≡ judged (view_of other g x) (matches_viewed (of_dataset other) g frame x view) →
    outcome_of_key (of_dataset other) frame g x fits ≡ outcome_in (of_dataset other) frame g x
outcome_known other g x frame view fits e =
    ap (outcome_of_key (of_dataset other) frame g x) (known_match other g x frame view fits e)
    ∙ ap (outcome_of_view (of_dataset other) frame g x) (λ i. (e i).0)

pub outcome_refused :
    {dataset later : List Quad} {before middle after : Option (List Question)} {first second last : ℕ} (g : GraphRef) (x : Term) (frame : Nested)
    (found : Option NodeView) (view : NodeView) (fits : Bool) → found ≡ Some view → fits ≡ false →
    Learns (IsNearOne dataset (IsOfNode g x)) dataset before middle first second (λ d. view_of d g x) (option_map view_data found) → later ≡ dataset →
    Learns (IsNearOneFor later frame (IsOfView g (view_data view))) later middle after second last
    (λ d. matches_viewed (of_dataset d) g frame x (view_data view)) fits →
    Learns (IsNearBy dataset (reversed_in frame) (IsOfNode g x)) dataset before after first last (λ d. outcome_in (of_dataset d) frame g x) no_match
outcome_refused g x frame found view fits is fails one stays two =
    learns_map _ (λ d. outcome_in (of_dataset d) frame g x) no_match (both_known g x frame found view fits is one stays two) (λ e question near. near)
    (λ other e. ap (outcome_of_key (of_dataset other) frame g x) (sym fails) ∙ outcome_known other g x frame (view_data view) fits e)

pub outcome_made :
    {dataset later last_seen : List Quad} {before middle then_told : Option (List Question)} {first second third : ℕ} (after : Option (List Question)) (last : ℕ) (g : GraphRef)
    (x : Term) (frame : Nested) (found : Option NodeView) (view : NodeView) (fits : Bool) (r : Returned program.Outcome Memory) → found ≡ Some view → fits ≡ true →
    Learns (IsNearOne dataset (IsOfNode g x)) dataset before middle first second (λ d. view_of d g x) (option_map view_data found) → later ≡ dataset →
    Learns (IsNearOneFor later frame (IsOfView g (view_data view))) later middle then_told second third
    (λ d. matches_viewed (of_dataset d) g frame x (view_data view)) fits → last_seen ≡ dataset →
    IfOk r
    (λ made.
    Learns (IsNearBy last_seen (reversed_in frame) (IsOfNodeOrView g x (view_data view))) last_seen then_told after third last
    (λ d. outcome_of_result (embed_viewed (of_dataset d) depth_limit g x frame true (view_data view) [] at_first)) (outcome_data made)) →
    IfOk r
    (λ made.
    Learns (IsNearBy dataset (reversed_in frame) (IsOfNode g x)) dataset before after first last (λ d. outcome_in (of_dataset d) frame g x) (outcome_data made))
outcome_made after last g x frame found view fits (Err e) is passes one stays two stays_too three = tt
outcome_made {dataset = dataset} after last g x frame found view fits (Ok made) is passes one stays two stays_too three =
    learns_then (λ d. IsNearBy d (reversed_in frame) (IsOfNodeOrView g x (view_data view))) _ (λ d. outcome_in (of_dataset d) frame g x)
    (outcome_data made) (both_known g x frame found view fits is one stays two) stays_too three (λ e question near. near)
    (λ e f.
    wide_by dataset (reversed_in frame) (reversed_in frame) (IsOfNodeOrView g x (view_data view)) (IsOfNode g x) (themselves (reversed_in frame))
    (λ iris. seen_is_near dataset (reversed_in frame) g x (view_data view) (λ i. seen x (e i).0)))
    (λ other e f.
    f
    ∙ ap outcome_of_result
    (ap (λ v. embed_viewed (of_dataset other) depth_limit g x frame true (seen x v) [] at_first) (λ i. (e i).0)
    ∙ embed_is_viewed (of_dataset other) depth_limit g x frame true [] at_first)
    ∙ ap (outcome_of_key (of_dataset other) frame g x) (sym passes)
    ∙ outcome_known other g x frame (view_data view) fits e)

-- of the framed graph only the term itself is meant
framed_is : (top : Bool) (x y : Term) → IsOfNode (framed_graph top) x y → y ≡ x
framed_is true x y (inl same) = same
framed_is true x y (inr none) = absurd none
framed_is false x y (inl same) = same
framed_is false x y (inr none) = absurd none

pub framed_outcome :
    (dataset : List Quad) (before after : Option (List Question)) (first last : ℕ) (top : Bool) (g : GraphRef) (x : Term) (frame : Nested)
    (r : Returned program.Outcome Memory) → g ≡ framed_graph top →
    IfOk r
    (λ made.
    Learns (IsNearBy dataset (reversed_in frame) (IsOfNode g x)) dataset before after first last (λ d. outcome_in (of_dataset d) frame g x) (outcome_data made)) →
    IfOk r
    (λ made.
    Learns (IsNearTo dataset (reversed_in frame) x) dataset before after first last (λ d. outcome_in (of_dataset d) frame (framed_graph top) x) (outcome_data made))
framed_outcome dataset before after first last top g x frame (Err e) is gained = tt
framed_outcome dataset before after first last top g x frame (Ok made) is gained =
    learns_map _ (λ d. outcome_in (of_dataset d) frame (framed_graph top) x) (outcome_data made) gained
    (λ e question near iris. go question (near iris)) (λ other e. e ∙ ap (λ h. outcome_in (of_dataset other) frame h x) is)
  where
    go : (question : Question) → (y : Term) × (IsOfNode g x y × NearQuestion dataset (reversed_in frame) y question) → NearQuestion dataset (reversed_in frame) x question
    go question (y, (here, near)) =
        subst (λ t. NearQuestion dataset (reversed_in frame) t question) (framed_is top x y (subst (λ h. IsOfNode h x y) is here)) near

-- a walk that begins
pub walk_begins :
    (dataset : List Quad) (before after : Option (List Question)) (first last : ℕ) (g : GraphRef) (x : Term) (frame : Nested) (view : View)
    (path : List Place) (state : State) (r : Returned program.Outcome Memory) → path ≡ [] → state ≡ at_first →
    IfOk r
    (λ made.
    Learns (IsNearBy dataset (reversed_in frame) (IsOfNodeOrView g x view)) dataset before after first last
    (λ d. outcome_of_result (embed_viewed (of_dataset d) depth_limit g x frame true view path state)) (outcome_data made)) →
    IfOk r
    (λ made.
    Learns (IsNearBy dataset (reversed_in frame) (IsOfNodeOrView g x view)) dataset before after first last
    (λ d. outcome_of_result (embed_viewed (of_dataset d) depth_limit g x frame true view [] at_first)) (outcome_data made))
walk_begins dataset before after first last g x frame view path state r empty begins given =
    subst
    (λ s.
    IfOk r
    (λ made.
    Learns (IsNearBy dataset (reversed_in frame) (IsOfNodeOrView g x view)) dataset before after first last
    (λ d. outcome_of_result (embed_viewed (of_dataset d) depth_limit g x frame true view [] s)) (outcome_data made))) begins
    (subst
    (λ p.
    IfOk r
    (λ made.
    Learns (IsNearBy dataset (reversed_in frame) (IsOfNodeOrView g x view)) dataset before after first last
    (λ d. outcome_of_result (embed_viewed (of_dataset d) depth_limit g x frame true view p state)) (outcome_data made))) empty given)
