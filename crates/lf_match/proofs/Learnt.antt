-- What is learnt by each step of matching that makes a call.
use Rattle.std.proofs.Common.{◌≡◌, ℕ, Bool, false, List, [], map, slice_get, Option, Some, None, option_map, Result, Ok, Err, IfOk, inl, inr, sym, ap, subst, ◌∙◌}
use Rattle.std.specs.List.{list_any}
use Rattle.lf_base.specs.declared.memory.Memory.{Memory}
use Rattle.lf_rdf.specs.declared.term.Term.{Term}
use Rattle.lf_rdf.specs.declared.quad.Quad.{Quad}
use Rattle.lf_rdf.specs.declared.question.GraphRef.{GraphRef}
use Rattle.lf_rdf.specs.declared.question.Question.{Question}
use Rattle.lf_model.specs.declared.frame.FrameNode.{FrameNode}
use Rattle.lf_model.specs.declared.frame.FrameProp.{FrameProp}
use Rattle.lf_model.specs.declared.frame.FrameKind.TheVariants as frame_kind
use Rattle.lf_model.specs.declared.value.NodeView.{NodeView}
use Rattle.lf_model.specs.declared.value.Value.{Value}
use Rattle.lf_model.specs.declared.value.Value.TheVariants as v
use Rattle.lf_model.specs.ValueData.{list, values_of}
use Rattle.lf_model.specs.ValueBridge.{value_data, values_data}
use Rattle.lf_model.proofs.ValueLemmas.{value_data-List, value_data-Ref}
use Rattle.lf_oracle.specs.Asking.{Learns}
use Rattle.lf_oracle.specs.Nearby.{IsNearOne, IsOfNode}
use Rattle.lf_oracle.specs.NodeViews.{view_data}
use Rattle.lf_oracle.proofs.Learning.{learns_map, learns_then}
use Rattle.def_nested.specs.Nested.{Nested}
use Rattle.def_nested.specs.Unfolding.{above, build, build_kind, build_props, nested, row_flags, sub_frame}
use Rattle.def_datasets.specs.Views.{View, view_of}
use Rattle.def_framing.specs.Views.{of_dataset, values_under}
use Rattle.def_framing.specs.Nearness.{in_kind, in_props, reversed_in}
use Rattle.def_framing.specs.Matching.{accepts, is_empty, is_wild, matches, prop_matches}
use Rattle.lf_match.specs.declared.verdict.Verdict.{Verdict}
use Rattle.lf_match.specs.declared.verdict.Verdict.TheVariants as verdict
use Rattle.lf_match.specs.NearNodes.{AnyRefers, IsNearOneBy, IsNearOneFor, IsOfValue, IsOfValues, IsOfView}
use Rattle.lf_match.specs.Rows.{IsRowFor, all_props, any_prop, is_unwanted, list_accepted, list_kind, prop_test, verdict_of}
use Rattle.lf_match.specs.Viewed.{matches_viewed}
use Rattle.lf_match.proofs.RowProofs.{with_row}
use Rattle.lf_match.proofs.NearTerms.{AreAmong, kind_among, none_among, property_refers, props_among, themselves, wide_one, wide_same}
use Rattle.lf_match.proofs.ViewRefs.{view_reaches}
use Rattle.lf_match.proofs.MatchProofs.{list_items, no_view, node_ref, same_kind, seen_matches, some_item, some_matches, viewed_by_verdict}

-- a node without a view isn't matched
pub unseen :
    {dataset : List Quad} {before after : Option (List Question)} {first last : ℕ} (form : Nested) (g : GraphRef) (s : Term) (found : Option NodeView) →
    found ≡ None → Learns (IsNearOne dataset (IsOfNode g s)) dataset before after first last (λ d. view_of d g s) (option_map view_data found) →
    Learns (IsNearOneFor dataset form (IsOfNode g s)) dataset before after first last (λ d. matches (of_dataset d) g form s) false
unseen {dataset = dataset} form g s found none learnt =
    learns_map (IsNearOneFor dataset form (IsOfNode g s)) (λ d. matches (of_dataset d) g form s) false learnt
    (λ e. wide_same dataset [] (reversed_in form) (IsOfNode g s) (IsOfNode g s) (none_among (reversed_in form)) (λ x here. here))
    (λ other e. no_view (of_dataset other) g form s (subst (λ f. option_map view_data f ≡ view_of other g s) none e))

-- a node with a view is matched by it
pub seen :
    (dataset later : List Quad) (before middle after : Option (List Question)) (first second last : ℕ) (form : Nested) (g : GraphRef) (s : Term)
    (found : Option NodeView) (view : NodeView) → found ≡ Some view →
    Learns (IsNearOne dataset (IsOfNode g s)) dataset before middle first second (λ d. view_of d g s) (option_map view_data found) → later ≡ dataset →
    (r : Result Bool Memory) →
    IfOk r (λ b. Learns (IsNearOneFor later form (IsOfView g (view_data view))) later middle after second last (λ d. matches_viewed (of_dataset d) g form s (view_data view)) b) →
    IfOk r (λ b. Learns (IsNearOneFor dataset form (IsOfNode g s)) dataset before after first last (λ d. matches (of_dataset d) g form s) b)
seen dataset later before middle after first second last form g s found view is learnt stays (Err refused) then = tt
seen dataset later before middle after first second last form g s found view is learnt stays (Ok b) then =
    learns_then (λ d. IsNearOneFor d form (IsOfView g (view_data view))) (IsNearOneFor dataset form (IsOfNode g s)) (λ d. matches (of_dataset d) g form s) b
    learnt stays then
    (λ e. wide_same dataset [] (reversed_in form) (IsOfNode g s) (IsOfNode g s) (none_among (reversed_in form)) (λ x here. here))
    (λ e f.
    wide_one dataset (reversed_in form) (reversed_in form) (IsOfView g (view_data view)) (IsOfNode g s) (themselves (reversed_in form))
    (view_reaches dataset (reversed_in form) g s (view_data view) (subst (λ o. option_map view_data o ≡ view_of dataset g s) is e)))
    (λ other e f.
    f ∙ seen_matches (of_dataset other) g form s (view_data view) (subst (λ o. option_map view_data o ≡ view_of other g s) is e))

row_props_among :
    (rows : List FrameNode) (at : ℕ) (row : FrameNode) → Some row ≡ slice_get rows at →
    AreAmong (in_props (build_props (above at (nested rows)) row.props)) (reversed_in (nested rows at))
row_props_among rows at row found =
    subst (λ form. AreAmong (in_props (build_props (above at (nested rows)) row.props)) (reversed_in form)) (sym (with_row rows at row found))
    (props_among (above at (nested rows)) row)

-- a verdict that leaves it to all properties
pub by_all :
    (dataset : List Quad) (before after : Option (List Question)) (first last : ℕ) (g : GraphRef) (rows : List FrameNode) (at : ℕ) (row : FrameNode)
    (s : Term) (view : View) (told : Verdict) → Some row ≡ slice_get rows at →
    told ≡ verdict_of (list_any (is_unwanted (above at (nested rows)) view) row.props) (is_empty row.props) (row_flags row) s view.types →
    told ≡ verdict.AllProps → (r : Result Bool Memory) →
    IfOk r (λ b. Learns (IsNearOneBy dataset (in_props (build_props (above at (nested rows)) row.props)) (IsOfView g view)) dataset before after first last (λ d. all_props (of_dataset d) g (above at (nested rows)) view row.props) b) →
    IfOk r (λ b. Learns (IsNearOneFor dataset (nested rows at) (IsOfView g view)) dataset before after first last (λ d. matches_viewed (of_dataset d) g (nested rows at) s view) b)
by_all dataset before after first last g rows at row s view told found is all (Err refused) then = tt
by_all dataset before after first last g rows at row s view told found is all (Ok b) then =
    learns_map (IsNearOneFor dataset (nested rows at) (IsOfView g view)) (λ d. matches_viewed (of_dataset d) g (nested rows at) s view) b then
    (λ e.
    wide_same dataset (in_props (build_props (above at (nested rows)) row.props)) (reversed_in (nested rows at)) (IsOfView g view) (IsOfView g view)
    (row_props_among rows at row found) (λ x here. here))
    (λ other e. e ∙ viewed_by_verdict (of_dataset other) g rows at row s view verdict.AllProps found (sym all ∙ is))

-- a verdict that leaves it to one property
pub by_any :
    (dataset : List Quad) (before after : Option (List Question)) (first last : ℕ) (g : GraphRef) (rows : List FrameNode) (at : ℕ) (row : FrameNode)
    (s : Term) (view : View) (told : Verdict) → Some row ≡ slice_get rows at →
    told ≡ verdict_of (list_any (is_unwanted (above at (nested rows)) view) row.props) (is_empty row.props) (row_flags row) s view.types →
    told ≡ verdict.AnyProp → (r : Result Bool Memory) →
    IfOk r (λ b. Learns (IsNearOneBy dataset (in_props (build_props (above at (nested rows)) row.props)) (IsOfView g view)) dataset before after first last (λ d. any_prop (of_dataset d) g (above at (nested rows)) view row.props) b) →
    IfOk r (λ b. Learns (IsNearOneFor dataset (nested rows at) (IsOfView g view)) dataset before after first last (λ d. matches_viewed (of_dataset d) g (nested rows at) s view) b)
by_any dataset before after first last g rows at row s view told found is all (Err refused) then = tt
by_any dataset before after first last g rows at row s view told found is all (Ok b) then =
    learns_map (IsNearOneFor dataset (nested rows at) (IsOfView g view)) (λ d. matches_viewed (of_dataset d) g (nested rows at) s view) b then
    (λ e.
    wide_same dataset (in_props (build_props (above at (nested rows)) row.props)) (reversed_in (nested rows at)) (IsOfView g view) (IsOfView g view)
    (row_props_among rows at row found) (λ x here. here))
    (λ other e. e ∙ viewed_by_verdict (of_dataset other) g rows at row s view verdict.AnyProp found (sym all ∙ is))

-- a property whose sub-frame is a row
pub by_sub_frame :
    (dataset : List Quad) (before after : Option (List Question)) (first last : ℕ) (g : GraphRef) (rows : List FrameNode) (at later : ℕ)
    (view : View) (p : FrameProp) (values : List Value) → IsRowFor rows at p.frame later → map value_data values ≡ values_under view p.property →
    (r : Result Bool Memory) →
    IfOk r (λ b. Learns (IsNearOneFor dataset (nested rows later) (IsOfValues g (map value_data values))) dataset before after first last (λ d. list_any (λ held. accepts (of_dataset d) g (nested rows later) (value_data held)) values) b) →
    IfOk r (λ b. Learns (IsNearOneFor dataset (sub_frame (above at (nested rows)) p.frame) (IsOfView g view)) dataset before after first last (λ d. prop_matches view (prop_test (of_dataset d) g (above at (nested rows)) p)) b)
by_sub_frame dataset before after first last g rows at later view p values is_row under (Err refused) then = tt
by_sub_frame dataset before after first last g rows at later view p values is_row under (Ok b) then =
    learns_map (IsNearOneFor dataset (sub_frame (above at (nested rows)) p.frame) (IsOfView g view))
    (λ d. prop_matches view (prop_test (of_dataset d) g (above at (nested rows)) p)) b then
    (λ e.
    wide_same dataset (reversed_in (nested rows later)) (reversed_in (sub_frame (above at (nested rows)) p.frame)) (IsOfValues g (map value_data values)) (IsOfView g view)
    (subst (λ form. AreAmong (reversed_in (nested rows later)) (reversed_in form)) (sym is_row.stands) (themselves (reversed_in (nested rows later)))) of_view)
    (λ other e. e ∙ some_matches (of_dataset other) g rows at later view p values is_row under)
  where
    of_view : (x : Term) → IsOfValues g (map value_data values) x → IsOfView g view x
    of_view x (inl refers) = inl (property_refers p.property view.props x (subst (λ vs. AnyRefers (values_of vs) x) under refers))
    of_view x (inr names) = inr names

-- a reference under a node frame
pub by_node :
    (dataset : List Quad) (before after : Option (List Question)) (first last : ℕ) (g : GraphRef) (rows : List FrameNode) (at : ℕ) (row : FrameNode)
    (value : Value) (id : Term) → Some row ≡ slice_get rows at → row.kind ≡ frame_kind.Node → value ≡ v.Ref id → (r : Result Bool Memory) →
    IfOk r (λ b. Learns (IsNearOneFor dataset (nested rows at) (IsOfNode g id)) dataset before after first last (λ d. matches (of_dataset d) g (nested rows at) id) b) →
    IfOk r (λ b. Learns (IsNearOneFor dataset (nested rows at) (IsOfValue g (value_data value))) dataset before after first last (λ d. accepts (of_dataset d) g (nested rows at) (value_data value)) b)
by_node dataset before after first last g rows at row value id found is same (Err refused) then = tt
by_node dataset before after first last g rows at row value id found is same (Ok b) then =
    learns_map (IsNearOneFor dataset (nested rows at) (IsOfValue g (value_data value))) (λ d. accepts (of_dataset d) g (nested rows at) (value_data value)) b then
    (λ e question near. subst (λ held. IsNearOneFor dataset (nested rows at) (IsOfValue g held) question) (sym (ap value_data same ∙ value_data-Ref id)) near)
    (λ other e. e ∙ node_ref (of_dataset other) g rows at row value found id is same)

-- a list under a list pattern
pub by_list :
    (dataset : List Quad) (before after : Option (List Question)) (first last : ℕ) (g : GraphRef) (rows : List FrameNode) (at : ℕ) (row : FrameNode)
    (value : Value) (item : Option ℕ) (items : List Value) → Some row ≡ slice_get rows at → row.kind ≡ frame_kind.List item → value ≡ v.List items → (r : Result Bool Memory) →
    IfOk r (λ b. Learns (IsNearOneBy dataset (in_kind (list_kind (above at (nested rows)) item)) (IsOfValues g (map value_data items))) dataset before after first last (λ d. list_accepted (of_dataset d) g (above at (nested rows)) item items) b) →
    IfOk r (λ b. Learns (IsNearOneFor dataset (nested rows at) (IsOfValue g (value_data value))) dataset before after first last (λ d. accepts (of_dataset d) g (nested rows at) (value_data value)) b)
by_list dataset before after first last g rows at row value item items found is same (Err refused) then = tt
by_list dataset before after first last g rows at row value item items found is same (Ok b) then =
    learns_map (IsNearOneFor dataset (nested rows at) (IsOfValue g (value_data value))) (λ d. accepts (of_dataset d) g (nested rows at) (value_data value)) b then
    (λ e question near.
    subst (λ held. IsNearOneFor dataset (nested rows at) (IsOfValue g held) question) (sym (ap value_data same ∙ value_data-List items))
    (wide_same dataset (in_kind (list_kind (above at (nested rows)) item)) (reversed_in (nested rows at)) (IsOfValues g (map value_data items)) (IsOfValue g (list (values_data items)))
    among (λ x here. here) question near))
    (λ other e. e ∙ list_items (of_dataset other) g rows at row value found item items is same)
  where
    among : AreAmong (in_kind (list_kind (above at (nested rows)) item)) (reversed_in (nested rows at))
    among =
        subst (λ form. AreAmong (in_kind (list_kind (above at (nested rows)) item)) (reversed_in form)) (sym (with_row rows at row found))
        (subst (λ kind. AreAmong (in_kind kind) (reversed_in (build (above at (nested rows)) row))) (sym (same_kind (above at (nested rows)) item ∙ ap (build_kind (above at (nested rows))) (sym is)))
        (kind_among (above at (nested rows)) row))

-- the items of a list under an item pattern that is a row
pub by_items :
    (dataset : List Quad) (before after : Option (List Question)) (first last : ℕ) (g : GraphRef) (rows : List FrameNode) (at later : ℕ)
    (item : Option ℕ) (number : ℕ) (items : List Value) (wild : Bool) → item ≡ Some number → IsRowFor rows at item later → wild ≡ is_wild (nested rows later) → wild ≡ false →
    (r : Result Bool Memory) →
    IfOk r (λ b. Learns (IsNearOneFor dataset (nested rows later) (IsOfValues g (map value_data items))) dataset before after first last (λ d. list_any (λ held. accepts (of_dataset d) g (nested rows later) (value_data held)) items) b) →
    IfOk r (λ b. Learns (IsNearOneBy dataset (in_kind (list_kind (above at (nested rows)) item)) (IsOfValues g (map value_data items))) dataset before after first last (λ d. list_accepted (of_dataset d) g (above at (nested rows)) item items) b)
by_items dataset before after first last g rows at later item number items wild is is_row tells not_wild (Err refused) then = tt
by_items dataset before after first last g rows at later item number items wild is is_row tells not_wild (Ok b) then =
    learns_map (IsNearOneBy dataset (in_kind (list_kind (above at (nested rows)) item)) (IsOfValues g (map value_data items)))
    (λ d. list_accepted (of_dataset d) g (above at (nested rows)) item items) b then
    (λ e.
    wide_same dataset (reversed_in (nested rows later)) (in_kind (list_kind (above at (nested rows)) item)) (IsOfValues g (map value_data items)) (IsOfValues g (map value_data items))
    (subst (λ i. AreAmong (reversed_in (nested rows later)) (in_kind (list_kind (above at (nested rows)) i))) (sym is)
    (subst (λ form. AreAmong (reversed_in (nested rows later)) (reversed_in form)) (sym (sym (ap (sub_frame (above at (nested rows))) is) ∙ is_row.stands)) (themselves (reversed_in (nested rows later)))))
    (λ x here. here))
    (λ other e. e ∙ some_item (of_dataset other) g rows at later item number items is is_row (sym tells ∙ not_wild))

-- the same where the items are lent as a slice
pub by_lent_items :
    (dataset : List Quad) (before after : Option (List Question)) (first last : ℕ) (g : GraphRef) (rows : List FrameNode) (at later : ℕ)
    (item : Option ℕ) (number : ℕ) (items lent : List Value) (wild : Bool) → lent ≡ items → item ≡ Some number → IsRowFor rows at item later → wild ≡ is_wild (nested rows later) → wild ≡ false →
    (r : Result Bool Memory) →
    IfOk r (λ b. Learns (IsNearOneFor dataset (nested rows later) (IsOfValues g (map value_data lent))) dataset before after first last (λ d. list_any (λ held. accepts (of_dataset d) g (nested rows later) (value_data held)) lent) b) →
    IfOk r (λ b. Learns (IsNearOneBy dataset (in_kind (list_kind (above at (nested rows)) item)) (IsOfValues g (map value_data items))) dataset before after first last (λ d. list_accepted (of_dataset d) g (above at (nested rows)) item items) b)
by_lent_items dataset before after first last g rows at later item number items lent wild same is is_row tells not_wild r then =
    subst (λ vs. IfOk r (λ b. Learns (IsNearOneBy dataset (in_kind (list_kind (above at (nested rows)) item)) (IsOfValues g (map value_data vs))) dataset before after first last (λ d. list_accepted (of_dataset d) g (above at (nested rows)) item vs) b)) same
    (by_items dataset before after first last g rows at later item number lent wild is is_row tells not_wild r then)
