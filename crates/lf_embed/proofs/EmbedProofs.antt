-- What each function of embedding gives at its ends: nodes.
use Rattle.std.proofs.Common.{◌≡◌, ◌≢◌, inl, inr, ℕ, ◌-◌, Bool, true, false, not, ◌&&◌, List, [], ◌∷◌, Option, Some, None, option_map, Err, IfSome, refl, sym, ap, subst, ◌∙◌}
use Rattle.std.specs.List.{list_any}
use Rattle.lf_rdf.specs.Equality.{term_eq}
use Rattle.lf_rdf.specs.declared.term.Term.{Term}
use Rattle.lf_rdf.specs.declared.quad.Quad.{Quad}
use Rattle.lf_rdf.specs.declared.question.GraphRef.{GraphRef}
use Rattle.lf_rdf.specs.declared.question.GraphRef.TheVariants as graph
use Rattle.lf_rdf.specs.declared.question.Question.{Question}
use Rattle.lf_model.specs.declared.document.Limit.TheVariants.{Depth, TreeItems}
use Rattle.lf_model.specs.declared.value.NodeView.{NodeView}
use Rattle.lf_model.specs.TreeData.{TreeNode}
use Rattle.lf_oracle.specs.Asking.{Learns}
use Rattle.lf_oracle.specs.Nearby.{IsMember, IsNamed, IsNearMembers, IsNearOne, IsOfNode}
use Rattle.lf_oracle.specs.NodeViews.{view_data}
use Rattle.lf_oracle.proofs.Learning.{learns_then}
use Rattle.lf_match.specs.NearNodes.{IsNearOneFor, IsOfView}
use Rattle.lf_match.specs.Viewed.{matches_viewed}
use Rattle.lf_match.proofs.MatchProofs.{no_view, seen_matches}
use Rattle.lf_match.proofs.NearTerms.{AreAmong, none_among, themselves}
use Rattle.def_nested.specs.Nested.{Nested, flags_of, within_of}
use Rattle.def_datasets.specs.Near.{Near, itself}
use Rattle.def_datasets.specs.Questions.{named}
use Rattle.def_datasets.specs.Views.{View, keys, view_of}
use Rattle.def_framing.specs.Embedding.{contents, embed, refer}
use Rattle.def_framing.specs.Matching.{matches}
use Rattle.def_framing.specs.Nearness.{reversed_in}
use Rattle.def_framing.specs.Parts.{embed_all, entered_keys, graph_part}
use Rattle.def_framing.specs.Results.{Result, State, choose, entered, gives, item, over, then}
use Rattle.def_framing.specs.Steps.{as_reference, graph_frame, seen}
use Rattle.def_framing.specs.Views.{Place, Views, of_dataset}
use Rattle.lf_embed.specs.declared.walk.Stop.{Stop}
use Rattle.lf_embed.specs.declared.walk.Stop.TheVariants as stop
use Rattle.lf_embed.specs.Choices.{enters_by}
use Rattle.lf_embed.specs.Cycle.{descend, embed_viewed, keys_part, matched, named_part, perhaps}
use Rattle.lf_embed.specs.Embeds.{Embeds, IsNearBy, IsOfKeys, IsOfNodeOrView}
use Rattle.lf_embed.specs.Runs.{run_of}
use Rattle.lf_embed.proofs.CycleProofs.{descends, embed_is_viewed, keys_embedded}
use Rattle.lf_embed.proofs.Gains.{after_one, passed, quiet, settled, silent, stopped, stopped_after, taken_after, taken_on}
use Rattle.lf_embed.proofs.NearParts.{graph_among, same_by, same_from, seen_is_near, view_is_of, wide_by, wide_from}
use Rattle.lf_embed.proofs.NearSteps.{key_is_near, member_is_near}

-- what asks nothing but the view of a node
pub node_wide :
    (dataset : List Quad) (many : List (List ℕ)) (g : GraphRef) (id : Term) (question : Question) → IsNearOne dataset (IsOfNode g id) question →
    IsNearBy dataset many (IsOfNode g id) question
node_wide dataset many g id = same_from dataset [] many (IsOfNode g id) (IsOfNode g id) (none_among many) (λ x here. here)

-- ---- a node that is left a reference, and one that isn't

left_alone :
    (views : Views) (room : ℕ) (g : GraphRef) (id : Term) (frame : Nested) (free : Bool) (view : View) (path : List Place) (state : State)
    (left : Bool) → left ≡ (not free && as_reference (flags_of frame).embed (record { graph = g; id = id }) path state) → left ≡ true →
    refer id state ≡ embed_viewed views room g id frame free view path state
left_alone views room g id frame free view path state left told is =
    ap (λ b. choose b (refer id) (descend views room g id frame view path) state) (sym is ∙ told)

goes_down :
    (views : Views) (room : ℕ) (g : GraphRef) (id : Term) (frame : Nested) (free : Bool) (view : View) (path : List Place) (state : State)
    (left : Bool) → left ≡ (not free && as_reference (flags_of frame).embed (record { graph = g; id = id }) path state) → left ≡ false →
    descend views room g id frame view path state ≡ embed_viewed views room g id frame free view path state
goes_down views room g id frame free view path state left told is =
    ap (λ b. choose b (refer id) (descend views room g id frame view path) state) (sym is ∙ told)

pub embed_referred :
    {dataset : List Quad} {told : Option (List Question)} {steps : ℕ} (room : ℕ) (g : GraphRef) (id : Term) (frame : Nested)
    (path : List Place) (state : State) (made : Option (Result TreeNode)) (left : Bool) →
    left ≡ (not false && as_reference (flags_of frame).embed (record { graph = g; id = id }) path state) → left ≡ true →
    IfSome made (λ r. r ≡ refer id state) →
    Embeds dataset told told steps steps (reversed_in frame) (IsOfNode g id) (λ views. embed views room g id frame false path state) made
embed_referred room g id frame path state made left tells is run =
    quiet (λ views. embed views room g id frame false path state) made (refer id state) run
    (λ views.
    left_alone views room g id frame false (seen id (views.view g id)) path state left tells is
    ∙ embed_is_viewed views room g id frame false path state)

pub embed_down :
    {dataset later : List Quad} {before middle after : Option (List Question)} {first second last : ℕ} (room : ℕ) (g : GraphRef) (id : Term)
    (frame : Nested) (path : List Place) (state : State) (made : Option (Result TreeNode)) (left : Bool) (found : Option NodeView) (view : View) →
    left ≡ (not false && as_reference (flags_of frame).embed (record { graph = g; id = id }) path state) → left ≡ false →
    view ≡ seen id (option_map view_data found) →
    Learns (IsNearOne dataset (IsOfNode g id)) dataset before middle first second (λ d. view_of d g id) (option_map view_data found) →
    later ≡ dataset →
    Embeds later middle after second last (reversed_in frame) (IsOfNodeOrView g id view) (λ views. descend views room g id frame view path state) made →
    Embeds dataset before after first last (reversed_in frame) (IsOfNode g id) (λ views. embed views room g id frame false path state) made
embed_down {dataset = dataset} room g id frame path state made left found view tells is same one stays two =
    after_one (λ views. descend views room g id frame view path state) (λ views. embed views room g id frame false path state) made one stays two
    (λ e. node_wide dataset (reversed_in frame) g id)
    (λ e.
    wide_by dataset (reversed_in frame) (reversed_in frame) (IsOfNodeOrView g id view) (IsOfNode g id) (themselves (reversed_in frame))
    (λ iris. seen_is_near dataset (reversed_in frame) g id view (same ∙ ap (seen id) e)))
    (λ other e.
    goes_down (of_dataset other) room g id frame false view path state left tells is
    ∙ ap (λ v. embed_viewed (of_dataset other) room g id frame false v path state) (same ∙ ap (seen id) e)
    ∙ embed_is_viewed (of_dataset other) room g id frame false path state)

pub viewed_referred :
    {dataset : List Quad} {told : Option (List Question)} {steps : ℕ} (room : ℕ) (g : GraphRef) (id : Term) (frame : Nested) (free : Bool)
    (view : View) (path : List Place) (state : State) (made : Option (Result TreeNode)) (left : Bool) →
    left ≡ (not free && as_reference (flags_of frame).embed (record { graph = g; id = id }) path state) → left ≡ true →
    IfSome made (λ r. r ≡ refer id state) →
    Embeds dataset told told steps steps (reversed_in frame) (IsOfNodeOrView g id view)
    (λ views. embed_viewed views room g id frame free view path state) made
viewed_referred room g id frame free view path state made left tells is run =
    quiet (λ views. embed_viewed views room g id frame free view path state) made (refer id state) run
    (λ views. left_alone views room g id frame free view path state left tells is)

pub viewed_down :
    {dataset : List Quad} {before after : Option (List Question)} {first last : ℕ} (room : ℕ) (g : GraphRef) (id : Term) (frame : Nested)
    (free : Bool) (view : View) (path : List Place) (state : State) (made : Option (Result TreeNode)) (left : Bool) →
    left ≡ (not free && as_reference (flags_of frame).embed (record { graph = g; id = id }) path state) → left ≡ false →
    Embeds dataset before after first last (reversed_in frame) (IsOfNodeOrView g id view) (λ views. descend views room g id frame view path state) made →
    Embeds dataset before after first last (reversed_in frame) (IsOfNodeOrView g id view)
    (λ views. embed_viewed views room g id frame free view path state) made
viewed_down room g id frame free view path state made left tells is gained =
    passed (λ views. descend views room g id frame view path state) (λ views. embed_viewed views room g id frame free view path state) made gained
    (λ question near. near) (λ views. goes_down views room g id frame free view path state left tells is)

-- ---- the room of the path

pub no_room_left :
    {dataset : List Quad} {told : Option (List Question)} {steps : ℕ} {reversed : List (List ℕ)} {Is : Term → Type 0} (room : ℕ) (g : GraphRef)
    (id : Term) (frame : Nested) (view : View) (path : List Place) (state : State) → room ≡ 0 →
    Embeds dataset told told steps steps reversed Is (λ views. descend views room g id frame view path state) (Some (over Depth))
no_room_left room g id frame view path state none =
    silent (λ views. descend views room g id frame view path state) (over Depth)
    (λ views. ap (λ r. descend views r g id frame view path state) (sym none))

pub no_item_left :
    {T : Type 0} {dataset : List Quad} {told : Option (List Question)} {steps : ℕ} {reversed : List (List ℕ)} {Is : Term → Type 0}
    (f : T → TreeNode) (room : ℕ) (g : GraphRef) (id : Term) (frame : Nested) (view : View) (path : List Place) (state after : State) (e : Stop) →
    room ≢ 0 → (e ≡ stop.Over TreeItems) × (item state ≡ over TreeItems) →
    Embeds dataset told told steps steps reversed Is (λ views. descend views room g id frame view path state) (run_of f (Err e) after)
no_item_left {dataset = dataset} {told = told} {steps = steps} {reversed = reversed} {Is = Is} f room g id frame view path state after e some full =
    subst
    (λ s. Embeds dataset told told steps steps reversed Is (λ views. descend views room g id frame view path state) (run_of f (Err s) after))
    (sym full.0)
    (silent (λ views. descend views room g id frame view path state) (over TreeItems)
    (λ views.
    ap
    (λ r.
    then r
    (λ counted later.
    contents views (embed views (room - 1)) g id frame view (record { graph = g; id = id } ∷ path)
    (entered (record { graph = g; id = id }) later))) (sym full.1)
    ∙ descends views room g id frame view path state some))

inside_is :
    (views : Views) (room : ℕ) (g : GraphRef) (id : Term) (frame : Nested) (view : View) (path inner : List Place)
    (state counted now : State) → room ≢ 0 → item state ≡ gives tt counted → now ≡ entered (record { graph = g; id = id }) counted →
    inner ≡ record { graph = g; id = id } ∷ path →
    contents views (embed views (room - 1)) g id frame view inner now ≡ descend views room g id frame view path state
inside_is views room g id frame view path inner state counted now some count joins steps =
    ap (λ p. contents views (embed views (room - 1)) g id frame view p now) steps
    ∙ ap (λ s. contents views (embed views (room - 1)) g id frame view (record { graph = g; id = id } ∷ path) s) joins
    ∙ ap
    (λ r.
    then r
    (λ c later.
    contents views (embed views (room - 1)) g id frame view (record { graph = g; id = id } ∷ path)
    (entered (record { graph = g; id = id }) later))) (sym count)
    ∙ descends views room g id frame view path state some

pub inside_over :
    {T U : Type 0} {dataset : List Quad} {before after : Option (List Question)} {first last : ℕ} {reversed : List (List ℕ)} {Is : Term → Type 0}
    (f : T → TreeNode) (h : U → TreeNode) (room : ℕ) (g : GraphRef) (id : Term) (frame : Nested) (view : View) (path inner : List Place)
    (state counted now one two : State) (e : Stop) → room ≢ 0 → item state ≡ gives tt counted →
    now ≡ entered (record { graph = g; id = id }) counted → inner ≡ record { graph = g; id = id } ∷ path →
    Embeds dataset before after first last reversed Is (λ views. contents views (embed views (room - 1)) g id frame view inner now) (run_of f (Err e) one) →
    Embeds dataset before after first last reversed Is (λ views. descend views room g id frame view path state) (run_of h (Err e) two)
inside_over f h room g id frame view path inner state counted now one two e some count joins steps gained =
    stopped f h (λ views. contents views (embed views (room - 1)) g id frame view inner now) (λ views. descend views room g id frame view path state)
    e one two gained (λ question near. near)
    (λ views limit same. same ∙ inside_is views room g id frame view path inner state counted now some count joins steps)

pub inside_made :
    {dataset : List Quad} {before after : Option (List Question)} {first last : ℕ} {reversed : List (List ℕ)} {Is : Term → Type 0}
    (room : ℕ) (g : GraphRef) (id : Term) (frame : Nested) (view : View) (path inner : List Place) (state counted now done final : State)
    (made : TreeNode) → room ≢ 0 → item state ≡ gives tt counted → now ≡ entered (record { graph = g; id = id }) counted →
    inner ≡ record { graph = g; id = id } ∷ path → final ≡ done →
    Embeds dataset before after first last reversed Is (λ views. contents views (embed views (room - 1)) g id frame view inner now) (Some (gives made done)) →
    Embeds dataset before after first last reversed Is (λ views. descend views room g id frame view path state) (Some (gives made final))
inside_made room g id frame view path inner state counted now done final made some count joins steps ends gained =
    taken_on (λ views. contents views (embed views (room - 1)) g id frame view inner now) (λ views. descend views room g id frame view path state)
    (gives made done) (gives made final) gained (λ question near. near)
    (λ views same. ap (λ s. gives made s) ends ∙ same ∙ inside_is views room g id frame view path inner state counted now some count joins steps)

-- ---- the graph that a node names

pub not_entered :
    {dataset : List Quad} {told : Option (List Question)} {steps : ℕ} {reversed : List (List ℕ)} {Is : Term → Type 0} (room : ℕ) (g : GraphRef)
    (id : Term) (frame : Nested) (path : List Place) (state : State) →
    ((name : Bool) → enters_by name g id frame path ≡ (name && false)) →
    Embeds dataset told told steps steps reversed Is (λ views. graph_part views (embed views room) g id frame path state) (Some (gives [] state))
not_entered room g id frame path state shut =
    silent (λ views. graph_part views (embed views room) g id frame path state) (gives [] state)
    (λ views.
    ap
    (λ b.
    choose b
    (embed_all (embed views room) (graph.Named id) (graph_frame (within_of frame)) true path (entered_keys views id (graph_frame (within_of frame))))
    (gives []) state) (sym (shut (views.names_graph id) ∙ never (views.names_graph id))))
  where
    never : (b : Bool) → (b && false) ≡ false
    never true = refl
    never false = refl

pub names_nothing :
    {dataset : List Quad} {before after : Option (List Question)} {first last : ℕ} (room : ℕ) (g : GraphRef) (id : Term) (frame : Nested)
    (path : List Place) (state : State) (may name : Bool) → ((test : Bool) → enters_by test g id frame path ≡ (test && may)) → name ≡ false →
    Learns (IsNearOne dataset (IsNamed id)) dataset before after first last (λ d. named d id) name →
    Embeds dataset before after first last (reversed_in frame) (IsOfNode g id) (λ views. graph_part views (embed views room) g id frame path state) (Some (gives [] state))
names_nothing {dataset = dataset} room g id frame path state may name enter is one =
    settled (λ views. graph_part views (embed views room) g id frame path state) (gives [] state) one
    (λ e. same_from dataset [] (reversed_in frame) (IsNamed id) (IsOfNode g id) (none_among (reversed_in frame)) (λ x here. inl here))
    (λ other e.
    ap
    (λ b.
    choose b
    (embed_all (embed (of_dataset other) room) (graph.Named id) (graph_frame (within_of frame)) true path (entered_keys (of_dataset other) id (graph_frame (within_of frame))))
    (gives []) state) (sym (enter (named other id) ∙ ap (λ b. b && may) (sym e ∙ is))))

pub names_graph :
    {dataset later : List Quad} {before middle after : Option (List Question)} {first second last : ℕ} (room : ℕ) (g : GraphRef) (id : Term)
    (frame sub : Nested) (path : List Place) (state : State) (may name : Bool) (made : Option (Result (List TreeNode))) →
    ((test : Bool) → enters_by test g id frame path ≡ (test && may)) → may ≡ true → name ≡ true → sub ≡ graph_frame (within_of frame) →
    Learns (IsNearOne dataset (IsNamed id)) dataset before middle first second (λ d. named d id) name → later ≡ dataset →
    Embeds later middle after second last (reversed_in sub) (IsNamed id) (λ views. named_part views (embed views room) id sub path state) made →
    Embeds dataset before after first last (reversed_in frame) (IsOfNode g id) (λ views. graph_part views (embed views room) g id frame path state) made
names_graph {dataset = dataset} room g id frame sub path state may name made enter opens is same one stays two =
    after_one (λ views. named_part views (embed views room) id sub path state) (λ views. graph_part views (embed views room) g id frame path state)
    made one stays two
    (λ e. same_from dataset [] (reversed_in frame) (IsNamed id) (IsOfNode g id) (none_among (reversed_in frame)) (λ x here. inl here))
    (λ e.
    same_by dataset (reversed_in sub) (reversed_in frame) (IsNamed id) (IsOfNode g id)
    (subst (λ f. AreAmong (reversed_in f) (reversed_in frame)) (sym same) (graph_among frame)) (λ x here. inl here))
    (λ other e.
    keys_embedded (of_dataset other) (embed (of_dataset other) room) (graph.Named id) sub true path ((of_dataset other).keys (graph.Named id)) state
    ∙ ap
    (λ f.
    embed_all (embed (of_dataset other) room) (graph.Named id) f true path (entered_keys (of_dataset other) id f) state) same
    ∙ ap
    (λ b.
    choose b
    (embed_all (embed (of_dataset other) room) (graph.Named id) (graph_frame (within_of frame)) true path (entered_keys (of_dataset other) id (graph_frame (within_of frame))))
    (gives []) state) (sym (enter (named other id) ∙ ap (λ b. b && may) (sym e ∙ is) ∙ opens)))

pub named_keys :
    {dataset later : List Quad} {before middle after : Option (List Question)} {first second last : ℕ} (room : ℕ) (name copied : Term) (frame : Nested)
    (path : List Place) (state : State) (found : List Term) (made : Option (Result (List TreeNode))) → copied ≡ name →
    Learns (IsNearMembers dataset (graph.Named copied)) dataset before middle first second (λ d. keys d (graph.Named copied)) found → later ≡ dataset →
    Embeds later middle after second last (reversed_in frame) (IsOfKeys (graph.Named copied) found)
    (λ views. keys_part views (embed views room) (graph.Named copied) frame true path found state) made →
    Embeds dataset before after first last (reversed_in frame) (IsNamed name) (λ views. named_part views (embed views room) name frame path state) made
named_keys {dataset = dataset} {before = before} {after = after} {first = first} {last = last} room name copied frame path state found made same one stays two =
    subst
    (λ t.
    Embeds dataset before after first last (reversed_in frame) (IsNamed t) (λ views. named_part views (embed views room) t frame path state) made) same
    (after_one (λ views. keys_part views (embed views room) (graph.Named copied) frame true path found state)
    (λ views. named_part views (embed views room) copied frame path state) made one stays two
    (λ e.
    wide_from dataset [] (reversed_in frame) (IsMember dataset (graph.Named copied)) (IsNamed copied) (none_among (reversed_in frame))
    (λ iris x here. of_member x here))
    (λ e.
    wide_by dataset (reversed_in frame) (reversed_in frame) (IsOfKeys (graph.Named copied) found) (IsNamed copied) (themselves (reversed_in frame))
    (λ iris x here. of_key e x here))
    (λ other e. ap (λ ks. keys_part (of_dataset other) (embed (of_dataset other) room) (graph.Named copied) frame true path ks state) e))
  where
    of_member : (x : Term) → IsMember dataset (graph.Named copied) x → (y : Term) × (IsNamed copied y × Near dataset (reversed_in frame) y x)
    of_member x (inl is) = (x, (is, itself))
    of_member x (inr member) = (copied, (refl, member_is_near dataset (reversed_in frame) copied x member))

    of_key : found ≡ keys dataset (graph.Named copied) → (x : Term) → IsOfKeys (graph.Named copied) found x → (y : Term) × (IsNamed copied y × Near dataset (reversed_in frame) y x)
    of_key e x (inl key) = (copied, (refl, key_is_near dataset (reversed_in frame) copied x (subst (λ ks. list_any (term_eq x) ks ≡ true) e key)))
    of_key e x (inr is) = (x, (is, itself))

-- ---- a node that is matched, by one view

pub no_match_unseen :
    {dataset : List Quad} {before after : Option (List Question)} {first last : ℕ} (room : ℕ) (g : GraphRef) (id : Term) (frame : Nested)
    (free : Bool) (path : List Place) (state : State) (found : Option NodeView) → found ≡ None →
    Learns (IsNearOne dataset (IsOfNode g id)) dataset before after first last (λ d. view_of d g id) (option_map view_data found) →
    Embeds dataset before after first last (reversed_in frame) (IsOfNode g id) (λ views. matched views (embed views room) g frame free path id state) (Some (gives None state))
no_match_unseen {dataset = dataset} room g id frame free path state found is one =
    settled (λ views. matched views (embed views room) g frame free path id state) (gives None state) one
    (λ e. node_wide dataset (reversed_in frame) g id)
    (λ other e.
    ap (λ b. perhaps b (embed (of_dataset other) room g id frame free path) state)
    (no_view (of_dataset other) g frame id (subst (λ f. option_map view_data f ≡ view_of other g id) is e)))

-- the view of a node and whether the frame matches it
abbrev pub judged : Option View → Bool → Option View × Bool
judged found fits = (found, fits)

pub both_known :
    {dataset later : List Quad} {before middle after : Option (List Question)} {first second last : ℕ} (g : GraphRef) (id : Term) (frame : Nested)
    (found : Option NodeView) (view : NodeView) (fits : Bool) → found ≡ Some view →
    Learns (IsNearOne dataset (IsOfNode g id)) dataset before middle first second (λ d. view_of d g id) (option_map view_data found) → later ≡ dataset →
    Learns (IsNearOneFor later frame (IsOfView g (view_data view))) later middle after second last
    (λ d. matches_viewed (of_dataset d) g frame id (view_data view)) fits →
    Learns (IsNearBy dataset (reversed_in frame) (IsOfNode g id)) dataset before after first last
    (λ d. judged (view_of d g id) (matches_viewed (of_dataset d) g frame id (view_data view))) (judged (Some (view_data view)) fits)
both_known {dataset = dataset} g id frame found view fits is one stays two =
    learns_then (λ d. IsNearOneFor d frame (IsOfView g (view_data view))) _ (λ d. judged (view_of d g id) (matches_viewed (of_dataset d) g frame id (view_data view)))
    (judged (Some (view_data view)) fits) one stays two (λ e. node_wide dataset (reversed_in frame) g id)
    (λ e f.
    wide_from dataset (reversed_in frame) (reversed_in frame) (IsOfView g (view_data view)) (IsOfNode g id) (themselves (reversed_in frame))
    (λ iris x here. seen_is_near dataset (reversed_in frame) g id (view_data view) (own dataset e) x (view_is_of g id (view_data view) x here)))
    (λ other e f. λ i. judged (subst (λ o. option_map view_data o ≡ view_of other g id) is e i) (f i))
  where
    own : (d : List Quad) → option_map view_data found ≡ view_of d g id → view_data view ≡ seen id (view_of d g id)
    own d e = ap (seen id) (subst (λ o. option_map view_data o ≡ view_of d g id) is e)

pub known_match :
    (other : List Quad) (g : GraphRef) (id : Term) (frame : Nested) (view : View) (fits : Bool) →
    judged (Some view) fits ≡ judged (view_of other g id) (matches_viewed (of_dataset other) g frame id view) → fits ≡ matches (of_dataset other) g frame id
known_match other g id frame view fits e = (λ i. (e i).1) ∙ seen_matches (of_dataset other) g frame id view (λ i. (e i).0)

pub no_match_seen :
    {dataset later : List Quad} {before middle after : Option (List Question)} {first second last : ℕ} (room : ℕ) (g : GraphRef) (id : Term)
    (frame : Nested) (free : Bool) (path : List Place) (state : State) (found : Option NodeView) (view : NodeView) (fits : Bool) →
    found ≡ Some view → fits ≡ false →
    Learns (IsNearOne dataset (IsOfNode g id)) dataset before middle first second (λ d. view_of d g id) (option_map view_data found) → later ≡ dataset →
    Learns (IsNearOneFor later frame (IsOfView g (view_data view))) later middle after second last
    (λ d. matches_viewed (of_dataset d) g frame id (view_data view)) fits →
    Embeds dataset before after first last (reversed_in frame) (IsOfNode g id) (λ views. matched views (embed views room) g frame free path id state) (Some (gives None state))
no_match_seen room g id frame free path state found view fits is fails one stays two =
    settled (λ views. matched views (embed views room) g frame free path id state) (gives None state)
    (both_known g id frame found view fits is one stays two) (λ e question near. near)
    (λ other e.
    ap (λ b. perhaps b (embed (of_dataset other) room g id frame free path) state)
    (sym fails ∙ known_match other g id frame (view_data view) fits e))

-- a node that is matched is embedded by its view
match_is :
    (other : List Quad) (room : ℕ) (g : GraphRef) (id : Term) (frame : Nested) (free : Bool) (path : List Place) (state : State) (view : View)
    (fits : Bool) → fits ≡ true → judged (Some view) fits ≡ judged (view_of other g id) (matches_viewed (of_dataset other) g frame id view) →
    then (embed_viewed (of_dataset other) room g id frame free view path state) (λ made after. gives (Some made) after)
    ≡ matched (of_dataset other) (embed (of_dataset other) room) g frame free path id state
match_is other room g id frame free path state view fits is e =
    ap (λ r. then r (λ made after. gives (Some made) after))
    (ap (λ v. embed_viewed (of_dataset other) room g id frame free (seen id v) path state) (λ i. (e i).0)
    ∙ embed_is_viewed (of_dataset other) room g id frame free path state)
    ∙ ap (λ b. perhaps b (embed (of_dataset other) room g id frame free path) state) (sym is ∙ known_match other g id frame view fits e)

pub match_made :
    {dataset later last_seen : List Quad} {before middle then_told after : Option (List Question)} {first second third last : ℕ} (room : ℕ)
    (g : GraphRef) (id : Term) (frame : Nested) (free : Bool) (path : List Place) (state next : State) (found : Option NodeView) (view : NodeView)
    (fits : Bool) (made : TreeNode) → found ≡ Some view → fits ≡ true →
    Learns (IsNearOne dataset (IsOfNode g id)) dataset before middle first second (λ d. view_of d g id) (option_map view_data found) → later ≡ dataset →
    Learns (IsNearOneFor later frame (IsOfView g (view_data view))) later middle then_told second third
    (λ d. matches_viewed (of_dataset d) g frame id (view_data view)) fits → last_seen ≡ dataset →
    Embeds last_seen then_told after third last (reversed_in frame) (IsOfNodeOrView g id (view_data view))
    (λ views. embed_viewed views room g id frame free (view_data view) path state) (Some (gives made next)) →
    Embeds dataset before after first last (reversed_in frame) (IsOfNode g id) (λ views. matched views (embed views room) g frame free path id state) (Some (gives (Some made) next))
match_made {dataset = dataset} room g id frame free path state next found view fits made is passes one stays two stays_too three =
    taken_after (λ views. embed_viewed views room g id frame free (view_data view) path state) (λ views. matched views (embed views room) g frame free path id state)
    (gives made next) (gives (Some made) next) (both_known g id frame found view fits is one stays two) stays_too three (λ e question near. near)
    (λ e.
    wide_by dataset (reversed_in frame) (reversed_in frame) (IsOfNodeOrView g id (view_data view)) (IsOfNode g id) (themselves (reversed_in frame))
    (λ iris. seen_is_near dataset (reversed_in frame) g id (view_data view) (λ i. seen id (e i).0)))
    (λ other e f.
    ap (λ r. then r (λ one_made later_state. gives (Some one_made) later_state)) f
    ∙ match_is other room g id frame free path state (view_data view) fits passes e)

pub match_over :
    {T U : Type 0} {dataset later last_seen : List Quad} {before middle then_told after : Option (List Question)} {first second third last : ℕ}
    (f : T → TreeNode) (h : U → Option TreeNode) (room : ℕ) (g : GraphRef) (id : Term) (frame : Nested) (free : Bool) (path : List Place)
    (state one_state two_state : State) (found : Option NodeView) (view : NodeView) (fits : Bool) (e : Stop) → found ≡ Some view → fits ≡ true →
    Learns (IsNearOne dataset (IsOfNode g id)) dataset before middle first second (λ d. view_of d g id) (option_map view_data found) → later ≡ dataset →
    Learns (IsNearOneFor later frame (IsOfView g (view_data view))) later middle then_told second third
    (λ d. matches_viewed (of_dataset d) g frame id (view_data view)) fits → last_seen ≡ dataset →
    Embeds last_seen then_told after third last (reversed_in frame) (IsOfNodeOrView g id (view_data view))
    (λ views. embed_viewed views room g id frame free (view_data view) path state) (run_of f (Err e) one_state) →
    Embeds dataset before after first last (reversed_in frame) (IsOfNode g id) (λ views. matched views (embed views room) g frame free path id state) (run_of h (Err e) two_state)
match_over {dataset = dataset} f h room g id frame free path state one_state two_state found view fits e is passes one stays two stays_too three =
    stopped_after f h (λ views. embed_viewed views room g id frame free (view_data view) path state)
    (λ views. matched views (embed views room) g frame free path id state) e one_state two_state (both_known g id frame found view fits is one stays two)
    stays_too three (λ k question near. near)
    (λ k.
    wide_by dataset (reversed_in frame) (reversed_in frame) (IsOfNodeOrView g id (view_data view)) (IsOfNode g id) (themselves (reversed_in frame))
    (λ iris. seen_is_near dataset (reversed_in frame) g id (view_data view) (λ i. seen id (k i).0)))
    (λ other limit k same.
    ap (λ r. then r (λ one_made later_state. gives (Some one_made) later_state)) same
    ∙ match_is other room g id frame free path state (view_data view) fits passes k)

-- one step more on the path
pub steps_in :
    (g : GraphRef) (id : Term) (inner mid path : List Place) → inner ≡ record { graph = g; id = id } ∷ mid → mid ≡ path →
    inner ≡ record { graph = g; id = id } ∷ path
steps_in g id inner mid path joins stays = subst (λ p. inner ≡ record { graph = g; id = id } ∷ p) stays joins
