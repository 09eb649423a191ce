-- What each function of embedding gives at its ends: the contents of a node, its values and its reverse properties.
use Rattle.std.proofs.Common.{◌≡◌, inl, inr, ℕ, Bool, true, false, List, [], ◌∷◌, ◌++◌, map, slice_get, Option, Some, None, option_map, Err, IfSome, refl, sym, ap, subst, ◌∙◌}
use Rattle.std.specs.Bool.{IsTrue}
use Rattle.std.specs.List.{list_any}
use Rattle.lf_rdf.specs.Equality.{term_eq}
use Rattle.lf_rdf.specs.declared.term.Term.{Term}
use Rattle.lf_rdf.specs.declared.term.Term.TheVariants.{Iri}
use Rattle.lf_rdf.specs.declared.quad.Quad.{Quad}
use Rattle.lf_rdf.specs.declared.question.GraphRef.{GraphRef}
use Rattle.lf_rdf.specs.declared.question.Question.{Question}
use Rattle.lf_model.specs.declared.document.Limit.TheVariants.{TreeItems}
use Rattle.lf_model.specs.declared.frame.FrameNode.{FrameNode}
use Rattle.lf_model.specs.declared.value.Prop.{Prop}
use Rattle.lf_model.specs.declared.value.Value.{Value}
use Rattle.lf_model.specs.declared.value.Value.TheVariants as v
use Rattle.lf_model.specs.ValueBridge.{value_data}
use Rattle.lf_model.specs.ValueData.{ListValue, reference, values_of}
use Rattle.lf_model.proofs.ValueLemmas.{value_data-List, value_data-Literal, value_data-Ref}
use Rattle.lf_model.specs.TreeData.{TreeNode, TreeNodes, TreeEntry, TreeEntries, entries_of, list_entry, node_entry, tree, nodes_of, properties_of, reverses_of}
use Rattle.lf_oracle.specs.Asking.{Learns}
use Rattle.lf_oracle.specs.Nearby.{IsNearOne, IsOfNode, IsPointing}
use Rattle.lf_oracle.specs.NodeViews.{pointing_at}
use Rattle.lf_match.specs.NearNodes.{IsNearOneFor, IsOfValue, IsOfValues}
use Rattle.lf_match.proofs.NearTerms.{AreAmong, none_among, themselves}
use Rattle.lf_match.proofs.RowProofs.{with_row}
use Rattle.def_nested.specs.Nested.{Nested, flags_of, no_reverses, reverse_props_of, reverses_list}
use Rattle.def_nested.specs.Unfolding.{above, build_reverses, nested}
use Rattle.def_datasets.specs.Near.{Near, itself}
use Rattle.def_datasets.specs.Views.{View, pointing}
use Rattle.def_framing.specs.Embedding.{contents, embed}
use Rattle.def_framing.specs.Matching.{accepts, matches}
use Rattle.def_framing.specs.Nearness.{in_reverses, reversed_in}
use Rattle.def_framing.specs.Parts.{Embedding, default_part, emit, emit_all, graph_part, reverse_next, reverse_part, value_part}
use Rattle.def_framing.specs.Results.{Result, State, choose, gives, item, over, then, through}
use Rattle.def_framing.specs.Steps.{is_output, item_frame, sub_for, types_by}
use Rattle.def_framing.specs.Views.{Place, Views, of_dataset}
use Rattle.lf_embed.specs.declared.choices.ReferenceRule.{ReferenceRule}
use Rattle.lf_embed.specs.declared.choices.ReferenceRule.TheVariants as rule
use Rattle.lf_embed.specs.declared.form.Form.{Form}
use Rattle.lf_embed.specs.declared.form.Form.TheVariants as form
use Rattle.lf_embed.specs.declared.walk.Stop.{Stop}
use Rattle.lf_embed.specs.declared.walk.Stop.TheVariants as stop
use Rattle.lf_embed.specs.Choices.{taken_by}
use Rattle.lf_embed.specs.Cycle.{arriving_part, emit_accepted, emit_list, keys_part, matched, perhaps, property_values, reverses_part, view_property}
use Rattle.lf_embed.specs.Embeds.{Embeds, IsNearBy, IsOfKeys, IsOfNodeOrView, IsOfProps, has_iri_predicates}
use Rattle.lf_embed.specs.Forms.{form_of}
use Rattle.lf_embed.specs.Made.{emit_literal}
use Rattle.lf_embed.specs.Runs.{run_of}
use Rattle.lf_embed.proofs.CycleProofs.{literal_emitted, list_emitted, reference_emitted, reverses_embedded}
use Rattle.lf_embed.proofs.Gains.{after_one, known_after, passed, settled, silent, stopped, stopped_after, taken_after, taken_on}
use Rattle.lf_embed.proofs.NearParts.{behind_among, item_among, reverses_among, same_by, same_from, sub_among, told_first, view_of_props, wide_by, wide_from}
use Rattle.lf_embed.proofs.NearSteps.{pointing_is_near, subject_is_near}

-- ---- the four parts of a node

abbrev finish : Term → Nested → View → List TreeNode → List (List ℕ × TreeEntries) → List (List ℕ × TreeEntries) → List (List ℕ × TreeNodes) → TreeNode
finish id frame view nodes values defaults reverses =
    tree (Some id) (types_by (flags_of frame).types view.types) (nodes_of nodes) (properties_of (values ++ defaults)) (reverses_of reverses)

abbrev from_defaults : Views → Embedding → GraphRef → Term → Nested → View → List Place → List TreeNode → List (List ℕ × TreeEntries) → List (List ℕ × TreeEntries) → State → Result TreeNode
from_defaults views self g id frame view path nodes values defaults state =
    then (reverse_part views self g id frame path state) (λ reverses after. gives (finish id frame view nodes values defaults reverses) after)

abbrev from_values : Views → Embedding → GraphRef → Term → Nested → View → List Place → List TreeNode → List (List ℕ × TreeEntries) → State → Result TreeNode
from_values views self g id frame view path nodes values state =
    then (default_part frame values state) (λ defaults after. from_defaults views self g id frame view path nodes values defaults after)

abbrev from_graph : Views → Embedding → GraphRef → Term → Nested → View → List Place → List TreeNode → State → Result TreeNode
from_graph views self g id frame view path nodes state =
    then (value_part views self g frame path view.props state) (λ values after. from_values views self g id frame view path nodes values after)

abbrev both_of : List TreeNode → List (List ℕ × TreeEntries) → List TreeNode × List (List ℕ × TreeEntries)
both_of nodes values = (nodes, values)

-- the first two parts together
abbrev two_parts : Views → Embedding → GraphRef → Term → Nested → View → List Place → State → Result (List TreeNode × List (List ℕ × TreeEntries))
two_parts views self g id frame view path state =
    then (graph_part views self g id frame path state)
    (λ nodes after. then (value_part views self g frame path view.props after) (λ values later. gives (both_of nodes values) later))

parted :
    (views : Views) (self : Embedding) (g : GraphRef) (id : Term) (frame : Nested) (view : View) (path : List Place) (state : State) →
    then (two_parts views self g id frame view path state) (λ both after. from_values views self g id frame view path both.0 both.1 after)
    ≡ contents views self g id frame view path state
parted views self g id frame view path state = go (graph_part views self g id frame path state)
  where
    inner : (nodes : List TreeNode) (r : Result (List (List ℕ × TreeEntries))) →
        then (then r (λ values later. gives (both_of nodes values) later)) (λ both after. from_values views self g id frame view path both.0 both.1 after)
        ≡ then r (λ values after. from_values views self g id frame view path nodes values after)
    inner nodes (gives values after) = refl
    inner nodes (over limit) = refl

    go : (r : Result (List TreeNode)) →
        then
        (then r (λ nodes after. then (value_part views self g frame path view.props after) (λ values later. gives (both_of nodes values) later)))
        (λ both after. from_values views self g id frame view path both.0 both.1 after)
        ≡ then r (λ nodes after. from_graph views self g id frame view path nodes after)
    go (gives nodes after) = inner nodes (value_part views self g frame path view.props after)
    go (over limit) = refl

graph_wide :
    (dataset : List Quad) (many : List (List ℕ)) (g : GraphRef) (id : Term) (view : View) (question : Question) →
    IsNearBy dataset many (IsOfNode g id) question → IsNearBy dataset many (IsOfNodeOrView g id view) question
graph_wide dataset many g id view = same_by dataset many many (IsOfNode g id) (IsOfNodeOrView g id view) (themselves many) (λ x here. inl here)

props_wide :
    (dataset : List Quad) (many : List (List ℕ)) (g : GraphRef) (id : Term) (view : View) (question : Question) →
    IsNearBy dataset many (IsOfProps g view.props) question → IsNearBy dataset many (IsOfNodeOrView g id view) question
props_wide dataset many g id view =
    same_by dataset many many (IsOfProps g view.props) (IsOfNodeOrView g id view) (themselves many) (view_of_props g id view)

-- the named graph met a limit
pub graph_over :
    {T U : Type 0} {dataset : List Quad} {before after : Option (List Question)} {first last : ℕ} (f : T → List TreeNode) (h : U → TreeNode)
    (room : ℕ) (g : GraphRef) (id : Term) (frame : Nested) (view : View) (path : List Place) (state one two : State) (e : Stop) →
    Embeds dataset before after first last (reversed_in frame) (IsOfNode g id) (λ views. graph_part views (embed views room) g id frame path state) (run_of f (Err e) one) →
    Embeds dataset before after first last (reversed_in frame) (IsOfNodeOrView g id view) (λ views. contents views (embed views room) g id frame view path state) (run_of h (Err e) two)
graph_over {dataset = dataset} f h room g id frame view path state one two e gained =
    stopped f h (λ views. graph_part views (embed views room) g id frame path state) (λ views. contents views (embed views room) g id frame view path state)
    e one two gained (graph_wide dataset (reversed_in frame) g id view)
    (λ views limit same. ap (λ r. then r (λ nodes after. from_graph views (embed views room) g id frame view path nodes after)) same)

-- the properties met a limit
pub values_over :
    {T U : Type 0} {dataset later : List Quad} {before middle after : Option (List Question)} {first second last : ℕ}
    (f : T → List (List ℕ × TreeEntries)) (h : U → TreeNode) (room : ℕ) (g : GraphRef) (id : Term) (frame : Nested) (view : View)
    (path later_path : List Place) (state next one two : State) (nodes : List TreeNode) (e : Stop) → later_path ≡ path →
    Embeds dataset before middle first second (reversed_in frame) (IsOfNode g id) (λ views. graph_part views (embed views room) g id frame path state) (Some (gives nodes next)) →
    later ≡ dataset →
    Embeds later middle after second last (reversed_in frame) (IsOfProps g view.props) (λ views. value_part views (embed views room) g frame later_path view.props next) (run_of f (Err e) one) →
    Embeds dataset before after first last (reversed_in frame) (IsOfNodeOrView g id view) (λ views. contents views (embed views room) g id frame view path state) (run_of h (Err e) two)
values_over {dataset = dataset} f h room g id frame view path later_path state next one two nodes e steps gained stays more =
    stopped_after f h (λ views. value_part views (embed views room) g frame later_path view.props next)
    (λ views. contents views (embed views room) g id frame view path state) e one two gained.gained stays more
    (λ k. graph_wide dataset (reversed_in frame) g id view) (λ k. props_wide dataset (reversed_in frame) g id view)
    (λ other limit k same.
    ap (λ r. then r (λ values after_values. from_values (of_dataset other) (embed (of_dataset other) room) g id frame view path nodes values after_values))
    (same ∙ ap (λ p. value_part (of_dataset other) (embed (of_dataset other) room) g frame p view.props next) steps)
    ∙ ap (λ r. then r (λ made after_graph. from_graph (of_dataset other) (embed (of_dataset other) room) g id frame view path made after_graph)) k)

-- the first two parts were made
two_made :
    {dataset later : List Quad} {before middle after : Option (List Question)} {first second last : ℕ} (room : ℕ) (g : GraphRef) (id : Term)
    (frame : Nested) (view : View) (path later_path : List Place) (state next third : State) (nodes : List TreeNode)
    (values : List (List ℕ × TreeEntries)) → later_path ≡ path →
    Embeds dataset before middle first second (reversed_in frame) (IsOfNode g id) (λ views. graph_part views (embed views room) g id frame path state) (Some (gives nodes next)) →
    later ≡ dataset →
    Embeds later middle after second last (reversed_in frame) (IsOfProps g view.props) (λ views. value_part views (embed views room) g frame later_path view.props next) (Some (gives values third)) →
    Embeds dataset before after first last (reversed_in frame) (IsOfNodeOrView g id view) (λ views. two_parts views (embed views room) g id frame view path state) (Some (gives (both_of nodes values) third))
two_made {dataset = dataset} room g id frame view path later_path state next third nodes values steps gained stays more =
    taken_after (λ views. value_part views (embed views room) g frame later_path view.props next)
    (λ views. two_parts views (embed views room) g id frame view path state) (gives values third) (gives (both_of nodes values) third) gained.gained stays more
    (λ k. graph_wide dataset (reversed_in frame) g id view) (λ k. props_wide dataset (reversed_in frame) g id view)
    (λ other k same.
    ap (λ r. then r (λ made last_state. gives (both_of nodes made) last_state))
    (same ∙ ap (λ p. value_part (of_dataset other) (embed (of_dataset other) room) g frame p view.props next) steps)
    ∙ ap
    (λ r.
    then r
    (λ made after_graph.
    then (value_part (of_dataset other) (embed (of_dataset other) room) g frame path view.props after_graph) (λ held last_state. gives (both_of made held) last_state))) k)

-- the defaults met a limit
pub defaults_over :
    {T U : Type 0} {dataset later : List Quad} {before middle after : Option (List Question)} {first second last : ℕ}
    (f : T → List (List ℕ × TreeEntries)) (h : U → TreeNode) (room : ℕ) (g : GraphRef) (id : Term) (frame : Nested) (view : View)
    (path later_path : List Place) (state next third one two : State) (nodes : List TreeNode) (values : List (List ℕ × TreeEntries)) (e : Stop) →
    later_path ≡ path →
    Embeds dataset before middle first second (reversed_in frame) (IsOfNode g id) (λ views. graph_part views (embed views room) g id frame path state) (Some (gives nodes next)) →
    later ≡ dataset →
    Embeds later middle after second last (reversed_in frame) (IsOfProps g view.props) (λ views. value_part views (embed views room) g frame later_path view.props next) (Some (gives values third)) →
    IfSome (run_of f (Err e) one) (λ r. r ≡ default_part frame values third) →
    Embeds dataset before after first last (reversed_in frame) (IsOfNodeOrView g id view) (λ views. contents views (embed views room) g id frame view path state) (run_of h (Err e) two)
defaults_over f h room g id frame view path later_path state next third one two nodes values stop.Memory steps gained stays more run = record { gained = tt }
defaults_over f h room g id frame view path later_path state next third one two nodes values (stop.Over limit) steps gained stays more run =
    record {
      gained = (taken_on (λ views. two_parts views (embed views room) g id frame view path state) (λ views. contents views (embed views room) g id frame view path state)
          (gives (both_of nodes values) third) (over limit) (two_made room g id frame view path later_path state next third nodes values steps gained stays more)
          (λ question near. near)
          (λ views k.
          ap (λ r. then r (λ defaults last_state. from_defaults views (embed views room) g id frame view path nodes values defaults last_state)) run
          ∙ ap (λ r. then r (λ both last_state. from_values views (embed views room) g id frame view path both.0 both.1 last_state)) k
          ∙ parted views (embed views room) g id frame view path state)).gained;
    }

-- the reverse properties met a limit
pub reverses_over :
    {T U : Type 0} {dataset later last_seen : List Quad} {before middle then_told after : Option (List Question)} {first second third_step last : ℕ}
    (f : T → List (List ℕ × TreeNodes)) (h : U → TreeNode) (room : ℕ) (g : GraphRef) (id : Term) (frame : Nested) (view : View)
    (path later_path last_path : List Place) (state next third fourth one two : State) (nodes : List TreeNode)
    (values defaults : List (List ℕ × TreeEntries)) (e : Stop) → later_path ≡ path → last_path ≡ path →
    Embeds dataset before middle first second (reversed_in frame) (IsOfNode g id) (λ views. graph_part views (embed views room) g id frame path state) (Some (gives nodes next)) →
    later ≡ dataset →
    Embeds later middle then_told second third_step (reversed_in frame) (IsOfProps g view.props) (λ views. value_part views (embed views room) g frame later_path view.props next) (Some (gives values third)) →
    gives defaults fourth ≡ default_part frame values third → last_seen ≡ dataset →
    Embeds last_seen then_told after third_step last (reversed_in frame) (IsOfNode g id) (λ views. reverse_part views (embed views room) g id frame last_path fourth) (run_of f (Err e) one) →
    Embeds dataset before after first last (reversed_in frame) (IsOfNodeOrView g id view) (λ views. contents views (embed views room) g id frame view path state) (run_of h (Err e) two)
reverses_over {dataset = dataset} f h room g id frame view path later_path last_path state next third fourth one two nodes values defaults e steps ends gained stays more run stays_too most =
    stopped_after f h (λ views. reverse_part views (embed views room) g id frame last_path fourth)
    (λ views. contents views (embed views room) g id frame view path state) e one two
    (two_made room g id frame view path later_path state next third nodes values steps gained stays more).gained stays_too most
    (λ k question near. near) (λ k. graph_wide dataset (reversed_in frame) g id view)
    (λ other limit k same.
    ap (λ r. then r (λ reverses last_state. gives (finish id frame view nodes values defaults reverses) last_state))
    (same ∙ ap (λ p. reverse_part (of_dataset other) (embed (of_dataset other) room) g id frame p fourth) ends)
    ∙ ap (λ r. then r (λ made last_state. from_defaults (of_dataset other) (embed (of_dataset other) room) g id frame view path nodes values made last_state)) run
    ∙ ap (λ r. then r (λ both last_state. from_values (of_dataset other) (embed (of_dataset other) room) g id frame view path both.0 both.1 last_state)) k
    ∙ parted (of_dataset other) (embed (of_dataset other) room) g id frame view path state)

-- all parts were made
pub contents_made :
    {dataset later last_seen : List Quad} {before middle then_told after : Option (List Question)} {first second third_step last : ℕ}
    (room : ℕ) (g : GraphRef) (id : Term) (frame : Nested) (view : View) (path later_path last_path : List Place)
    (state next third fourth final : State) (nodes : List TreeNode) (values defaults : List (List ℕ × TreeEntries))
    (reverses : List (List ℕ × TreeNodes)) (types : List Term) (made : TreeNode) → later_path ≡ path → last_path ≡ path →
    types ≡ types_by (flags_of frame).types view.types →
    made ≡ tree (Some id) types (nodes_of nodes) (properties_of (values ++ defaults)) (reverses_of reverses) →
    Embeds dataset before middle first second (reversed_in frame) (IsOfNode g id) (λ views. graph_part views (embed views room) g id frame path state) (Some (gives nodes next)) →
    later ≡ dataset →
    Embeds later middle then_told second third_step (reversed_in frame) (IsOfProps g view.props) (λ views. value_part views (embed views room) g frame later_path view.props next) (Some (gives values third)) →
    gives defaults fourth ≡ default_part frame values third → last_seen ≡ dataset →
    Embeds last_seen then_told after third_step last (reversed_in frame) (IsOfNode g id) (λ views. reverse_part views (embed views room) g id frame last_path fourth) (Some (gives reverses final)) →
    Embeds dataset before after first last (reversed_in frame) (IsOfNodeOrView g id view) (λ views. contents views (embed views room) g id frame view path state) (Some (gives made final))
contents_made {dataset = dataset} room g id frame view path later_path last_path state next third fourth final nodes values defaults reverses types made steps ends typed assembled gained stays more run stays_too most =
    taken_after (λ views. reverse_part views (embed views room) g id frame last_path fourth)
    (λ views. contents views (embed views room) g id frame view path state) (gives reverses final) (gives made final)
    (two_made room g id frame view path later_path state next third nodes values steps gained stays more).gained stays_too most
    (λ k question near. near) (λ k. graph_wide dataset (reversed_in frame) g id view)
    (λ other k same.
    ap (λ t. gives t final)
    (assembled ∙ ap (λ ts. tree (Some id) ts (nodes_of nodes) (properties_of (values ++ defaults)) (reverses_of reverses)) typed)
    ∙ ap (λ r. then r (λ back last_state. gives (finish id frame view nodes values defaults back) last_state))
    (same ∙ ap (λ p. reverse_part (of_dataset other) (embed (of_dataset other) room) g id frame p fourth) ends)
    ∙ ap (λ r. then r (λ filled last_state. from_defaults (of_dataset other) (embed (of_dataset other) room) g id frame view path nodes values filled last_state)) run
    ∙ ap (λ r. then r (λ both last_state. from_values (of_dataset other) (embed (of_dataset other) room) g id frame view path both.0 both.1 last_state)) k
    ∙ parted (of_dataset other) (embed (of_dataset other) room) g id frame view path state)

-- ---- the values of a property

pub values_output :
    {dataset : List Quad} {before after : Option (List Question)} {first last : ℕ} (room : ℕ) (g : GraphRef) (frame sub : Nested)
    (path : List Place) (held : Prop) (lent : List Value) (state : State) (made : Option (Result (List TreeEntry))) (output : Bool) →
    output ≡ is_output frame held.property → output ≡ true → sub ≡ sub_for frame held.property → lent ≡ held.values →
    Embeds dataset before after first last (reversed_in sub) (IsOfValues g (map value_data lent)) (λ views. emit_all views (embed views room) g path sub [] (values_of (map value_data lent)) state) made →
    Embeds dataset before after first last (reversed_in frame) (IsOfValues g (map value_data held.values)) (λ views. property_values views (embed views room) g frame path (view_property held) state) made
values_output {dataset = dataset} room g frame sub path held lent state made output tells is same items gained =
    passed (λ views. emit_all views (embed views room) g path sub [] (values_of (map value_data lent)) state)
    (λ views. property_values views (embed views room) g frame path (view_property held) state) made gained
    (same_by dataset (reversed_in sub) (reversed_in frame) (IsOfValues g (map value_data lent)) (IsOfValues g (map value_data held.values))
    (subst (λ s. AreAmong (reversed_in s) (reversed_in frame)) (sym same) (sub_among frame held.property))
    (λ x here. subst (λ vs. IsOfValues g (map value_data vs) x) items here))
    (λ views.
    ap (λ vs. emit_all views (embed views room) g path sub [] (values_of (map value_data vs)) state) items
    ∙ ap (λ s. emit_all views (embed views room) g path s [] (values_of (map value_data held.values)) state) same
    ∙ ap (λ b. choose b (emit_all views (embed views room) g path (sub_for frame held.property) [] (values_of (map value_data held.values))) (gives []) state)
    (sym is ∙ tells))

pub values_skipped :
    {dataset : List Quad} {told : Option (List Question)} {steps : ℕ} {reversed : List (List ℕ)} {Is : Term → Type 0} (room : ℕ) (g : GraphRef)
    (frame : Nested) (path : List Place) (held : Prop) (state : State) (output : Bool) → output ≡ is_output frame held.property → output ≡ false →
    Embeds dataset told told steps steps reversed Is (λ views. property_values views (embed views room) g frame path (view_property held) state) (Some (gives [] state))
values_skipped room g frame path held state output tells is =
    silent (λ views. property_values views (embed views room) g frame path (view_property held) state) (gives [] state)
    (λ views.
    ap (λ b. choose b (emit_all views (embed views room) g path (sub_for frame held.property) [] (values_of (map value_data held.values))) (gives []) state)
    (sym is ∙ tells))

-- ---- one value

pub reference_value :
    {dataset : List Quad} {before after : Option (List Question)} {first last : ℕ} (room : ℕ) (g : GraphRef) (path : List Place) (frame : Nested)
    (value : Value) (id : Term) (state : State) (made : Option (Result (Option TreeEntry))) → value ≡ v.Ref id →
    Embeds dataset before after first last (reversed_in frame) (IsOfNode g id) (λ views. emit_accepted views (embed views room) g path frame (reference id) state) made →
    Embeds dataset before after first last (reversed_in frame) (IsOfValue g (value_data value)) (λ views. emit_accepted views (embed views room) g path frame (value_data value) state) made
reference_value {dataset = dataset} {before = before} {after = after} {first = first} {last = last} room g path frame value id state made is gained =
    subst
    (λ held. Embeds dataset before after first last (reversed_in frame) (IsOfValue g held) (λ views. emit_accepted views (embed views room) g path frame held state) made)
    (sym (ap value_data is ∙ value_data-Ref id)) gained

value_wide :
    (dataset : List Quad) (frame : Nested) (g : GraphRef) (held : ListValue) (question : Question) → IsNearOneFor dataset frame (IsOfValue g held) question →
    IsNearBy dataset (reversed_in frame) (IsOfValue g held) question
value_wide dataset frame g held = same_from dataset (reversed_in frame) (reversed_in frame) (IsOfValue g held) (IsOfValue g held) (themselves (reversed_in frame)) (λ x here. here)

pub value_refused :
    {dataset : List Quad} {before after : Option (List Question)} {first last : ℕ} (room : ℕ) (g : GraphRef) (path : List Place) (frame : Nested)
    (held : ListValue) (state : State) (fits : Bool) → fits ≡ false →
    Learns (IsNearOneFor dataset frame (IsOfValue g held)) dataset before after first last (λ d. accepts (of_dataset d) g frame held) fits →
    Embeds dataset before after first last (reversed_in frame) (IsOfValue g held) (λ views. emit_accepted views (embed views room) g path frame held state) (Some (gives None state))
value_refused {dataset = dataset} room g path frame held state fits is one =
    settled (λ views. emit_accepted views (embed views room) g path frame held state) (gives None state) one (λ e. value_wide dataset frame g held)
    (λ other e.
    ap (λ b. perhaps b (emit (of_dataset other) (embed (of_dataset other) room) g path frame held) state) (sym is ∙ e))

pub literal_value :
    {dataset : List Quad} {before after : Option (List Question)} {first last : ℕ} (room : ℕ) (g : GraphRef) (path : List Place) (frame : Nested)
    (value : Value) (term : Term) (state : State) (made : Option (Result (Option TreeEntry))) (fits : Bool) → value ≡ v.Literal term → fits ≡ true →
    Learns (IsNearOneFor dataset frame (IsOfValue g (value_data value))) dataset before after first last (λ d. accepts (of_dataset d) g frame (value_data value)) fits →
    IfSome made (λ r. r ≡ emit_literal term state) →
    Embeds dataset before after first last (reversed_in frame) (IsOfValue g (value_data value)) (λ views. emit_accepted views (embed views room) g path frame (value_data value) state) made
literal_value {dataset = dataset} room g path frame value term state made fits is passes one run =
    known_after (λ views. emit_accepted views (embed views room) g path frame (value_data value) state) made (emit_literal term state) run one
    (λ e. value_wide dataset frame g (value_data value))
    (λ other e.
    literal_emitted (of_dataset other) (embed (of_dataset other) room) g path frame term state true
    (sym (subst (λ held. true ≡ accepts (of_dataset other) g frame held) (ap value_data is ∙ value_data-Literal term) (sym passes ∙ e)))
    ∙ ap (λ held. emit_accepted (of_dataset other) (embed (of_dataset other) room) g path frame held state) (sym (ap value_data is ∙ value_data-Literal term)))

pub list_value :
    {dataset later : List Quad} {before middle after : Option (List Question)} {first second last : ℕ} (room : ℕ) (g : GraphRef) (path : List Place)
    (frame : Nested) (value : Value) (items : List Value) (state : State) (made : Option (Result (Option TreeEntry))) (fits : Bool) →
    value ≡ v.List items → fits ≡ true →
    Learns (IsNearOneFor dataset frame (IsOfValue g (value_data value))) dataset before middle first second (λ d. accepts (of_dataset d) g frame (value_data value)) fits →
    later ≡ dataset →
    Embeds later middle after second last (reversed_in frame) (IsOfValues g (map value_data items)) (λ views. emit_list views (embed views room) g path frame (map value_data items) state) made →
    Embeds dataset before after first last (reversed_in frame) (IsOfValue g (value_data value)) (λ views. emit_accepted views (embed views room) g path frame (value_data value) state) made
list_value {dataset = dataset} room g path frame value items state made fits is passes one stays two =
    after_one (λ views. emit_list views (embed views room) g path frame (map value_data items) state)
    (λ views. emit_accepted views (embed views room) g path frame (value_data value) state) made one stays two
    (λ e. value_wide dataset frame g (value_data value))
    (λ e.
    same_by dataset (reversed_in frame) (reversed_in frame) (IsOfValues g (map value_data items)) (IsOfValue g (value_data value)) (themselves (reversed_in frame))
    (λ x here. subst (λ held. IsOfValue g held x) (sym (ap value_data is ∙ value_data-List items)) here))
    (λ other e.
    list_emitted (of_dataset other) (embed (of_dataset other) room) g path frame (map value_data items) state
    (sym (subst (λ held. true ≡ accepts (of_dataset other) g frame held) (ap value_data is ∙ value_data-List items) (sym passes ∙ e)))
    ∙ ap (λ held. emit_accepted (of_dataset other) (embed (of_dataset other) room) g path frame held state) (sym (ap value_data is ∙ value_data-List items)))

-- ---- a list

pub no_list_left :
    {T : Type 0} {dataset : List Quad} {told : Option (List Question)} {steps : ℕ} {reversed : List (List ℕ)} {Is : Term → Type 0}
    (f : T → Option TreeEntry) (room : ℕ) (g : GraphRef) (path : List Place) (frame : Nested) (items : List ListValue) (state after : State) (e : Stop) →
    (e ≡ stop.Over TreeItems) × (item state ≡ over TreeItems) →
    Embeds dataset told told steps steps reversed Is (λ views. emit_list views (embed views room) g path frame items state) (run_of f (Err e) after)
no_list_left {dataset = dataset} {told = told} {steps = steps} {reversed = reversed} {Is = Is} f room g path frame items state after e full =
    subst
    (λ s. Embeds dataset told told steps steps reversed Is (λ views. emit_list views (embed views room) g path frame items state) (run_of f (Err s) after))
    (sym full.0)
    (silent (λ views. emit_list views (embed views room) g path frame items state) (over TreeItems)
    (λ views.
    ap
    (λ r.
    then r
    (λ counted before_items.
    then (emit_all views (embed views room) g path (item_frame frame) [] (values_of items) before_items)
    (λ entries last_state. gives (Some (list_entry (entries_of entries))) last_state))) (sym full.1)))

items_of :
    (views : Views) (room : ℕ) (g : GraphRef) (path later_path : List Place) (frame sub : Nested) (items lent : List Value) (state counted : State) →
    item state ≡ gives tt counted → later_path ≡ path → sub ≡ item_frame frame → lent ≡ items →
    then (emit_all views (embed views room) g later_path sub [] (values_of (map value_data lent)) counted)
    (λ entries last_state. gives (Some (list_entry (entries_of entries))) last_state)
    ≡ emit_list views (embed views room) g path frame (map value_data items) state
items_of views room g path later_path frame sub items lent state counted count steps same lends =
    ap (λ p. then (emit_all views (embed views room) g p sub [] (values_of (map value_data lent)) counted) (λ entries last_state. gives (Some (list_entry (entries_of entries))) last_state)) steps
    ∙ ap (λ s. then (emit_all views (embed views room) g path s [] (values_of (map value_data lent)) counted) (λ entries last_state. gives (Some (list_entry (entries_of entries))) last_state)) same
    ∙ ap (λ vs. then (emit_all views (embed views room) g path (item_frame frame) [] (values_of (map value_data vs)) counted) (λ entries last_state. gives (Some (list_entry (entries_of entries))) last_state)) lends
    ∙ ap
    (λ r.
    then r
    (λ one before_items.
    then (emit_all views (embed views room) g path (item_frame frame) [] (values_of (map value_data items)) before_items)
    (λ entries last_state. gives (Some (list_entry (entries_of entries))) last_state))) (sym count)

list_wide :
    (dataset : List Quad) (frame sub : Nested) (g : GraphRef) (items lent : List Value) → sub ≡ item_frame frame → lent ≡ items → (question : Question) →
    IsNearBy dataset (reversed_in sub) (IsOfValues g (map value_data lent)) question → IsNearBy dataset (reversed_in frame) (IsOfValues g (map value_data items)) question
list_wide dataset frame sub g items lent same lends =
    same_by dataset (reversed_in sub) (reversed_in frame) (IsOfValues g (map value_data lent)) (IsOfValues g (map value_data items))
    (subst (λ s. AreAmong (reversed_in s) (reversed_in frame)) (sym same) (item_among frame))
    (λ x here. subst (λ vs. IsOfValues g (map value_data vs) x) lends here)

pub list_over :
    {T U : Type 0} {dataset : List Quad} {before after : Option (List Question)} {first last : ℕ} (f : T → List TreeEntry) (h : U → Option TreeEntry)
    (room : ℕ) (g : GraphRef) (path later_path : List Place) (frame sub : Nested) (items lent : List Value) (state counted one two : State) (e : Stop) →
    item state ≡ gives tt counted → later_path ≡ path → sub ≡ item_frame frame → lent ≡ items →
    Embeds dataset before after first last (reversed_in sub) (IsOfValues g (map value_data lent)) (λ views. emit_all views (embed views room) g later_path sub [] (values_of (map value_data lent)) counted) (run_of f (Err e) one) →
    Embeds dataset before after first last (reversed_in frame) (IsOfValues g (map value_data items)) (λ views. emit_list views (embed views room) g path frame (map value_data items) state) (run_of h (Err e) two)
list_over {dataset = dataset} f h room g path later_path frame sub items lent state counted one two e count steps same lends gained =
    stopped f h (λ views. emit_all views (embed views room) g later_path sub [] (values_of (map value_data lent)) counted)
    (λ views. emit_list views (embed views room) g path frame (map value_data items) state) e one two gained (list_wide dataset frame sub g items lent same lends)
    (λ views limit k.
    ap (λ r. then r (λ entries last_state. gives (Some (list_entry (entries_of entries))) last_state)) k
    ∙ items_of views room g path later_path frame sub items lent state counted count steps same lends)

pub list_made :
    {dataset : List Quad} {before after : Option (List Question)} {first last : ℕ} (room : ℕ) (g : GraphRef) (path later_path : List Place)
    (frame sub : Nested) (items lent : List Value) (state counted final : State) (entries : List TreeEntry) (made : Option TreeEntry) →
    item state ≡ gives tt counted → later_path ≡ path → sub ≡ item_frame frame → lent ≡ items → made ≡ Some (list_entry (entries_of entries)) →
    Embeds dataset before after first last (reversed_in sub) (IsOfValues g (map value_data lent)) (λ views. emit_all views (embed views room) g later_path sub [] (values_of (map value_data lent)) counted) (Some (gives entries final)) →
    Embeds dataset before after first last (reversed_in frame) (IsOfValues g (map value_data items)) (λ views. emit_list views (embed views room) g path frame (map value_data items) state) (Some (gives made final))
list_made {dataset = dataset} room g path later_path frame sub items lent state counted final entries made count steps same lends is gained =
    taken_on (λ views. emit_all views (embed views room) g later_path sub [] (values_of (map value_data lent)) counted)
    (λ views. emit_list views (embed views room) g path frame (map value_data items) state) (gives entries final) (gives made final) gained
    (list_wide dataset frame sub g items lent same lends)
    (λ views k.
    ap (λ m. gives m final) is
    ∙ ap (λ r. then r (λ all last_state. gives (Some (list_entry (entries_of all))) last_state)) k
    ∙ items_of views room g path later_path frame sub items lent state counted count steps same lends)

-- ---- a reference

pub reference_left :
    {dataset : List Quad} {told : Option (List Question)} {steps : ℕ} {reversed : List (List ℕ)} {Is : Term → Type 0} (room : ℕ) (g : GraphRef)
    (path : List Place) (frame : Nested) (id : Term) (state : State) (taken : ReferenceRule) → taken ≡ rule.Never →
    ((views : Views) (graph : GraphRef) (x : Term) → accepts views graph frame (reference x) ≡ taken_by taken (matches views graph frame x)) →
    Embeds dataset told told steps steps reversed Is (λ views. emit_accepted views (embed views room) g path frame (reference id) state) (Some (gives None state))
reference_left room g path frame id state taken is tells =
    silent (λ views. emit_accepted views (embed views room) g path frame (reference id) state) (gives None state)
    (λ views.
    ap (λ b. perhaps b (emit views (embed views room) g path frame (reference id)) state)
    (sym (tells views g id ∙ ap (λ t. taken_by t (matches views g frame id)) is)))

pub reference_over :
    {T U : Type 0} {dataset : List Quad} {before after : Option (List Question)} {first last : ℕ} (f : T → TreeNode) (h : U → Option TreeEntry)
    (room : ℕ) (g : GraphRef) (path : List Place) (frame : Nested) (id : Term) (state one two : State) (taken : ReferenceRule) (e : Stop) →
    taken ≡ rule.Always →
    ((views : Views) (graph : GraphRef) (x : Term) → accepts views graph frame (reference x) ≡ taken_by taken (matches views graph frame x)) →
    Embeds dataset before after first last (reversed_in frame) (IsOfNode g id) (λ views. embed views room g id frame false path state) (run_of f (Err e) one) →
    Embeds dataset before after first last (reversed_in frame) (IsOfNode g id) (λ views. emit_accepted views (embed views room) g path frame (reference id) state) (run_of h (Err e) two)
reference_over f h room g path frame id state one two taken e is tells gained =
    stopped f h (λ views. embed views room g id frame false path state) (λ views. emit_accepted views (embed views room) g path frame (reference id) state)
    e one two gained (λ question near. near)
    (λ views limit same.
    ap (λ r. then (then r (λ made later. gives (node_entry made) later)) (λ made later. gives (Some made) later)) same
    ∙ reference_emitted views (embed views room) g path frame id state true (tells views g id ∙ ap (λ t. taken_by t (matches views g frame id)) is))

pub reference_made :
    {dataset : List Quad} {before after : Option (List Question)} {first last : ℕ} (room : ℕ) (g : GraphRef) (path : List Place) (frame : Nested)
    (id : Term) (state final : State) (taken : ReferenceRule) (made : TreeNode) (entry : Option TreeEntry) → taken ≡ rule.Always →
    ((views : Views) (graph : GraphRef) (x : Term) → accepts views graph frame (reference x) ≡ taken_by taken (matches views graph frame x)) →
    entry ≡ Some (node_entry made) →
    Embeds dataset before after first last (reversed_in frame) (IsOfNode g id) (λ views. embed views room g id frame false path state) (Some (gives made final)) →
    Embeds dataset before after first last (reversed_in frame) (IsOfNode g id) (λ views. emit_accepted views (embed views room) g path frame (reference id) state) (Some (gives entry final))
reference_made room g path frame id state final taken made entry is tells same gained =
    taken_on (λ views. embed views room g id frame false path state) (λ views. emit_accepted views (embed views room) g path frame (reference id) state)
    (gives made final) (gives entry final) gained (λ question near. near)
    (λ views k.
    ap (λ m. gives m final) same
    ∙ ap (λ r. then (then r (λ one later. gives (node_entry one) later)) (λ one later. gives (Some one) later)) k
    ∙ reference_emitted views (embed views room) g path frame id state true (tells views g id ∙ ap (λ t. taken_by t (matches views g frame id)) is))

perhaps_mapped :
    {A B : Type 0} (f : A → B) (test : Bool) (made : State → Result A) (state : State) →
    then (perhaps test made state) (λ one after. gives (option_map f one) after)
    ≡ perhaps test (λ before. then (made before) (λ one after. gives (f one) after)) state
perhaps_mapped {A} {B} f true made state = go (made state)
  where
    go : (r : Result A) →
        then (then r (λ one after. gives (Some one) after)) (λ one after. gives (option_map f one) after)
        ≡ then (then r (λ one after. gives (f one) after)) (λ one after. gives (Some one) after)
    go (gives one after) = refl
    go (over limit) = refl
perhaps_mapped f false made state = refl

match_emitted :
    (views : Views) (room : ℕ) (g : GraphRef) (path : List Place) (frame : Nested) (id : Term) (state : State) (taken : ReferenceRule) →
    taken ≡ rule.Matching →
    ((one : Views) (graph : GraphRef) (x : Term) → accepts one graph frame (reference x) ≡ taken_by taken (matches one graph frame x)) →
    then (matched views (embed views room) g frame false path id state) (λ one after. gives (option_map node_entry one) after)
    ≡ emit_accepted views (embed views room) g path frame (reference id) state
match_emitted views room g path frame id state taken is tells =
    perhaps_mapped node_entry (matches views g frame id) (embed views room g id frame false path) state
    ∙ reference_emitted views (embed views room) g path frame id state (matches views g frame id)
    (tells views g id ∙ ap (λ t. taken_by t (matches views g frame id)) is)

pub match_reference_over :
    {T U : Type 0} {dataset : List Quad} {before after : Option (List Question)} {first last : ℕ} (f : T → Option TreeNode) (h : U → Option TreeEntry)
    (room : ℕ) (g : GraphRef) (path : List Place) (frame : Nested) (id : Term) (state one two : State) (taken : ReferenceRule) (e : Stop) →
    taken ≡ rule.Matching →
    ((views : Views) (graph : GraphRef) (x : Term) → accepts views graph frame (reference x) ≡ taken_by taken (matches views graph frame x)) →
    Embeds dataset before after first last (reversed_in frame) (IsOfNode g id) (λ views. matched views (embed views room) g frame false path id state) (run_of f (Err e) one) →
    Embeds dataset before after first last (reversed_in frame) (IsOfNode g id) (λ views. emit_accepted views (embed views room) g path frame (reference id) state) (run_of h (Err e) two)
match_reference_over f h room g path frame id state one two taken e is tells gained =
    stopped f h (λ views. matched views (embed views room) g frame false path id state) (λ views. emit_accepted views (embed views room) g path frame (reference id) state)
    e one two gained (λ question near. near)
    (λ views limit same.
    ap (λ r. then r (λ made later. gives (option_map node_entry made) later)) same
    ∙ match_emitted views room g path frame id state taken is tells)

pub match_reference_made :
    {dataset : List Quad} {before after : Option (List Question)} {first last : ℕ} (room : ℕ) (g : GraphRef) (path : List Place) (frame : Nested)
    (id : Term) (state final : State) (taken : ReferenceRule) (made : Option TreeNode) (entry : Option TreeEntry) → taken ≡ rule.Matching →
    ((views : Views) (graph : GraphRef) (x : Term) → accepts views graph frame (reference x) ≡ taken_by taken (matches views graph frame x)) →
    entry ≡ option_map node_entry made →
    Embeds dataset before after first last (reversed_in frame) (IsOfNode g id) (λ views. matched views (embed views room) g frame false path id state) (Some (gives made final)) →
    Embeds dataset before after first last (reversed_in frame) (IsOfNode g id) (λ views. emit_accepted views (embed views room) g path frame (reference id) state) (Some (gives entry final))
match_reference_made room g path frame id state final taken made entry is tells same gained =
    taken_on (λ views. matched views (embed views room) g frame false path id state) (λ views. emit_accepted views (embed views room) g path frame (reference id) state)
    (gives made final) (gives entry final) gained (λ question near. near)
    (λ views k.
    ap (λ m. gives m final) same
    ∙ ap (λ r. then r (λ one later. gives (option_map node_entry one) later)) k
    ∙ match_emitted views room g path frame id state taken is tells)

-- ---- reverse properties

pub no_reverse :
    {dataset : List Quad} {told : Option (List Question)} {steps : ℕ} {reversed : List (List ℕ)} {Is : Term → Type 0} (room : ℕ) (g : GraphRef)
    (id : Term) (frame : Nested) (path : List Place) (state : State) → reverse_props_of frame ≡ no_reverses →
    Embeds dataset told told steps steps reversed Is (λ views. reverse_part views (embed views room) g id frame path state) (Some (gives [] state))
no_reverse room g id frame path state none =
    silent (λ views. reverse_part views (embed views room) g id frame path state) (gives [] state)
    (λ views.
    ap (λ rs. through (reverse_next views (embed views room) g id path) [] (reverses_list rs) state) (sym none))

pub row_reverses :
    {dataset : List Quad} {before after : Option (List Question)} {first last : ℕ} (room : ℕ) (g : GraphRef) (id : Term) (rows : List FrameNode)
    (f : Form) (at : ℕ) (row : FrameNode) (path : List Place) (state : State) (made : Option (Result (List (List ℕ × TreeNodes)))) →
    f ≡ form.Row at → Some row ≡ slice_get rows at →
    Embeds dataset before after first last (in_reverses (build_reverses (above at (nested rows)) row.reverse)) (IsOfNode g id)
    (λ views. reverses_part views (embed views room) g id path (above at (nested rows)) row.reverse state) made →
    Embeds dataset before after first last (reversed_in (form_of rows f)) (IsOfNode g id) (λ views. reverse_part views (embed views room) g id (form_of rows f) path state) made
row_reverses {dataset = dataset} room g id rows f at row path state made is found gained =
    passed (λ views. reverses_part views (embed views room) g id path (above at (nested rows)) row.reverse state)
    (λ views. reverse_part views (embed views room) g id (form_of rows f) path state) made gained
    (same_by dataset (in_reverses (build_reverses (above at (nested rows)) row.reverse)) (reversed_in (form_of rows f)) (IsOfNode g id) (IsOfNode g id)
    (subst (λ rs. AreAmong (in_reverses rs) (reversed_in (form_of rows f))) same (reverses_among (form_of rows f))) (λ x here. here))
    (λ views.
    reverses_embedded views (embed views room) g id path (above at (nested rows)) row.reverse state
    ∙ ap (λ rs. through (reverse_next views (embed views room) g id path) [] (reverses_list rs) state) (sym same))
  where
    same : reverse_props_of (form_of rows f) ≡ build_reverses (above at (nested rows)) row.reverse
    same = ap (λ h. reverse_props_of (form_of rows h)) is ∙ ap reverse_props_of (with_row rows at row found)

pub arrivals :
    {dataset later : List Quad} {before middle after : Option (List Question)} {first second last : ℕ} (room : ℕ) (g : GraphRef) (id : Term)
    (property copied : List ℕ) (frame sub : Nested) (path : List Place) (state : State) (found : List Term) (made : Option (Result (List TreeNode))) →
    copied ≡ property → sub ≡ frame →
    Learns (IsNearOne dataset (IsPointing dataset g (Iri copied) id)) dataset before middle first second (λ d. pointing_at d g (Iri copied) id) found →
    later ≡ dataset →
    Embeds later middle after second last (reversed_in sub) (IsOfKeys g found) (λ views. keys_part views (embed views room) g sub false path found state) made →
    Embeds dataset before after first last (property ∷ reversed_in frame) (IsOfNode g id) (λ views. arriving_part views (embed views room) g id path (property, frame) state) made
arrivals {dataset = dataset} {before = before} {after = after} {first = first} {last = last} room g id property copied frame sub path state found made same is one stays two =
    subst
    (λ p.
    Embeds dataset before after first last (p ∷ reversed_in frame) (IsOfNode g id) (λ views. arriving_part views (embed views room) g id path (p, frame) state) made) same
    (subst
    (λ s.
    Embeds dataset before after first last (copied ∷ reversed_in s) (IsOfNode g id) (λ views. arriving_part views (embed views room) g id path (copied, s) state) made) is
    (after_one (λ views. keys_part views (embed views room) g sub false path found state)
    (λ views. arriving_part views (embed views room) g id path (copied, sub) state) made one stays two
    (λ e.
    wide_from dataset [] (copied ∷ reversed_in sub) (IsPointing dataset g (Iri copied) id) (IsOfNode g id) (none_among (copied ∷ reversed_in sub))
    (λ iris x here. of_subject x here))
    (λ e.
    wide_by dataset (reversed_in sub) (copied ∷ reversed_in sub) (IsOfKeys g found) (IsOfNode g id) (behind_among copied (reversed_in sub))
    (λ iris x here. of_key iris e x here))
    (λ other e. ap (λ ks. keys_part (of_dataset other) (embed (of_dataset other) room) g sub false path ks state) e)))
  where
    of_subject : (x : Term) → IsPointing dataset g (Iri copied) id x → (y : Term) × (IsOfNode g id y × Near dataset (copied ∷ reversed_in sub) y x)
    of_subject x (inl here) = (x, (here, itself))
    of_subject x (inr subject) =
        (id, (inl refl, subject_is_near dataset (copied ∷ reversed_in sub) g copied id x (told_first copied (reversed_in sub)) subject))

    of_key : IsTrue (has_iri_predicates dataset) → found ≡ pointing dataset g copied id → (x : Term) → IsOfKeys g found x → (y : Term) × (IsOfNode g id y × Near dataset (copied ∷ reversed_in sub) y x)
    of_key iris e x (inl key) =
        (id, (inl refl, pointing_is_near dataset (copied ∷ reversed_in sub) g copied id x (told_first copied (reversed_in sub)) iris (subst (λ ks. list_any (term_eq x) ks ≡ true) e key)))
    of_key iris e x (inr names) = (x, (inr names, itself))
