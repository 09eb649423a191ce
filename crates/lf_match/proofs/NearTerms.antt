-- Nearness widened: to more `@reverse` properties, and from a near term to the term that it is near.
use Rattle.std.proofs.Common.{◌≡◌, ℕ, zero, suc, ◌<◌, Bool, true, false, cond, ◌⊎◌, inl, inr, List, [], ◌∷◌, ◌++◌, map, length, get_or, sym, subst, arith}
use Rattle.std.specs.Bool.{IsTrue}
use Rattle.std.specs.List.{list_any}
use Rattle.std.proofs.lemmas.Bool.{or_left, or_right}
use Rattle.std.proofs.lemmas.List.Folds.{list_any-append}
use Rattle.lf_rdf.specs.declared.term.Term.{Term}
use Rattle.lf_rdf.specs.declared.quad.Quad.{Quad}
use Rattle.lf_rdf.specs.declared.question.GraphRef.{GraphRef}
use Rattle.lf_rdf.specs.declared.question.GraphRef.TheVariants as graph
use Rattle.lf_rdf.specs.declared.question.Question.{Question}
use Rattle.lf_rdf.specs.declared.question.Question.TheVariants as ask
use Rattle.lf_rdf.specs.Equality.{text_eq}
use Rattle.lf_model.specs.declared.frame.FrameNode.{FrameNode}
use Rattle.lf_model.specs.declared.frame.FrameProp.{FrameProp}
use Rattle.lf_model.specs.declared.value.Value.{Value}
use Rattle.lf_model.specs.ValueBridge.{value_data}
use Rattle.lf_model.specs.ValueData.{values_of}
use Rattle.lf_oracle.specs.Nearby.{NamesGraph}
use Rattle.def_nested.specs.Unfolding.{Numbered, build, build_kind, build_props, build_reverses, build_within, sub_frame}
use Rattle.def_datasets.specs.Near.{Near, NearQuestion, itself, by_object, by_use, by_reverse, in_graph, in_graph_object}
use Rattle.def_datasets.specs.Views.{ViewProperty}
use Rattle.def_datasets.proofs.NearProofs.{near_of_near}
use Rattle.def_framing.specs.Nearness.{in_kind, in_props, in_reverses, in_within, reversed_in}
use Rattle.def_framing.specs.Views.{values_at}
use Rattle.lf_match.specs.NearNodes.{AnyRefers, IsNearOneBy, IsOfValues, PropertiesRefer, Refers}

-- each test that one of these properties passes, one of those passes
abbrev pub AreAmong : List (List ℕ) → List (List ℕ) → Type 0
AreAmong few many = (p : List ℕ → Bool) → IsTrue (list_any p few) → IsTrue (list_any p many)

pub themselves : (few : List (List ℕ)) → AreAmong few few
themselves few p any = any

pub none_among : (many : List (List ℕ)) → AreAmong [] many
none_among many p any = absurd cc

pub among_left : (few more : List (List ℕ)) → AreAmong few (few ++ more)
among_left few more p any = rw list_any-append (or_left (list_any p few) (list_any p more) any)

pub among_right : (few more : List (List ℕ)) → AreAmong few (more ++ few)
among_right few more p any = rw list_any-append (or_right (list_any p more) (list_any p few) any)

pub among_then : (few many most : List (List ℕ)) → AreAmong few many → AreAmong many most → AreAmong few most
among_then few many most one two p any = two p (one p any)

near_wide :
    (dataset : List Quad) (few many : List (List ℕ)) (x : Term) → AreAmong few many →
    (t : Term) → Near dataset few x t → Near dataset many x t
near_wide dataset few many x more t itself = itself
near_wide dataset few many x more t (by_object q there near) = by_object q there (near_wide dataset few many x more q.subject near)
near_wide dataset few many x more t (by_use s q blank alone near) = by_use s q blank alone (near_wide dataset few many x more s near)
near_wide dataset few many x more t (by_reverse q there told near) =
    by_reverse q there (more _ told) (near_wide dataset few many x more q.object near)
near_wide dataset few many x more t (in_graph name q there label near node) =
    in_graph name q there label (near_wide dataset few many x more name near) node
near_wide dataset few many x more t (in_graph_object name q there label near node) =
    in_graph_object name q there label (near_wide dataset few many x more name near) node

-- a question stays near where its term does
carried :
    (dataset : List Quad) (few many : List (List ℕ)) (x y : Term) → ((t : Term) → Near dataset few x t → Near dataset many y t) →
    (question : Question) → NearQuestion dataset few x question → NearQuestion dataset many y question
carried dataset few many x y more (ask.Out g subject) near = more subject near
carried dataset few many x y more (ask.OutAny subject) near = more subject near
carried dataset few many x y more (ask.Inward g predicate object) near = more object near
carried dataset few many x y more (ask.InwardAny predicate object) near = more object near
carried dataset few many x y more (ask.Uses object) near = more object near
carried dataset few many x y more (ask.Named name) near = more name near
carried dataset few many x y more (ask.Members graph.Default) near = near
carried dataset few many x y more (ask.Members (graph.Named name)) near = more name near
carried dataset few many x y more (ask.Members graph.Merged) near = near

-- a question near one of these terms is near one of those, where each of these is near one of those
pub wide_one :
    (dataset : List Quad) (few many : List (List ℕ)) (These Those : Term → Type 0) → AreAmong few many →
    ((x : Term) → These x → (y : Term) × (Those y × Near dataset many y x)) →
    (question : Question) → IsNearOneBy dataset few These question → IsNearOneBy dataset many Those question
wide_one dataset few many These Those more to question (x, (here, near)) =
    let reached : (y : Term) × (Those y × Near dataset many y x) = to x here in (
      reached.0,
      (
        reached.1.0,
        carried dataset few many x reached.0
            (λ t step. near_of_near dataset many reached.0 x t reached.1.1 (near_wide dataset few many x more t step)) question near,
      ),
    )

-- the same where each of these is one of those
pub wide_same :
    (dataset : List Quad) (few many : List (List ℕ)) (These Those : Term → Type 0) → AreAmong few many →
    ((x : Term) → These x → Those x) →
    (question : Question) → IsNearOneBy dataset few These question → IsNearOneBy dataset many Those question
wide_same dataset few many These Those more to = wide_one dataset few many These Those more (λ x here. (x, (to x here, itself)))

-- ---- the parts of a frame

pub prop_among :
    (sub : Numbered) (props : List FrameProp) (i : ℕ) (d : FrameProp) → i < length props →
    AreAmong (reversed_in (sub_frame sub (get_or props i d).frame)) (in_props (build_props sub props))
prop_among sub [] i d inside = absurd (omega arith)
prop_among sub (first ∷ rest) zero d inside =
    among_left (reversed_in (sub_frame sub first.frame)) (in_props (build_props sub rest))
prop_among sub (first ∷ rest) (suc i) d inside =
    among_then _ (in_props (build_props sub rest)) _ (prop_among sub rest i d (omega arith))
    (among_right (in_props (build_props sub rest)) (reversed_in (sub_frame sub first.frame)))

pub this_prop_among :
    (sub : Numbered) (props : List FrameProp) (i : ℕ) (p : FrameProp) → i < length props → p ≡ get_or props i p →
    AreAmong (reversed_in (sub_frame sub p.frame)) (in_props (build_props sub props))
this_prop_among sub props i p inside at =
    subst (λ q. AreAmong (reversed_in (sub_frame sub q.frame)) (in_props (build_props sub props))) (sym at) (prop_among sub props i p inside)

pub props_among : (sub : Numbered) (row : FrameNode) → AreAmong (in_props (build_props sub row.props)) (reversed_in (build sub row))
props_among sub row =
    let props = in_props (build_props sub row.props) in
    let back = in_reverses (build_reverses sub row.reverse) in
    let inner = in_within (build_within sub row.graph) in
    let kind = in_kind (build_kind sub row.kind) in
    among_then props (props ++ back) (props ++ back ++ inner ++ kind) (among_left props back)
    (among_then (props ++ back) (props ++ back ++ inner) (props ++ back ++ inner ++ kind) (among_left (props ++ back) inner)
    (among_left (props ++ back ++ inner) kind))

pub kind_among : (sub : Numbered) (row : FrameNode) → AreAmong (in_kind (build_kind sub row.kind)) (reversed_in (build sub row))
kind_among sub row =
    among_right (in_kind (build_kind sub row.kind))
    (in_props (build_props sub row.props) ++ in_reverses (build_reverses sub row.reverse) ++ in_within (build_within sub row.graph))

-- ---- the values of a view

pub value_refers :
    (values : List Value) (i : ℕ) (d : Value) (x : Term) → i < length values →
    Refers (value_data (get_or values i d)) x → AnyRefers (values_of (map value_data values)) x
value_refers [] i d x inside refers = absurd (omega arith)
value_refers (first ∷ rest) zero d x inside refers = inl refers
value_refers (first ∷ rest) (suc i) d x inside refers = inr (value_refers rest i d x (omega arith) refers)

pub this_value_refers :
    (values : List Value) (i : ℕ) (held : Value) (g : GraphRef) (x : Term) → i < length values → held ≡ get_or values i held →
    Refers (value_data held) x ⊎ NamesGraph g x → IsOfValues g (map value_data values) x
this_value_refers values i held g x inside at (inl refers) =
    inl (value_refers values i held x inside (subst (λ v. Refers (value_data v) x) at refers))
this_value_refers values i held g x inside at (inr names) = inr names

pub property_refers :
    (property : List ℕ) (props : List ViewProperty) (x : Term) → AnyRefers (values_of (values_at property props)) x →
    PropertiesRefer props x
property_refers property [] x refers = absurd refers
property_refers property (entry ∷ rest) x refers =
    here (text_eq entry.property property) (property_refers property rest x) refers
  where
    here : (same : Bool) → (AnyRefers (values_of (values_at property rest)) x → PropertiesRefer rest x) → AnyRefers (values_of (cond same entry.values (values_at property rest))) x → PropertiesRefer (entry ∷ rest) x
    here true later refers = inl refers
    here false later refers = inr (later refers)
