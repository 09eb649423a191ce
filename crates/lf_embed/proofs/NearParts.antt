-- Nearness for the parts of a frame that embedding hands on.
use Rattle.std.proofs.Common.{◌≡◌, inl, inr, ℕ, ◌<◌, zero, suc, Bool, true, false, cond, List, [], ◌∷◌, ◌++◌, map, length, get_or, Option, Some, None, unwrap_or, refl, sym, subst, ◌∙◌, arith}
use Rattle.std.specs.Bool.{IsTrue}
use Rattle.std.specs.List.{list_any}
use Rattle.std.proofs.lemmas.Bool.{or_left, or_right}
use Rattle.lf_rdf.specs.declared.term.Term.{Term}
use Rattle.lf_rdf.specs.declared.quad.Quad.{Quad}
use Rattle.lf_rdf.specs.declared.question.GraphRef.{GraphRef}
use Rattle.lf_rdf.specs.declared.question.Question.{Question}
use Rattle.lf_rdf.specs.Equality.{term_eq, text_eq}
use Rattle.lf_model.specs.declared.frame.FrameReverse.{FrameReverse}
use Rattle.lf_model.specs.declared.value.Prop.{Prop}
use Rattle.lf_model.specs.ValueBridge.{value_data}
use Rattle.lf_model.specs.ValueData.{values_of}
use Rattle.lf_oracle.specs.Nearby.{IsOfNode}
use Rattle.lf_match.specs.NearNodes.{AnyRefers, IsNearOneBy, IsOfValues, IsOfView, PropertiesRefer}
use Rattle.lf_match.proofs.NearTerms.{AreAmong, among_left, among_right, among_then, none_among, themselves, wide_one}
use Rattle.lf_match.proofs.ViewRefs.{view_refs_near}
use Rattle.def_datasets.proofs.OrderLaws.{term_decides}
use Rattle.def_datasets.specs.Near.{Near, itself}
use Rattle.def_datasets.specs.Views.{View, view_of}
use Rattle.def_nested.specs.Nested.{Flags, Nested, Props, Reverses, Within, Kind, match_none, frame_map, no_props, prop, no_graph, in_graph, wild, node_frame, value_pattern, list_pattern, list_pattern_of, props_list, reverse_props_of, within_of}
use Rattle.def_nested.specs.Unfolding.{Numbered, build_reverses}
use Rattle.def_framing.specs.Nearness.{in_kind, in_props, in_reverses, in_within, reversed_in}
use Rattle.def_framing.specs.Steps.{graph_frame, inherited, item_frame, seen, sub_at, sub_for}
use Rattle.lf_embed.specs.Cycle.{view_property}
use Rattle.lf_embed.specs.Embeds.{IsNearBy, IsOfKeys, IsOfNodeOrView, IsOfProps, has_iri_predicates}

-- what is near these terms is near those that they are near
pub wide_by :
    (dataset : List Quad) (few many : List (List ℕ)) (These Those : Term → Type 0) → AreAmong few many →
    (IsTrue (has_iri_predicates dataset) → (x : Term) → These x → (y : Term) × (Those y × Near dataset many y x)) →
    (question : Question) → IsNearBy dataset few These question → IsNearBy dataset many Those question
wide_by dataset few many These Those more to question near iris = wide_one dataset few many These Those more (to iris) question (near iris)

-- the same where these terms are those
pub same_by :
    (dataset : List Quad) (few many : List (List ℕ)) (These Those : Term → Type 0) → AreAmong few many → ((x : Term) → These x → Those x) →
    (question : Question) → IsNearBy dataset few These question → IsNearBy dataset many Those question
same_by dataset few many These Those more to = wide_by dataset few many These Those more (λ iris x here. (x, (to x here, itself)))

-- the same of the questions of another crate
pub wide_from :
    (dataset : List Quad) (few many : List (List ℕ)) (These Those : Term → Type 0) → AreAmong few many →
    (IsTrue (has_iri_predicates dataset) → (x : Term) → These x → (y : Term) × (Those y × Near dataset many y x)) →
    (question : Question) → IsNearOneBy dataset few These question → IsNearBy dataset many Those question
wide_from dataset few many These Those more to question near = wide_by dataset few many These Those more to question (λ iris. near)

pub same_from :
    (dataset : List Quad) (few many : List (List ℕ)) (These Those : Term → Type 0) → AreAmong few many → ((x : Term) → These x → Those x) →
    (question : Question) → IsNearOneBy dataset few These question → IsNearBy dataset many Those question
same_from dataset few many These Those more to = wide_from dataset few many These Those more (λ iris x here. (x, (to x here, itself)))

-- ---- the parts of a frame

module _ (flags : Flags) (props : Props) (reverses : Reverses) (within : Within) (kind : Kind) where
  abbrev whole : List (List ℕ)
  whole = reversed_in (frame_map flags props reverses within kind)

  props_in : AreAmong (in_props props) whole
  props_in =
      among_then (in_props props) (in_props props ++ in_reverses reverses) whole (among_left (in_props props) (in_reverses reverses))
      (among_then (in_props props ++ in_reverses reverses) (in_props props ++ in_reverses reverses ++ in_within within) whole
      (among_left (in_props props ++ in_reverses reverses) (in_within within))
      (among_left (in_props props ++ in_reverses reverses ++ in_within within) (in_kind kind)))

  reverses_in : AreAmong (in_reverses reverses) whole
  reverses_in =
      among_then (in_reverses reverses) (in_props props ++ in_reverses reverses) whole (among_right (in_reverses reverses) (in_props props))
      (among_then (in_props props ++ in_reverses reverses) (in_props props ++ in_reverses reverses ++ in_within within) whole
      (among_left (in_props props ++ in_reverses reverses) (in_within within))
      (among_left (in_props props ++ in_reverses reverses ++ in_within within) (in_kind kind)))

  within_in : AreAmong (in_within within) whole
  within_in =
      among_then (in_within within) (in_props props ++ in_reverses reverses ++ in_within within) whole
      (among_right (in_within within) (in_props props ++ in_reverses reverses))
      (among_left (in_props props ++ in_reverses reverses ++ in_within within) (in_kind kind))

  kind_in : AreAmong (in_kind kind) whole
  kind_in = among_right (in_kind kind) (in_props props ++ in_reverses reverses ++ in_within within)

pub graph_among : (frame : Nested) → AreAmong (reversed_in (graph_frame (within_of frame))) (reversed_in frame)
graph_among match_none = none_among []
graph_among (frame_map flags props reverses no_graph kind) = none_among (reversed_in (frame_map flags props reverses no_graph kind))
graph_among (frame_map flags props reverses (in_graph sub) kind) = within_in flags props reverses (in_graph sub) kind

pub reverses_among : (frame : Nested) → AreAmong (in_reverses (reverse_props_of frame)) (reversed_in frame)
reverses_among match_none = none_among []
reverses_among (frame_map flags props reverses within kind) = reverses_in flags props reverses within kind

pub item_among : (frame : Nested) → AreAmong (reversed_in (item_frame frame)) (reversed_in frame)
item_among match_none = none_among []
item_among (frame_map flags props reverses within wild) = themselves (reversed_in (frame_map flags props reverses within wild))
item_among (frame_map flags props reverses within node_frame) = themselves (reversed_in (frame_map flags props reverses within node_frame))
item_among (frame_map flags props reverses within (value_pattern pattern)) = themselves (reversed_in (frame_map flags props reverses within (value_pattern pattern)))
item_among (frame_map flags props reverses within list_pattern) = none_among (reversed_in (frame_map flags props reverses within list_pattern))
item_among (frame_map flags props reverses within (list_pattern_of item)) = kind_in flags props reverses within (list_pattern_of item)

sub_in :
    (own : Flags) (property : List ℕ) (props : Props) →
    AreAmong (reversed_in (unwrap_or (sub_at property (props_list props)) (inherited own))) (in_props props)
sub_in own property no_props = none_among []
sub_in own property (prop name sub rest) = go (text_eq name property) (sub_in own property rest)
  where
    go : (same : Bool) → AreAmong (reversed_in (unwrap_or (sub_at property (props_list rest)) (inherited own))) (in_props rest) →
        AreAmong (reversed_in (unwrap_or (cond same (Some sub) (sub_at property (props_list rest))) (inherited own))) (in_props (prop name sub rest))
    go true later = among_left (reversed_in sub) (in_props rest)
    go false later =
        among_then _ (in_props rest) (in_props (prop name sub rest)) later (among_right (in_props rest) (reversed_in sub))

pub sub_among : (frame : Nested) (property : List ℕ) → AreAmong (reversed_in (sub_for frame property)) (reversed_in frame)
sub_among match_none property = none_among []
sub_among (frame_map flags props reverses within kind) property =
    among_then (reversed_in (sub_for (frame_map flags props reverses within kind) property)) (in_props props)
    (reversed_in (frame_map flags props reverses within kind)) (sub_in flags property props) (props_in flags props reverses within kind)

-- one reverse property of a map
reverse_among :
    (sub : Numbered) (props : List FrameReverse) (i : ℕ) (d : FrameReverse) → i < length props →
    AreAmong ((get_or props i d).property ∷ reversed_in (sub (get_or props i d).frame)) (in_reverses (build_reverses sub props))
reverse_among sub [] i d inside = absurd (omega arith)
reverse_among sub (first ∷ rest) zero d inside = among_left (first.property ∷ reversed_in (sub first.frame)) (in_reverses (build_reverses sub rest))
reverse_among sub (first ∷ rest) (suc i) d inside =
    among_then ((get_or rest i d).property ∷ reversed_in (sub (get_or rest i d).frame)) (in_reverses (build_reverses sub rest)) (in_reverses (build_reverses sub (first ∷ rest))) (reverse_among sub rest i d (omega arith))
    (among_right (in_reverses (build_reverses sub rest)) (first.property ∷ reversed_in (sub first.frame)))

pub this_reverse_among :
    (sub : Numbered) (props : List FrameReverse) (i : ℕ) (p : FrameReverse) → i < length props → p ≡ get_or props i p →
    AreAmong (p.property ∷ reversed_in (sub p.frame)) (in_reverses (build_reverses sub props))
this_reverse_among sub props i p inside at =
    subst (λ q. AreAmong (q.property ∷ reversed_in (sub q.frame)) (in_reverses (build_reverses sub props))) (sym at) (reverse_among sub props i p inside)

pub behind_among : (property : List ℕ) (rest : List (List ℕ)) → AreAmong rest (property ∷ rest)
behind_among property rest = among_right rest (property ∷ [])

pub told_first : (property : List ℕ) (rest : List (List ℕ)) (p : List ℕ → Bool) → p property ≡ true → list_any p (property ∷ rest) ≡ true
told_first property rest p e = or_left (p property) (list_any p rest) e

-- ---- views and values

-- what the view of a node refers to is near the node, where there is a view
pub seen_is_near :
    (dataset : List Quad) (reversed : List (List ℕ)) (g : GraphRef) (id : Term) (view : View) → view ≡ seen id (view_of dataset g id) →
    (x : Term) → IsOfNodeOrView g id view x → (y : Term) × (IsOfNode g id y × Near dataset reversed y x)
seen_is_near dataset reversed g id view same x (inl node) = (x, (node, itself))
seen_is_near dataset reversed g id view same x (inr refers) = (id, (inl refl, go (view_of dataset g id) refl same))
  where
    go : (found : Option View) → view_of dataset g id ≡ found → view ≡ seen id found → Near dataset reversed id x
    go (Some own) is e = view_refs_near dataset reversed g id own (sym is) x (subst (λ v. PropertiesRefer v.props x) e refers)
    go None is e = absurd (subst (λ v. PropertiesRefer v.props x) e refers)

pub view_of_props : (g : GraphRef) (id : Term) (view : View) (x : Term) → IsOfProps g view.props x → IsOfNodeOrView g id view x
view_of_props g id view x (inl refers) = inr refers
view_of_props g id view x (inr names) = inl (inr names)

pub view_is_of : (g : GraphRef) (id : Term) (view : View) (x : Term) → IsOfView g view x → IsOfNodeOrView g id view x
view_is_of g id view x (inl refers) = inr refers
view_is_of g id view x (inr names) = inl (inr names)

values_refer :
    (props : List Prop) (i : ℕ) (d : Prop) (x : Term) → i < length props →
    AnyRefers (values_of (map value_data (get_or props i d).values)) x → PropertiesRefer (map view_property props) x
values_refer [] i d x inside refers = absurd (omega arith)
values_refer (first ∷ rest) zero d x inside refers = inl refers
values_refer (first ∷ rest) (suc i) d x inside refers = inr (values_refer rest i d x (omega arith) refers)

pub this_property_refers :
    (props : List Prop) (i : ℕ) (held : Prop) (g : GraphRef) (x : Term) → i < length props → held ≡ get_or props i held →
    IsOfValues g (map value_data held.values) x → IsOfProps g (map view_property props) x
this_property_refers props i held g x inside at (inl refers) =
    inl (values_refer props i held x inside (subst (λ p. AnyRefers (values_of (map value_data p.values)) x) at refers))
this_property_refers props i held g x inside at (inr names) = inr names

this_in : (keys : List Term) (i : ℕ) (d : Term) → i < length keys → list_any (term_eq (get_or keys i d)) keys ≡ true
this_in [] i d inside = absurd (omega arith)
this_in (first ∷ rest) zero d inside = or_left (term_eq first first) (list_any (term_eq first) rest) ((term_decides first first).1 refl)
this_in (first ∷ rest) (suc i) d inside =
    or_right (term_eq (get_or rest i d) first) (list_any (term_eq (get_or rest i d)) rest) (this_in rest i d (omega arith))

pub this_key :
    (keys : List Term) (i : ℕ) (id : Term) (g : GraphRef) (x : Term) → i < length keys → id ≡ get_or keys i id → IsOfNode g id x → IsOfKeys g keys x
this_key keys i id g x inside at (inl same) =
    inl (subst (λ t. list_any (term_eq t) keys ≡ true) (sym (same ∙ at)) (this_in keys i id inside))
this_key keys i id g x inside at (inr names) = inr names
