-- What the functions of embedding give is what the definitions say.
use Rattle.std.proofs.Common.{◌≡◌, ◌≢◌, ℕ, zero, suc, ◌-◌, Bool, true, false, List, [], ◌∷◌, ◌++◌, map, filter, Some, None, refl, sym, ap, ◌∙◌, arith}
use Rattle.lf_rdf.specs.declared.term.Term.{Term}
use Rattle.lf_rdf.specs.declared.question.GraphRef.{GraphRef}
use Rattle.lf_model.specs.declared.frame.FrameReverse.{FrameReverse}
use Rattle.lf_model.specs.declared.value.Prop.{Prop}
use Rattle.lf_model.specs.declared.value.Value.{Value}
use Rattle.lf_model.specs.ValueBridge.{value_data}
use Rattle.lf_model.specs.ValueData.{ListValue, literal, list, reference, values_of}
use Rattle.lf_model.specs.TreeData.{TreeNode, TreeNodes, TreeEntry, TreeEntries, entries_of, list_entry, literal_entry, node_entry}
use Rattle.def_nested.specs.Nested.{Nested, reverses_list}
use Rattle.def_nested.specs.Unfolding.{Numbered, build_reverses}
use Rattle.def_datasets.specs.Views.{View}
use Rattle.def_framing.specs.Embedding.{contents, embed}
use Rattle.def_framing.specs.Matching.{accepts, matches}
use Rattle.def_framing.specs.Parts.{Embedding, embed_all, embed_next, emit, emit_all, reverse_next, value_next, value_part, with_property, with_reverse}
use Rattle.def_framing.specs.Results.{State, Result, choose, entered, gives, item, over, then, through}
use Rattle.def_framing.specs.Steps.{is_output, item_frame, seen, sub_for}
use Rattle.def_framing.specs.Views.{Views, Place}
use Rattle.lf_embed.specs.Cycle.{arriving_next, arriving_part, descend, embed_viewed, emit_accepted, emit_list, entry_next, key_next, keys_part, perhaps, property_next, reverses_part, view_property}
use Rattle.lf_embed.specs.Made.{emit_literal, with_made}

-- a node is embedded by its own view
pub embed_is_viewed :
    (views : Views) (room : ℕ) (graph : GraphRef) (id : Term) (frame : Nested) (free : Bool) (path : List Place) (state : State) →
    embed_viewed views room graph id frame free (seen id (views.view graph id)) path state ≡ embed views room graph id frame free path state
unfolding embed
embed_is_viewed views zero graph id frame free path state = refl
embed_is_viewed views (suc room) graph id frame free path state = refl

-- a path with room
pub descends :
    (views : Views) (room : ℕ) (graph : GraphRef) (id : Term) (frame : Nested) (view : View) (path : List Place) (state : State) → room ≢ 0 →
    then (item state)
    (λ counted after.
    contents views (embed views (room - 1)) graph id frame view (record { graph = graph; id = id } ∷ path)
    (entered (record { graph = graph; id = id }) after))
    ≡ descend views room graph id frame view path state
descends views zero graph id frame view path state some = absurd (some refl)
descends views (suc room) graph id frame view path state some =
    ap
    (λ r.
    then (item state)
    (λ counted after.
    contents views (embed views r) graph id frame view (record { graph = graph; id = id } ∷ path)
    (entered (record { graph = graph; id = id }) after))) one_less
  where
    one_less : suc room - 1 ≡ room
    one_less = omega arith

-- an output that there may be joins those before it
perhaps_joins :
    {A : Type 0} (test : Bool) (made : State → Result A) (done : List A) (state : State) →
    then (perhaps test made state) (λ one after. gives (with_made one done) after)
    ≡ choose test (λ before. then (made before) (λ one after. gives (done ++ one ∷ []) after)) (gives done) state
perhaps_joins true made done state = go (made state)
  where
    go : (r : Result _) →
        then (then r (λ one after. gives (Some one) after)) (λ one after. gives (with_made one done) after)
        ≡ then r (λ one after. gives (done ++ one ∷ []) after)
    go (gives one after) = refl
    go (over limit) = refl
perhaps_joins false made done state = refl

-- one element by a choice, and the rest
pub then_same :
    {A B : Type 0} (r : Result A) (next other : A → State → Result B) → ((made : A) (after : State) → next made after ≡ other made after) →
    then r next ≡ then r other
then_same (gives made after) next other same = same made after
then_same (over limit) next other same = refl

-- the keys that match, one by one
keys_from :
    (views : Views) (self : Embedding) (graph : GraphRef) (frame : Nested) (free : Bool) (path : List Place) (keys : List Term)
    (done : List TreeNode) (state : State) →
    through (key_next views self graph frame free path) done keys state
    ≡ through (embed_next self graph frame free path) done (filter (matches views graph frame) keys) state
keys_from views self graph frame free path [] done state = refl
keys_from views self graph frame free path (id ∷ rest) done state =
    ap (λ r. then r (λ more later. through (key_next views self graph frame free path) more rest later))
    (perhaps_joins (matches views graph frame id) (self graph id frame free path) done state)
    ∙ go (matches views graph frame id) refl (λ more later. keys_from views self graph frame free path rest more later)
  where
    go : (b : Bool) → matches views graph frame id ≡ b →
        ((more : List TreeNode) (later : State) →
        through (key_next views self graph frame free path) more rest later
        ≡ through (embed_next self graph frame free path) more (filter (matches views graph frame) rest) later) →
        then (choose b (embed_next self graph frame free path done id) (gives done) state)
        (λ more later. through (key_next views self graph frame free path) more rest later)
        ≡ through (embed_next self graph frame free path) done (filter (matches views graph frame) (id ∷ rest)) state
    go true e on =
        rw e
        (then_same (embed_next self graph frame free path done id state)
        (λ more later. through (key_next views self graph frame free path) more rest later)
        (λ more later. through (embed_next self graph frame free path) more (filter (matches views graph frame) rest) later) on)
    go false e on = rw e (on done state)

pub keys_embedded :
    (views : Views) (self : Embedding) (graph : GraphRef) (frame : Nested) (free : Bool) (path : List Place) (keys : List Term)
    (state : State) →
    keys_part views self graph frame free path keys state
    ≡ embed_all self graph frame free path (filter (matches views graph frame) keys) state
keys_embedded views self graph frame free path keys state = keys_from views self graph frame free path keys [] state

-- the values that are accepted, one by one
entries_from :
    (views : Views) (self : Embedding) (graph : GraphRef) (path : List Place) (frame : Nested) (values : List Value)
    (done : List TreeEntry) (state : State) →
    through (entry_next views self graph path frame) done values state
    ≡ emit_all views self graph path frame done (values_of (map value_data values)) state
unfolding emit emit_all
entries_from views self graph path frame [] done state = refl
entries_from views self graph path frame (held ∷ rest) done state =
    ap (λ r. then r (λ more later. through (entry_next views self graph path frame) more rest later))
    (perhaps_joins (accepts views graph frame (value_data held)) (emit views self graph path frame (value_data held)) done state)
    ∙ then_same
    (choose (accepts views graph frame (value_data held))
    (λ before. then (emit views self graph path frame (value_data held) before) (λ made after. gives (done ++ made ∷ []) after))
    (gives done) state)
    (λ more later. through (entry_next views self graph path frame) more rest later)
    (λ more later. emit_all views self graph path frame more (values_of (map value_data rest)) later)
    (λ more later. entries_from views self graph path frame rest more later)

pub entries_emitted :
    (views : Views) (self : Embedding) (graph : GraphRef) (path : List Place) (frame : Nested) (values : List Value) (state : State) →
    through (entry_next views self graph path frame) [] values state
    ≡ emit_all views self graph path frame [] (values_of (map value_data values)) state
entries_emitted views self graph path frame values state = entries_from views self graph path frame values [] state

-- the properties that are output, one by one
properties_from :
    (views : Views) (self : Embedding) (graph : GraphRef) (frame : Nested) (path : List Place) (props : List Prop)
    (done : List (List ℕ × TreeEntries)) (state : State) →
    through (property_next views self graph frame path) done props state
    ≡ through (value_next views self graph frame path) done (filter (λ held. is_output frame held.property) (map view_property props)) state
properties_from views self graph frame path [] done state = refl
properties_from views self graph frame path (held ∷ rest) done state =
    go (is_output frame held.property) refl (λ more later. properties_from views self graph frame path rest more later)
  where
    go : (b : Bool) → is_output frame held.property ≡ b →
        ((more : List (List ℕ × TreeEntries)) (later : State) →
        through (property_next views self graph frame path) more rest later
        ≡ through (value_next views self graph frame path) more (filter (λ one. is_output frame one.property) (map view_property rest)) later) →
        then
        (then
        (choose b (emit_all views self graph path (sub_for frame held.property) [] (values_of (map value_data held.values))) (gives []) state)
        (λ entries after. gives (with_property held.property entries done) after))
        (λ more later. through (property_next views self graph frame path) more rest later)
        ≡ through (value_next views self graph frame path) done
        (filter (λ one. is_output frame one.property) (map view_property (held ∷ rest))) state
    go true e on =
        rw e
        (then_same (value_next views self graph frame path done (view_property held) state)
        (λ more later. through (property_next views self graph frame path) more rest later)
        (λ more later. through (value_next views self graph frame path) more (filter (λ one. is_output frame one.property) (map view_property rest)) later) on)
    go false e on = rw e (on done state)

pub properties_output :
    (views : Views) (self : Embedding) (graph : GraphRef) (frame : Nested) (path : List Place) (props : List Prop) (state : State) →
    through (property_next views self graph frame path) [] props state
    ≡ value_part views self graph frame path (map view_property props) state
properties_output views self graph frame path props state = properties_from views self graph frame path props [] state

-- the reverse properties, one by one
reverses_from :
    (views : Views) (self : Embedding) (graph : GraphRef) (id : Term) (path : List Place) (sub : Numbered) (props : List FrameReverse)
    (done : List (List ℕ × TreeNodes)) (state : State) →
    through (arriving_next views self graph id path sub) done props state
    ≡ through (reverse_next views self graph id path) done (reverses_list (build_reverses sub props)) state
reverses_from views self graph id path sub [] done state = refl
reverses_from views self graph id path sub (held ∷ rest) done state =
    then_same (arriving_next views self graph id path sub done held state)
    (λ more later. through (arriving_next views self graph id path sub) more rest later)
    (λ more later. through (reverse_next views self graph id path) more (reverses_list (build_reverses sub rest)) later)
    (λ more later. reverses_from views self graph id path sub rest more later)

pub reverses_embedded :
    (views : Views) (self : Embedding) (graph : GraphRef) (id : Term) (path : List Place) (sub : Numbered) (props : List FrameReverse)
    (state : State) →
    reverses_part views self graph id path sub props state
    ≡ through (reverse_next views self graph id path) [] (reverses_list (build_reverses sub props)) state
reverses_embedded views self graph id path sub props state = reverses_from views self graph id path sub props [] state

-- one reverse property
pub arrives :
    (views : Views) (self : Embedding) (graph : GraphRef) (id : Term) (path : List Place) (sub : Numbered)
    (done : List (List ℕ × TreeNodes)) (held : FrameReverse) (state : State) →
    then (arriving_part views self graph id path (held.property, sub held.frame) state)
    (λ nodes after. gives (with_reverse held.property nodes done) after)
    ≡ arriving_next views self graph id path sub done held state
arrives views self graph id path sub done held state =
    ap (λ r. then r (λ nodes after. gives (with_reverse held.property nodes done) after))
    (keys_embedded views self graph (sub held.frame) false path (views.pointing graph held.property id) state)

-- ---- the values of each kind

pub reference_emitted :
    (views : Views) (self : Embedding) (graph : GraphRef) (path : List Place) (frame : Nested) (id : Term) (state : State) (test : Bool) →
    accepts views graph frame (reference id) ≡ test →
    perhaps test (λ before. then (self graph id frame false path before) (λ made after. gives (node_entry made) after)) state
    ≡ emit_accepted views self graph path frame (reference id) state
unfolding emit emit_all
reference_emitted views self graph path frame id state test e =
    ap (λ b. perhaps b (λ before. then (self graph id frame false path before) (λ made after. gives (node_entry made) after)) state) (sym e)

pub literal_emitted :
    (views : Views) (self : Embedding) (graph : GraphRef) (path : List Place) (frame : Nested) (term : Term) (state : State) (test : Bool) →
    accepts views graph frame (literal term) ≡ test →
    choose test (emit_literal term) (gives None) state ≡ emit_accepted views self graph path frame (literal term) state
unfolding emit emit_all
literal_emitted views self graph path frame term state test e =
    pick test ∙ ap (λ b. perhaps b (emit views self graph path frame (literal term)) state) (sym e)
  where
    counted : (q : Result (Unit {0})) →
        then q (λ c after. gives (Some (literal_entry term)) after)
        ≡ then (then q (λ c after. gives (literal_entry term) after)) (λ one after. gives (Some one) after)
    counted (gives c after) = refl
    counted (over limit) = refl

    pick : (b : Bool) → choose b (emit_literal term) (gives None) state ≡ perhaps b (emit views self graph path frame (literal term)) state
    pick true = counted (item state)
    pick false = refl

pub list_emitted :
    (views : Views) (self : Embedding) (graph : GraphRef) (path : List Place) (frame : Nested) (items : List ListValue) (state : State) →
    accepts views graph frame (list (values_of items)) ≡ true →
    emit_list views self graph path frame items state ≡ emit_accepted views self graph path frame (list (values_of items)) state
unfolding emit emit_all
list_emitted views self graph path frame items state e =
    counted (item state) ∙ ap (λ b. perhaps b (emit views self graph path frame (list (values_of items))) state) (sym e)
  where
    inner : (q : Result (List TreeEntry)) →
        then q (λ entries after. gives (Some (list_entry (entries_of entries))) after)
        ≡ then (then q (λ entries after. gives (list_entry (entries_of entries)) after)) (λ one after. gives (Some one) after)
    inner (gives entries after) = refl
    inner (over limit) = refl

    counted : (q : Result (Unit {0})) →
        then q
        (λ c before.
        then (emit_all views self graph path (item_frame frame) [] (values_of items) before)
        (λ entries after. gives (Some (list_entry (entries_of entries))) after))
        ≡ then
        (then q
        (λ c before.
        then (emit_all views self graph path (item_frame frame) [] (values_of items) before)
        (λ entries after. gives (list_entry (entries_of entries)) after)))
        (λ one after. gives (Some one) after)
    counted (gives c before) = inner (emit_all views self graph path (item_frame frame) [] (values_of items) before)
    counted (over limit) = refl
