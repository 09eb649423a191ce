-- With more room embedding gives the same, except where the depth was the limit.
use Rattle.std.proofs.Common.{◌≡◌, ◌≢◌, ℕ, zero, suc, ◌+◌, Bool, true, false, not, ◌&&◌, ◌⊎◌, inl, inr, List, [], ◌∷◌, ◌++◌, filter, refl, sym, ap, ◌∙◌, subst, add-zero, add-suc}
use Rattle.lf_rdf.specs.declared.term.Term.{Term}
use Rattle.lf_rdf.specs.declared.question.GraphRef.{GraphRef}
use Rattle.lf_rdf.specs.declared.question.GraphRef.TheVariants.{Named}
use Rattle.lf_model.specs.declared.document.Limit.TheVariants.{Depth}
use Rattle.lf_model.specs.ValueData.{ListValue, literal, reference, list, ListValues, no_values, value, values_of}
use Rattle.lf_model.specs.TreeData.{TreeEntry}
use Rattle.def_datasets.specs.Views.{View, ViewProperty}
use Rattle.def_nested.specs.Nested.{Nested, flags_of, within_of, reverse_props_of, reverses_list}
use Rattle.def_framing.specs.Views.{Views, Place}
use Rattle.def_framing.specs.Matching.{accepts}
use Rattle.def_framing.specs.Results.{State, Result, gives, over, then, through, choose, item, entered}
use Rattle.def_framing.specs.Steps.{enters, graph_frame, sub_for, is_output, item_frame, as_reference, seen}
use Rattle.def_framing.specs.Parts.{Embedding, embed_next, embed_all, entered_keys, graph_part, emit, emit_all, value_next, value_part, default_part, arriving, reverse_next, reverse_part}
use Rattle.def_framing.specs.Embedding.{Descent, embed, refer, contents, inside, outer, no_room}
use Rattle.def_framing.specs.Laws.{RoomIsEnough}

-- the second result is the first, unless the depth was the first one's limit
abbrev pub Agrees : {A : Type 0} → Result A → Result A → Type 0
Agrees one two = (one ≡ over Depth) ⊎ (two ≡ one)

pub agrees_same : {A : Type 0} (result : Result A) → Agrees result result
agrees_same result = inr refl

pub then_agrees :
    {A B : Type 0} (one two : Result A) (next other : A → State → Result B) → Agrees one two →
    ((made : A) (after : State) → Agrees (next made after) (other made after)) → Agrees (then one next) (then two other)
then_agrees one two next other (inl e) k = inl (ap (λ result. then result next) e)
then_agrees one two next other (inr e) k = subst (λ result. Agrees (then one next) (then result other)) (sym e) (both one)
  where
    both : (result : Result _) → Agrees (then result next) (then result other)
    both (gives made after) = k made after
    both (over limit) = inr refl

pub through_agrees :
    {A B : Type 0} (step other : B → A → State → Result B) →
    ((done : B) (one : A) (before : State) → Agrees (step done one before) (other done one before)) →
    (rest : List A) (done : B) (before : State) → Agrees (through step done rest before) (through other done rest before)
through_agrees step other each [] done before = inr refl
through_agrees step other each (one ∷ rest) done before =
    then_agrees (step done one before) (other done one before) _ _ (each done one before)
    (λ made after. through_agrees step other each rest made after)

pub choose_agrees :
    {A : Type 0} (test : Bool) (one two other another : State → Result A) (before : State) →
    Agrees (one before) (other before) → Agrees (two before) (another before) →
    Agrees (choose test one two before) (choose test other another before)
choose_agrees true one two other another before h k = h
choose_agrees false one two other another before h k = k

-- two functions that embed nodes agree
abbrev pub Alike : Embedding → Embedding → Type 0
Alike self other =
    (graph : GraphRef) (id : Term) (form : Nested) (free : Bool) (path : List Place) (before : State) →
    Agrees (self graph id form free path before) (other graph id form free path before)

embed_all_agrees :
    (self other : Embedding) → Alike self other → (graph : GraphRef) (form : Nested) (free : Bool) (path : List Place)
    (ids : List Term) (before : State) →
    Agrees (embed_all self graph form free path ids before) (embed_all other graph form free path ids before)
embed_all_agrees self other alike graph form free path ids before =
    through_agrees (embed_next self graph form free path) (embed_next other graph form free path)
    (λ done id later.
    then_agrees (self graph id form free path later) (other graph id form free path later) _ _
    (alike graph id form free path later) (λ made after. agrees_same (gives (done ++ made ∷ []) after)))
    ids [] before

graph_part_agrees :
    (views : Views) (self other : Embedding) → Alike self other → (graph : GraphRef) (id : Term) (form : Nested)
    (path : List Place) (before : State) →
    Agrees (graph_part views self graph id form path before) (graph_part views other graph id form path before)
graph_part_agrees views self other alike graph id form path before =
    choose_agrees (enters views graph id form path)
    (embed_all self (Named id) (graph_frame (within_of form)) true path
    (entered_keys views id (graph_frame (within_of form))))
    (gives [])
    (embed_all other (Named id) (graph_frame (within_of form)) true path
    (entered_keys views id (graph_frame (within_of form))))
    (gives []) before
    (embed_all_agrees self other alike (Named id) (graph_frame (within_of form)) true path
    (entered_keys views id (graph_frame (within_of form))) before)
    (agrees_same (gives [] before))

mutual
  unfolding emit emit_all

  emit_agrees :
      (views : Views) (self other : Embedding) → Alike self other → (graph : GraphRef) (path : List Place)
      (form : Nested) (held : ListValue) (before : State) →
      Agrees (emit views self graph path form held before) (emit views other graph path form held before)
  emit_agrees views self other alike graph path form (literal term) before = inr refl
  emit_agrees views self other alike graph path form (reference id) before =
      then_agrees (self graph id form false path before) (other graph id form false path before) _ _
      (alike graph id form false path before) (λ made after. inr refl)
  emit_agrees views self other alike graph path form (list items) before =
      then_agrees (item before) (item before) _ _ (agrees_same (item before))
      (λ counted later.
      then_agrees (emit_all views self graph path (item_frame form) [] items later)
      (emit_all views other graph path (item_frame form) [] items later) _ _
      (emit_all_agrees views self other alike graph path (item_frame form) items [] later) (λ made after. inr refl))

  emit_all_agrees :
      (views : Views) (self other : Embedding) → Alike self other → (graph : GraphRef) (path : List Place)
      (form : Nested) (items : ListValues) (done : List TreeEntry) (before : State) →
      Agrees (emit_all views self graph path form done items before) (emit_all views other graph path form done items before)
  emit_all_agrees views self other alike graph path form no_values done before = inr refl
  emit_all_agrees views self other alike graph path form (value first rest) done before =
      then_agrees _ _ _ _
      (choose_agrees (accepts views graph form first) _ (gives done) _ (gives done) before
      (then_agrees (emit views self graph path form first before) (emit views other graph path form first before) _ _
      (emit_agrees views self other alike graph path form first before)
      (λ made after. agrees_same (gives (done ++ made ∷ []) after)))
      (agrees_same (gives done before)))
      (λ made after. emit_all_agrees views self other alike graph path form rest made after)

value_part_agrees :
    (views : Views) (self other : Embedding) → Alike self other → (graph : GraphRef) (form : Nested) (path : List Place)
    (props : List ViewProperty) (before : State) →
    Agrees (value_part views self graph form path props before) (value_part views other graph form path props before)
value_part_agrees views self other alike graph form path props before =
    through_agrees (value_next views self graph form path) (value_next views other graph form path)
    (λ done held later.
    then_agrees (emit_all views self graph path (sub_for form held.property) [] (values_of held.values) later)
    (emit_all views other graph path (sub_for form held.property) [] (values_of held.values) later) _ _
    (emit_all_agrees views self other alike graph path (sub_for form held.property) (values_of held.values) [] later)
    (λ made after. inr refl))
    (filter (λ held. is_output form held.property) props) [] before

reverse_part_agrees :
    (views : Views) (self other : Embedding) → Alike self other → (graph : GraphRef) (id : Term) (form : Nested)
    (path : List Place) (before : State) →
    Agrees (reverse_part views self graph id form path before) (reverse_part views other graph id form path before)
reverse_part_agrees views self other alike graph id form path before =
    through_agrees (reverse_next views self graph id path) (reverse_next views other graph id path)
    (λ done held later.
    then_agrees (embed_all self graph held.1 false path (arriving views graph id held) later)
    (embed_all other graph held.1 false path (arriving views graph id held) later) _ _
    (embed_all_agrees self other alike graph held.1 false path (arriving views graph id held) later)
    (λ made after. inr refl))
    (reverses_list (reverse_props_of form)) [] before

contents_agrees :
    (views : Views) (self other : Embedding) → Alike self other → (graph : GraphRef) (id : Term) (form : Nested)
    (view : View) (path : List Place) (before : State) →
    Agrees (contents views self graph id form view path before) (contents views other graph id form view path before)
contents_agrees views self other alike graph id form view path before =
    then_agrees (graph_part views self graph id form path before) (graph_part views other graph id form path before) _ _
    (graph_part_agrees views self other alike graph id form path before)
    (λ nodes one.
    then_agrees (value_part views self graph form path view.props one)
    (value_part views other graph form path view.props one) _ _
    (value_part_agrees views self other alike graph form path view.props one)
    (λ values two.
    then_agrees (default_part form values two) (default_part form values two) _ _
    (agrees_same (default_part form values two))
    (λ defaults three.
    then_agrees (reverse_part views self graph id form path three) (reverse_part views other graph id form path three)
    _ _ (reverse_part_agrees views self other alike graph id form path three) (λ reverses after. inr refl))))

-- what embeds a node that isn't a reference
abbrev DescendAlike : Descent → Descent → Type 0
DescendAlike one two =
    (graph : GraphRef) (id : Term) (form : Nested) (path : List Place) (before : State) →
    Agrees (one graph id form path before) (two graph id form path before)

inside_agrees :
    (views : Views) (self other : Embedding) → Alike self other → DescendAlike (inside views self) (inside views other)
inside_agrees views self other alike graph id form path before =
    then_agrees (item before) (item before) _ _ (agrees_same (item before))
    (λ counted after.
    contents_agrees views self other alike graph id form (seen id (views.view graph id))
    (record { graph = graph; id = id } ∷ path) (entered (record { graph = graph; id = id }) after))

outer_agrees : (one two : Descent) → DescendAlike one two → Alike (outer one) (outer two)
outer_agrees one two alike graph id form free path before =
    choose_agrees (not free && as_reference (flags_of form).embed (record { graph = graph; id = id }) path before)
    (refer id) (one graph id form path) (refer id) (two graph id form path) before (agrees_same (refer id before))
    (alike graph id form path before)

-- one more step of room
one_more : (views : Views) (room : ℕ) → Alike (embed views room) (embed views (suc room))
unfolding embed
one_more views zero = outer_agrees no_room (inside views (embed views zero)) (λ graph id form path before. inl refl)
one_more views (suc room) =
    outer_agrees (inside views (embed views room)) (inside views (embed views (suc room)))
    (inside_agrees views (embed views room) (embed views (suc room)) (one_more views room))

-- the second result, where the depth isn't the first one's limit
agreed : {A : Type 0} (one two : Result A) → Agrees one two → one ≢ over Depth → two ≡ one
agreed one two (inl e) shallow = absurd (shallow e)
agreed one two (inr e) shallow = e

pub room_enough : RoomIsEnough
room_enough views room zero graph id form free path state shallow = rw add-zero refl
room_enough views room (suc more) graph id form free path state shallow =
    let below : embed views (room + more) graph id form free path state ≡ embed views room graph id form free path state =
    room_enough views room more graph id form free path state shallow
    in
    rw add-suc
    (agreed (embed views (room + more) graph id form free path state)
    (embed views (suc (room + more)) graph id form free path state)
    (one_more views (room + more) graph id form free path state) (λ deep. shallow (sym below ∙ deep))
    ∙ below)
