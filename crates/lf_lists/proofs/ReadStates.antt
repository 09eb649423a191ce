-- The loop that reads a list: what one step tells, what holds before each step, and what the end tells.
use Rattle.std.proofs.Common.{◌≡◌, refl, sym, ◌∙◌, ap, subst, ℕ, ◌<◌, length, arith, List, [], ◌∷◌, ◌++◌, map, Bool, true, false, Option, Some, None, All}
use Rattle.std.proofs.lemmas.List.Elements.{All-push, All-nil, All-head}
use Rattle.lf_rdf.specs.declared.term.Term.{Term}
use Rattle.lf_rdf.specs.declared.quad.Quad.{Quad}
use Rattle.lf_rdf.specs.declared.question.GraphRef.{GraphRef}
use Rattle.lf_rdf.specs.declared.question.Question.{Question}
use Rattle.lf_rdf.specs.Vocabulary.{rdf_nil}
use Rattle.lf_model.specs.declared.value.Value.{Value}
use Rattle.lf_model.specs.declared.value.Value.TheVariants as program
use Rattle.lf_model.specs.ValueData.{ListValue, literal, reference, list, ListValues}
use Rattle.lf_model.specs.ValueBridge.{value_data, values_data}
use Rattle.def_datasets.specs.Near.{Near, itself}
use Rattle.def_datasets.specs.Terms.{is_iri}
use Rattle.def_datasets.specs.Cells.{is_proper, is_cell}
use Rattle.def_datasets.specs.Values.{value_of}
use Rattle.lf_oracle.specs.Asking.{Learns}
use Rattle.lf_lists.specs.declared.reader.OpenList.{OpenList}
use Rattle.lf_lists.specs.declared.reader.Reader.{Reader}
use Rattle.lf_lists.specs.declared.reader.Parts.{Parts}
use Rattle.lf_lists.specs.declared.reader.Turn.{Turn}
use Rattle.lf_lists.specs.declared.reader.Turn.TheVariants.{Whole, Goes}
use Rattle.lf_lists.specs.Learning.{NearTo}
use Rattle.lf_lists.specs.Hearing.{Hears}
use Rattle.lf_lists.specs.Walking.{ends_well, Walked}
use Rattle.lf_lists.specs.Reading.{items_at, IsListAt, ReadsAll, list_in, plain, before_all, nested_in, read_in, left_in, GoesOn, AreNear, AreNearIn, ArePartsOf, GoesUnder, GoesAlong, StepsOn, TurnTells}
use Rattle.lf_lists.proofs.Hearings.{unheard, heard, heard_as, learnt, moved, followed, wider, holds_here, first_part, second_part}
use Rattle.lf_lists.proofs.CellTests.{nothing_marked}
use Rattle.lf_lists.proofs.ItemByItem.{CellParts, cell_parts_at, list_data, nil_at, nil_is_list, listed_cell, reads_plain, reads_nested}
use Rattle.lf_lists.proofs.Items.{cell_is_list, item_list, item_plain, plain_no_list, no_list_plain, near_item, near_next}

-- ---- whether an item is a list

pub list_learnt : {d : List Quad} {g : GraphRef} {x : Term} {told_first told : Option (List Question)} {first last : ℕ} {before after : List (List ℕ)} {found : Bool}
    → before ≡ [] → Hears (NearTo d x) d told_first told first last (λ other. Walked other g before after x found)
    → Learns (NearTo d x) d told_first told first last (λ other. ends_well other g x) found
list_learnt {g = g} {x = x} {before = before} {found = found} none walk =
    learnt walk (λ other. ends_well other g x) found (λ other fact. fact.tells (nothing_marked before none (is_proper other g)))

-- ---- one cell

module _ (d : List Quad) (g : GraphRef) (before : Reader) (parts : Parts) (after : Reader) where
  parts_at : (next : Term) → next ≡ parts.rest → is_cell d g before.rest ≡ true → ArePartsOf d g before.rest parts → CellParts d g before.rest parts.item next
  parts_at next same c p = cell_parts_at d g before.rest parts.item next c p.0 (p.1 ∙ ap Some (sym same))

  pub steps_under : is_cell d g before.rest ≡ true → ArePartsOf d g before.rest parts → ends_well d g parts.item ≡ true
      → GoesUnder before parts after → GoesOn d g before → StepsOn d g before after
  steps_under c p listed under goes =
      reads_nested d g before after under.outer parts.item (parts_at under.outer.rest under.next c p)
      (item_list d g before.rest parts.item c p.0 listed) under.kept under.opens under.items under.rest goes

  pub steps_along : is_cell d g before.rest ≡ true → ArePartsOf d g before.rest parts → ends_well d g parts.item ≡ false
      → GoesAlong before parts after → GoesOn d g before → StepsOn d g before after
  steps_along c p plainly along goes =
      reads_plain d g before after parts.item parts.rest along.item (parts_at parts.rest refl c p)
      (item_plain d g parts.item plainly ∙ sym along.plainly) along.opens along.items along.rest goes

  pub near_under : ArePartsOf d g before.rest parts → GoesUnder before parts after → (origin : Term) → AreNear d origin before → AreNear d origin after
  near_under p under origin near =
      record {
        here = subst (λ (t : Term). Near d [] origin t) (sym under.rest) (near_item d g origin before.rest parts.item p.0 near.here);
        waiting =
            subst (λ (os : List OpenList). All (λ o. Near d [] origin o.rest) os) (sym under.opens)
            (All-push (λ o. Near d [] origin o.rest) before.open.items under.outer near.waiting
            (subst (λ (t : Term). Near d [] origin t) (sym under.next) (near_next d g origin before.rest parts.rest p.1 near.here)));
      }

  pub near_along : ArePartsOf d g before.rest parts → GoesAlong before parts after → (origin : Term) → AreNear d origin before → AreNear d origin after
  near_along p along origin near =
      record {
        here = subst (λ (t : Term). Near d [] origin t) (sym along.rest) (near_next d g origin before.rest parts.rest p.1 near.here);
        waiting = subst (λ (os : List OpenList). All (λ o. Near d [] origin o.rest) os) (sym along.opens) near.waiting;
      }

-- the list that waited last goes on
pub near_within : (d : List Quad) (origin : Term) (before after : Reader) (outer : OpenList) → before.open.items ≡ after.open.items ++ outer ∷ []
    → after.rest ≡ outer.rest → AreNear d origin before → AreNear d origin after
near_within d origin before after outer opens rest near =
    record {
      here =
          subst (λ (t : Term). Near d [] origin t) (sym rest)
          (All-head (λ o. Near d [] origin o.rest) outer [] (second_part (λ o. Near d [] origin o.rest) after.open.items (outer ∷ []) all));
      waiting = first_part (λ o. Near d [] origin o.rest) after.open.items (outer ∷ []) all;
    }
  where
    all : All (λ o. Near d [] origin o.rest) (after.open.items ++ outer ∷ [])
    all = subst (λ (os : List OpenList). All (λ o. Near d [] origin o.rest) os) opens near.waiting

-- no list waits
pub none_waits : {X : Type 0} (xs : List X) (n : ℕ) → n ≡ length xs → n ≡ 0 → xs ≡ []
none_waits [] n long none = refl
none_waits (x ∷ xs) n long none = absurd (omega arith)

-- what both questions of a cell tell
module _ {d now : List Quad} (g : GraphRef) (before : Reader) {told_first told told_last : Option (List Question)} {first between last : ℕ} {parts : Parts} {listed : Bool}
    (asked : Hears (NearTo d before.rest) d told_first told first between (λ other. ArePartsOf other g before.rest parts))
    (stays : now ≡ d)
    (tested : Learns (NearTo now parts.item) now told told_last between last (λ other. ends_well other g parts.item) listed) where
  both : Hears (NearTo d before.rest) d told_first told_last first last (λ other. ArePartsOf other g before.rest parts × (listed ≡ ends_well other g parts.item))
  both = followed asked (wider (near_item d g before.rest before.rest parts.item (holds_here asked).0 itself) (moved stays (heard tested)))

  pub reads_under : {after : Reader} → listed ≡ true → GoesUnder before parts after
      → Hears (NearTo d before.rest) d told_first told_last first last (λ other. is_cell other g before.rest ≡ true → GoesOn other g before → StepsOn other g before after)
  reads_under {after = after} met under =
      heard_as (λ question near. near)
      (λ other fact c goes. steps_under other g before parts after c fact.0 (sym fact.1 ∙ met) under goes) both

  pub reads_along : {after : Reader} → listed ≡ false → GoesAlong before parts after
      → Hears (NearTo d before.rest) d told_first told_last first last (λ other. is_cell other g before.rest ≡ true → GoesOn other g before → StepsOn other g before after)
  reads_along {after = after} denied along =
      heard_as (λ question near. near)
      (λ other fact c goes. steps_along other g before parts after c fact.0 (sym fact.1 ∙ denied) along goes) both

  pub parts_here : ArePartsOf d g before.rest parts
  parts_here = holds_here asked

-- ---- one step

-- the cell that is read next
pub next_cell : (d : List Quad) (g : GraphRef) (r : Reader) → is_iri rdf_nil r.rest ≡ false → GoesOn d g r → is_cell d g r.rest ≡ true
next_cell d g r not_nil goes = listed_cell d g r.rest goes.here not_nil

pub turns_at_end : {d : List Quad} {g : GraphRef} {before : Reader} {told : Option (List Question)} {first : ℕ} (turn : Turn)
    → ((dataset : List Quad) (graph : GraphRef) → GoesOn dataset graph before → TurnTells dataset graph before turn)
    → Hears (NearTo d before.rest) d told told first first (λ other. GoesOn other g before → TurnTells other g before turn)
turns_at_end {d = d} {g = g} {before = before} {told = told} {first = first} turn ends =
    unheard (NearTo d before.rest) d told first (λ other. GoesOn other g before → TurnTells other g before turn) (λ other. ends other g)

pub turns_along : {d : List Quad} {g : GraphRef} {before after : Reader} {told_first told : Option (List Question)} {first last : ℕ}
    → is_iri rdf_nil before.rest ≡ false
    → Hears (NearTo d before.rest) d told_first told first last (λ other. is_cell other g before.rest ≡ true → GoesOn other g before → StepsOn other g before after)
    → Hears (NearTo d before.rest) d told_first told first last (λ other. GoesOn other g before → TurnTells other g before (Goes after))
turns_along {g = g} {before = before} not_nil reads =
    heard_as (λ question near. near) (λ other fact goes. fact (next_cell other g before not_nil goes) goes) reads

-- ---- the loop

abbrev pub UnderWay : List Quad → GraphRef → Term → Reader → Type 0
UnderWay d g head r = is_cell d g head ≡ true → GoesOn d g r × (read_in d g r ≡ items_at d g head)

-- what holds before each step: the questions so far tell that the list is being read
pub record ReadState (d now : List Quad) (g : GraphRef) (head : Term) (told_first told : Option (List Question)) (first last : ℕ) (r : Reader) : Type 0 where
  pub stays : now ≡ d
  pub hears : Hears (NearTo d head) d told_first told first last (λ other. UnderWay other g head r)
  pub goes : GoesOn d g r
  pub near : AreNear d head r

begun_goes : (d : List Quad) (g : GraphRef) (head : Term) (r : Reader) → r.open.items ≡ [] → r.rest ≡ head → is_cell d g head ≡ true → GoesOn d g r
begun_goes d g head r none same c =
    record {
      here = subst (λ (t : Term). IsListAt d g t) (sym same) (cell_is_list d g head c);
      waiting = subst (λ (os : List OpenList). All (λ o. IsListAt d g o.rest) os) (sym none) (All-nil (λ o. IsListAt d g o.rest));
    }

begun_same : (d : List Quad) (g : GraphRef) (head : Term) (r : Reader) → r.open.items ≡ [] → r.items ≡ [] → r.rest ≡ head → read_in d g r ≡ items_at d g head
begun_same d g head r none empty same =
    (λ i. nested_in d g (none i) (before_all (map value_data (empty i)) (items_at d g (same i))))

pub read_begun : (d : List Quad) (g : GraphRef) (head : Term) (r : Reader) (told : Option (List Question)) (first : ℕ)
    → r.open.items ≡ [] → r.items ≡ [] → r.rest ≡ head → is_cell d g head ≡ true → ReadState d d g head told told first first r
read_begun d g head r told first none empty same c =
    record {
      stays = refl;
      hears = unheard (NearTo d head) d told first (λ other. UnderWay other g head r)
          (λ other k. (begun_goes other g head r none same k, begun_same other g head r none empty same));
      goes = begun_goes d g head r none same c;
      near = record {
        here = subst (λ (t : Term). Near d [] head t) (sym same) itself;
        waiting = subst (λ (os : List OpenList). All (λ o. Near d [] head o.rest) os) (sym none) (All-nil (λ o. Near d [] head o.rest));
      };
    }

module _ {d now : List Quad} {g : GraphRef} {head : Term} {told_first told : Option (List Question)} {first last : ℕ} {r : Reader}
    (state : ReadState d now g head told_first told first last r) where
  pub goes_now : GoesOn now g r
  goes_now = subst (λ (w : List Quad). GoesOn w g r) (sym state.stays) state.goes

  module _ {now_after : List Quad} {told_after : Option (List Question)} {last_after : ℕ} (turn : Turn)
      (stays : now_after ≡ now)
      (turns : Hears (NearTo now r.rest) now told told_after last last_after (λ other. GoesOn other g r → TurnTells other g r turn)) where
    with_turn : Hears (NearTo d head) d told_first told_after first last_after (λ other. UnderWay other g head r × (GoesOn other g r → TurnTells other g r turn))
    with_turn = followed state.hears (wider state.near.here (moved state.stays turns))

    -- all items are read
    pub read_whole : (items : List Value) → turn ≡ Whole items → Hears (NearTo d head) d told_first told_after first last_after (λ other. ReadsAll other g head items)
    read_whole items is =
        heard_as (λ question near. near)
        (λ other fact c.
        let way = fact.0 c in
        let told_all : read_in other g r ≡ values_data items = subst (λ (t : Turn). TurnTells other g r t) is (fact.1 way.0) in
        cell_is_list other g head c ∙ ap list (sym way.1 ∙ told_all)) with_turn

    -- one step on
    module _ (after : Reader) (is : turn ≡ Goes after) where
      step_at : (other : List Quad) → GoesOn other g r → (GoesOn other g r → TurnTells other g r turn) → StepsOn other g r after
      step_at other goes tells = subst (λ (t : Turn). TurnTells other g r t) is (tells goes)

      step_here : StepsOn d g r after
      step_here = step_at d state.goes (holds_here with_turn).1

      pub read_on : ((origin : Term) → AreNear now origin r → AreNearIn now origin turn) → ReadState d now_after g head told_first told_after first last_after after
      read_on near =
          record {
            stays = stays ∙ state.stays;
            hears =
                heard_as (λ question near. near)
                (λ other fact c.
                let way = fact.0 c in
                let step = step_at other way.0 fact.1 in
                (step.goes, step.same ∙ way.1)) with_turn;
            goes = step_here.goes;
            near = near_here;
          }
        where
          near_turn : AreNearIn d head turn
          near_turn =
              subst (λ (w : List Quad). AreNearIn w head turn) state.stays
              (near head (subst (λ (w : List Quad). AreNear w head r) (sym state.stays) state.near))

          near_here : AreNear d head after
          near_here = subst (λ (t : Turn). AreNearIn d head t) is near_turn

      pub less_left : left_in now_after g after < left_in now g r
      less_left =
          subst (λ (w : List Quad). left_in w g after < left_in now g r) (sym (stays ∙ state.stays))
          (subst (λ (w : List Quad). left_in d g after < left_in w g r) (sym state.stays) step_here.less)

-- ---- objects

pub nil_found : {d : List Quad} (g : GraphRef) {x : Term} {told : Option (List Question)} {first : ℕ} {items : List Value} → is_iri rdf_nil x ≡ true → items ≡ []
    → Learns (NearTo d x) d told told first first (λ other. list_in (value_of other g x)) (Some (values_data items))
nil_found {d = d} g {x = x} {told = told} {first = first} {items = items} nil none =
    learnt (unheard (NearTo d x) d told first (λ other. Some (values_data items) ≡ list_in (value_of other g x))
    (λ other. ap (λ (w : List Value). Some (values_data w)) none ∙ sym (ap list_in (nil_is_list other g x nil) ∙ ap Some (nil_at other g x nil))))
    (λ other. list_in (value_of other g x)) (Some (values_data items)) (λ other e. e)

module _ {d : List Quad} (g : GraphRef) {x : Term} {told_first told : Option (List Question)} {first last : ℕ} {listed : Bool}
    (asked : Learns (NearTo d x) d told_first told first last (λ other. is_cell other g x) listed) where
  pub cell_now : {now : List Quad} → listed ≡ true → now ≡ d → is_cell now g x ≡ true
  cell_now met stays = subst (λ (w : List Quad). is_cell w g x ≡ true) (sym stays) (sym (holds_here (heard asked)) ∙ met)

  pub list_found : {now : List Quad} {told_after : Option (List Question)} {last_after : ℕ} (items : List Value) → listed ≡ true → now ≡ d
      → Hears (NearTo now x) now told told_after last last_after (λ other. ReadsAll other g x items)
      → Learns (NearTo d x) d told_first told_after first last_after (λ other. list_in (value_of other g x)) (Some (values_data items))
  list_found items met stays reads =
      learnt (followed (heard asked) (moved stays reads)) (λ other. list_in (value_of other g x)) (Some (values_data items))
      (λ other fact. sym (ap list_in (fact.1 (sym fact.0 ∙ met))))

  pub none_found : is_iri rdf_nil x ≡ false → listed ≡ false
      → Learns (NearTo d x) d told_first told first last (λ other. list_in (value_of other g x)) None
  none_found not_nil denied =
      learnt (heard asked) (λ other. list_in (value_of other g x)) None (λ other e. plain_no_list other g x not_nil (sym e ∙ denied))

module _ {d : List Quad} (g : GraphRef) {x : Term} {told_first told : Option (List Question)} {first last : ℕ} {found : Option ListValues}
    (asked : Learns (NearTo d x) d told_first told first last (λ other. list_in (value_of other g x)) found) where
  listed_value : (v : ListValue) (items : ListValues) → Some items ≡ list_in v → list items ≡ v
  listed_value (literal term) items e = absurd (cc)
  listed_value (reference term) items e = absurd (cc)
  listed_value (list them) items e = ap list (one items them e)
    where
      one : (a b : ListValues) → Some a ≡ Some b → a ≡ b
      one a b h = cc

  pub list_value : (items : List Value) → found ≡ Some (values_data items)
      → Learns (NearTo d x) d told_first told first last (λ other. value_of other g x) (value_data (program.List items))
  list_value items is =
      learnt (heard asked) (λ other. value_of other g x) (value_data (program.List items))
      (λ other e. list_data items ∙ listed_value (value_of other g x) (values_data items) (sym is ∙ e))

  pub plain_found : (v : Value) → found ≡ None → value_data v ≡ plain x
      → Learns (NearTo d x) d told_first told first last (λ other. value_of other g x) (value_data v)
  plain_found v none is =
      learnt (heard asked) (λ other. value_of other g x) (value_data v)
      (λ other e. is ∙ sym (no_list_plain other g x (sym none ∙ e)))
