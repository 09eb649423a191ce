-- Lists read item by item: what one step of a reader keeps.
use Rattle.std.proofs.Common.{rules, ◌≡◌, refl, sym, ◌∙◌, ap, subst, ◌+◌, ◌<◌, List, [], ◌∷◌, ◌++◌, map, Bool, true, false, if◌then◌else◌, Some, All, arith}
use Rattle.std.proofs.lemmas.Bool.{false≢true}
use Rattle.std.proofs.lemmas.List.Elements.{All-push, All-head}
use Rattle.lf_rdf.specs.declared.term.Term.{Term}
use Rattle.lf_rdf.specs.declared.term.Term.TheVariants.{Iri, Blank, Literal}
use Rattle.lf_rdf.specs.declared.quad.Quad.{Quad}
use Rattle.lf_rdf.specs.declared.question.GraphRef.{GraphRef}
use Rattle.lf_rdf.specs.Vocabulary.{rdf_nil}
use Rattle.lf_model.specs.declared.value.Value.{Value}
use Rattle.lf_model.specs.declared.value.Value.TheVariants as program
use Rattle.lf_model.specs.declared.value.Value.{the_lemmas}
use Rattle.lf_model.specs.ValueData.{ListValue, literal, reference, list, ListValues, no_values, value, values_of}
use Rattle.lf_model.specs.ValueBridge.{value_data, values_data}
use Rattle.def_datasets.specs.Terms.{is_node, is_iri}
use Rattle.def_datasets.specs.Questions.{answers_of}
use Rattle.def_datasets.specs.Cells.{item_of, rest_of, is_cell}
use Rattle.def_datasets.specs.Values.{value_of}
use Rattle.def_datasets.proofs.ValueProofs.{reference_values, cell_values}
use Rattle.lf_lists.specs.declared.reader.OpenList.{OpenList}
use Rattle.lf_lists.specs.declared.reader.Reader.{Reader}
use Rattle.lf_lists.specs.Reading.{items_in, items_at, IsListAt, before_all, nested_in, read_in, weight, weight_all, weight_open, left_in, GoesOn, StepsOn}
use Rattle.lf_lists.proofs.Hearings.{first_part, second_part}

-- ---- items before others

pub before_push : (xs : List ListValue) (v : ListValue) (more : ListValues) → before_all (xs ++ v ∷ []) more ≡ before_all xs (value v more)
before_push [] v more = refl
before_push (x ∷ xs) v more = ap (value x) (before_push xs v more)

pub before_none : (xs : List ListValue) → before_all xs no_values ≡ values_of xs
before_none [] = refl
before_none (x ∷ xs) = ap (value x) (before_none xs)

pub map_push : {A B : Type 0} (f : A → B) (xs : List A) (x : A) → map f (xs ++ x ∷ []) ≡ map f xs ++ f x ∷ []
map_push f [] x = refl
map_push f (y ∷ ys) x = ap (λ w. f y ∷ w) (map_push f ys x)

pub list_data : (items : List Value) → value_data (program.List items) ≡ list (values_data items)
list_data items = search (rules, the_lemmas)

module _ (d : List Quad) (g : GraphRef) where
  pub nested_push : (os : List OpenList) (o : OpenList) (inner : ListValues)
      → nested_in d g (os ++ o ∷ []) inner
      ≡ nested_in d g os (before_all (map value_data o.items) (value (list inner) (items_at d g o.rest)))
  nested_push [] o inner = refl
  nested_push (p ∷ os) o inner =
      ap (λ (w : ListValues). before_all (map value_data p.items) (value (list w) (items_at d g p.rest))) (nested_push os o inner)

  pub open_push : (os : List OpenList) (o : OpenList) → weight_open d g (os ++ o ∷ []) ≡ weight_open d g os + (1 + weight_all (items_at d g o.rest))
  open_push [] o = omega arith
  open_push (p ∷ os) o = let h : weight_open d g (os ++ o ∷ []) ≡ weight_open d g os + (1 + weight_all (items_at d g o.rest)) = open_push os o in omega arith

  -- ---- what stands for a list is `rdf:nil` or a cell

  pub nil_at : (t : Term) → is_iri rdf_nil t ≡ true → items_at d g t ≡ no_values
  nil_at (Iri iri) e = ap (λ (r : Bool). items_in (if r then list no_values else reference (Iri iri))) e
  nil_at (Blank label) e = absurd (false≢true e)
  nil_at (Literal a b c) e = absurd (false≢true e)

  pub nil_is_list : (t : Term) → is_iri rdf_nil t ≡ true → IsListAt d g t
  nil_is_list (Iri iri) e =
      ap (λ (r : Bool). if r then list no_values else reference (Iri iri)) e ∙ sym (ap list (nil_at (Iri iri) e))
  nil_is_list (Blank label) e = absurd (false≢true e)
  nil_is_list (Literal a b c) e = absurd (false≢true e)

  is_a_list : ListValue → Bool
  is_a_list (literal term) = false
  is_a_list (reference term) = false
  is_a_list (list items) = true

  node_case : (t : Term) → is_node t ≡ true → is_iri rdf_nil t ≡ false → value_of d g t ≡ list (items_at d g t) → (b : Bool) → is_cell d g t ≡ b → b ≡ true
  unfolding is_a_list
  node_case t node not_nil listed true e = refl
  node_case t node not_nil listed false e =
      absurd (false≢true (ap is_a_list (sym (reference_values d g t node not_nil e) ∙ listed)))

  pub listed_cell : (t : Term) → IsListAt d g t → is_iri rdf_nil t ≡ false → is_cell d g t ≡ true
  unfolding is_a_list
  listed_cell (Iri iri) listed not_nil = node_case (Iri iri) refl not_nil listed (is_cell d g (Iri iri)) refl
  listed_cell (Blank label) listed not_nil = node_case (Blank label) refl not_nil listed (is_cell d g (Blank label)) refl
  listed_cell (Literal a b c) listed not_nil = absurd (false≢true (ap is_a_list listed))

  -- ---- what a cell leads to

  pub record CellParts (b item rest : Term) : Type 0 where
    pub items : items_at d g b ≡ value (value_of d g item) (items_at d g rest)
    pub goes_on : IsListAt d g rest

  pub cell_parts_at : (b item rest : Term) → is_cell d g b ≡ true → item_of (answers_of d) g b ≡ Some item → rest_of (answers_of d) g b ≡ Some rest
      → CellParts b item rest
  cell_parts_at b item rest c ei er =
      let (i, r, items, fi, fr, told, is) = cell_values d g b c in
      let same_item : i ≡ item = one_term i item (sym fi ∙ ei) in
      let same_rest : r ≡ rest = one_term r rest (sym fr ∙ er) in
      let listed : value_of d g rest ≡ list items = subst (λ (t : Term). value_of d g t ≡ list items) same_rest told in
      let these : items_at d g rest ≡ items = ap items_in listed in
      record {
        items = ap items_in is ∙ (λ j. value (value_of d g (same_item j)) (sym these j));
        goes_on = listed ∙ ap list (sym these);
      }
    where
      one_term : (x y : Term) → Some x ≡ Some y → x ≡ y
      one_term x y e = cc

  -- ---- the steps of a reader

  -- the end of a list that is an item: it is put behind the items of the list that waits
  pub ends_within : (before after : Reader) (outer : OpenList) → before.open.items ≡ after.open.items ++ outer ∷ []
      → after.items ≡ outer.items ++ program.List before.items ∷ [] → after.rest ≡ outer.rest → is_iri rdf_nil before.rest ≡ true
      → GoesOn d g before → StepsOn d g before after
  ends_within before after outer opens items rest nil goes =
      record {
        goes = record {
          here = subst (λ (t : Term). IsListAt d g t) (sym rest) waits.1;
          waiting = waits.0;
        };
        same = read_after ∙ sym read_before;
        less = less;
      }
    where
      all : All (λ o. IsListAt d g o.rest) (after.open.items ++ outer ∷ [])
      all = subst (λ (os : List OpenList). All (λ o. IsListAt d g o.rest) os) opens goes.waiting

      waits : All (λ o. IsListAt d g o.rest) after.open.items × IsListAt d g outer.rest
      waits = (first_part (λ o. IsListAt d g o.rest) after.open.items (outer ∷ []) all, All-head (λ o. IsListAt d g o.rest) outer [] (second_part (λ o. IsListAt d g o.rest) after.open.items (outer ∷ []) all))

      inner : before_all (map value_data before.items) (items_at d g before.rest) ≡ values_data before.items
      inner = ap (before_all (map value_data before.items)) (nil_at before.rest nil) ∙ before_none (map value_data before.items)

      read_before : read_in d g before
          ≡ nested_in d g after.open.items (before_all (map value_data outer.items) (value (list (values_data before.items)) (items_at d g outer.rest)))
      read_before =
          ap (λ (os : List OpenList). nested_in d g os (before_all (map value_data before.items) (items_at d g before.rest))) opens
          ∙ (ap (nested_in d g (after.open.items ++ outer ∷ [])) inner ∙ nested_push after.open.items outer (values_data before.items))

      read_after : read_in d g after
          ≡ nested_in d g after.open.items (before_all (map value_data outer.items) (value (list (values_data before.items)) (items_at d g outer.rest)))
      read_after =
          ap (nested_in d g after.open.items)
          ((λ i. before_all (map value_data (items i)) (items_at d g (rest i)))
          ∙ (ap (λ (xs : List ListValue). before_all xs (items_at d g outer.rest)) (map_push value_data outer.items (program.List before.items))
          ∙ (before_push (map value_data outer.items) (value_data (program.List before.items)) (items_at d g outer.rest)
          ∙ ap (λ (v : ListValue). before_all (map value_data outer.items) (value v (items_at d g outer.rest))) (list_data before.items))))

      less : left_in d g after < left_in d g before
      less =
          let a : weight_open d g before.open.items ≡ weight_open d g after.open.items + (1 + weight_all (items_at d g outer.rest)) =
          ap (weight_open d g) opens ∙ open_push after.open.items outer in
          let b : weight_all (items_at d g after.rest) ≡ weight_all (items_at d g outer.rest) = ap (λ (t : Term). weight_all (items_at d g t)) rest in
          omega arith

  -- the end of the outermost list
  pub ends_whole : (before : Reader) → before.open.items ≡ [] → is_iri rdf_nil before.rest ≡ true → read_in d g before ≡ values_data before.items
  ends_whole before opens nil =
      ap (λ (os : List OpenList). nested_in d g os (before_all (map value_data before.items) (items_at d g before.rest))) opens
      ∙ (ap (before_all (map value_data before.items)) (nil_at before.rest nil) ∙ before_none (map value_data before.items))

  -- a cell whose item is no list
  pub reads_plain : (before after : Reader) (item next : Term) (v : Value) → CellParts before.rest item next → value_of d g item ≡ value_data v
      → after.open.items ≡ before.open.items → after.items ≡ before.items ++ v ∷ [] → after.rest ≡ next → GoesOn d g before → StepsOn d g before after
  reads_plain before after item next v parts is opens items rest goes =
      record {
        goes = record {
          here = subst (λ (t : Term). IsListAt d g t) (sym rest) parts.goes_on;
          waiting = subst (λ (os : List OpenList). All (λ o. IsListAt d g o.rest) os) (sym opens) goes.waiting;
        };
        same =
            (λ i. nested_in d g (opens i) (before_all (map value_data (items i)) (items_at d g (rest i))))
            ∙ ap (nested_in d g before.open.items)
            (ap (λ (xs : List ListValue). before_all xs (items_at d g next)) (map_push value_data before.items v)
            ∙ (before_push (map value_data before.items) (value_data v) (items_at d g next)
            ∙ (ap (λ (w : ListValue). before_all (map value_data before.items) (value w (items_at d g next))) (sym is)
            ∙ ap (before_all (map value_data before.items)) (sym parts.items))));
        less =
            let a : weight_open d g after.open.items ≡ weight_open d g before.open.items = ap (weight_open d g) opens in
            let b : weight_all (items_at d g after.rest) ≡ weight_all (items_at d g next) = ap (λ (t : Term). weight_all (items_at d g t)) rest in
            let c : weight_all (items_at d g before.rest) ≡ 2 + weight (value_of d g item) + weight_all (items_at d g next) = ap weight_all parts.items in
            omega arith;
      }

  -- a cell whose item is a list: what comes after it waits
  pub reads_nested : (before after : Reader) (waiting : OpenList) (item : Term) → CellParts before.rest item waiting.rest → IsListAt d g item
      → waiting.items ≡ before.items → after.open.items ≡ before.open.items ++ waiting ∷ [] → after.items ≡ [] → after.rest ≡ item
      → GoesOn d g before → StepsOn d g before after
  reads_nested before after waiting item parts listed kept opens items rest goes =
      record {
        goes = record {
          here = subst (λ (t : Term). IsListAt d g t) (sym rest) listed;
          waiting =
              subst (λ (os : List OpenList). All (λ o. IsListAt d g o.rest) os) (sym opens)
              (All-push (λ o. IsListAt d g o.rest) before.open.items waiting goes.waiting parts.goes_on);
        };
        same =
            (λ i. nested_in d g (opens i) (before_all (map value_data (items i)) (items_at d g (rest i))))
            ∙ (nested_push before.open.items waiting (items_at d g item)
            ∙ ap (nested_in d g before.open.items)
            (ap (λ (xs : List Value). before_all (map value_data xs) (value (list (items_at d g item)) (items_at d g waiting.rest))) kept
            ∙ (ap (λ (w : ListValue). before_all (map value_data before.items) (value w (items_at d g waiting.rest))) (sym listed)
            ∙ ap (before_all (map value_data before.items)) (sym parts.items))));
        less =
            let a : weight_open d g after.open.items ≡ weight_open d g before.open.items + (1 + weight_all (items_at d g waiting.rest)) =
            ap (weight_open d g) opens ∙ open_push before.open.items waiting in
            let b : weight_all (items_at d g after.rest) ≡ weight_all (items_at d g item) = ap (λ (t : Term). weight_all (items_at d g t)) rest in
            let c : weight_all (items_at d g before.rest) ≡ 2 + weight (value_of d g item) + weight_all (items_at d g waiting.rest) = ap weight_all parts.items in
            let e : weight (value_of d g item) ≡ weight_all (items_at d g item) = ap weight listed in
            omega arith;
      }
