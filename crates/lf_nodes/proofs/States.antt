-- Values and properties that are asked for one after the other: the states of the loops, and a step of each.
use Rattle.std.proofs.Common.{◌≡◌, refl, sym, ◌∙◌, ap, subst, cond, ℕ, suc, ◌+◌, ◌<◌, List, [], ◌∷◌, ◌++◌, length, map, take, filter, Bool, true, false, not, get_or, Option, Some, None, slice_get, IsSomeAnd, arith}
use Rattle.std.specs.List.{list_all}
use Rattle.std.specs.Ordering.{is_lt}
use Rattle.std.proofs.Math.Seq.{take-length, take-suc}
use Rattle.std.proofs.lemmas.Bool.{and_parts, and_from}
use Rattle.std.proofs.lemmas.List.{append_assoc, append-nil, map-append}
use Rattle.std.proofs.lemmas.List.Folds.{list_any_at}
use Rattle.lf_rdf.specs.declared.term.Term.{Term}
use Rattle.lf_rdf.specs.declared.quad.Quad.{Quad}
use Rattle.lf_rdf.specs.declared.question.Question.{Question}
use Rattle.lf_rdf.specs.Equality.{quad_eq}
use Rattle.lf_model.specs.declared.value.Value.{Value}
use Rattle.lf_model.specs.declared.value.Prop.{Prop}
use Rattle.lf_model.specs.ValueBridge.{value_data}
use Rattle.lf_model.specs.ValueData.{ListValue}
use Rattle.def_datasets.specs.Sorted.{ascends, has}
use Rattle.def_datasets.specs.Views.{ViewProperty}
use Rattle.def_datasets.proofs.OrderLaws.{quad_strict}
use Rattle.def_datasets.proofs.SortedLaws.{has-filter, same_itself}
use Rattle.lf_oracle.specs.Asking.{Learns}
use Rattle.lf_oracle.specs.NodeViews.{property_data}
use Rattle.lf_lists.specs.Hearing.{Hears}
use Rattle.lf_lists.specs.Learning.{NearTo}
use Rattle.lf_lists.proofs.Hearings.{followed, heard, heard_as, moved, unheard, wider}
use Rattle.lf_nodes.specs.Properties.{AreNear, entry_cmp, gathered, property_of, quad_value, under, valued}
use Rattle.lf_nodes.proofs.Gathering.{fewer_others, gather_step, no_first}

-- ---- values

-- the values of the first quads of a list
pub record ValuesState (d now : List Quad) (x : Term) (before told : Option (List Question)) (first last : ℕ) (quads : List Quad) (i : ℕ) (values : List Value) : Type 0 where
  pub stays : now ≡ d
  pub hears : Hears (NearTo d x) d before told first last (λ other. map value_data values ≡ map (quad_value other) (take i quads))

pub values_begun : (d : List Quad) (x : Term) (told : Option (List Question)) (first : ℕ) (quads : List Quad) (values : List Value) → values ≡ []
    → ValuesState d d x told told first first quads 0 values
values_begun d x told first quads values none =
    record {
      stays = refl;
      hears = unheard (NearTo d x) d told first (λ other. map value_data values ≡ map (quad_value other) (take 0 quads)) (λ other. ap (map value_data) none);
    }

has_at : (quads : List Quad) (i : ℕ) (q : Quad) → i < length quads → q ≡ get_or quads i q → has quad_eq quads q ≡ true
has_at quads i q inside at =
    list_any_at (quad_eq q) quads i q inside (ap (quad_eq q) (sym at) ∙ same_itself quad_strict q)

values_after : (value : Quad → ListValue) (quads : List Quad) (i : ℕ) (q : Quad) (values : List Value) (last : Value) → i < length quads → q ≡ get_or quads i q
    → map value_data values ≡ map value (take i quads) → value_data last ≡ value q → map value_data (values ++ last ∷ []) ≡ map value (take (i + 1) quads)
values_after value quads i q values last inside at so_far here =
    let one : i + 1 ≡ suc i = omega arith in
    map-append value_data values (last ∷ [])
    ∙ ((λ k. so_far k ++ (here k ∷ []))
    ∙ (sym (map-append value (take i quads) (q ∷ []))
    ∙ (ap (λ (w : Quad). map value (take i quads ++ (w ∷ []))) at
    ∙ (ap (map value) (sym (take-suc quads i q inside)) ∙ ap (λ (n : ℕ). map value (take n quads)) (sym one)))))

pub values_more : {d now : List Quad} {x : Term} {before told : Option (List Question)} {first last : ℕ} {quads : List Quad} {i : ℕ} {values : List Value}
    → ValuesState d now x before told first last quads i values → AreNear d x quads → (q : Quad) → i < length quads → q ≡ get_or quads i q
    → (value : Value) → {told_after : Option (List Question)} {last_after : ℕ}
    → Learns (NearTo now q.object) now told told_after last last_after (λ other. quad_value other q) (value_data value)
    → {now_after : List Quad} {values_after : List Value} → now_after ≡ now → values_after ≡ values ++ value ∷ []
    → ValuesState d now_after x before told_after first last_after quads (i + 1) values_after
values_more {d = d} {now = now} {x = x} {before = before} {first = first} {quads = quads} {i = i} {values = values} state near q inside at value asked {values_after = after} stays pushed =
    record {
      stays = stays ∙ state.stays;
      hears =
          heard_as (λ question close. close)
          (λ other e. ap (map value_data) pushed ∙ values_after (quad_value other) quads i q values value inside at e.0 e.1)
          (followed state.hears (wider (near q (has_at quads i q inside at)) (moved state.stays (heard asked))));
    }

pub values_done : {d now : List Quad} {x : Term} {before told : Option (List Question)} {first last : ℕ} {quads : List Quad} {i : ℕ} {values : List Value}
    → ValuesState d now x before told first last quads i values → i ≡ length quads
    → Hears (NearTo d x) d before told first last (λ other. map value_data values ≡ map (quad_value other) quads)
values_done {quads = quads} state end =
    heard_as (λ question close. close)
    (λ other e. e ∙ ap (map (quad_value other)) (ap (λ (n : ℕ). take n quads) end ∙ take-length quads)) state.hears

-- ---- properties

-- the properties of the first quads of a list, and the quads that are left
pub record PropsState (d now : List Quad) (x : Term) (before told : Option (List Question)) (first last : ℕ) (quads rest : List Quad) (props : List Prop) : Type 0 where
  pub stays : now ≡ d
  pub in_order : ascends entry_cmp rest ≡ true
  pub near : AreNear d x rest
  pub hears : Hears (NearTo d x) d before told first last
      (λ other. map property_data props ++ gathered (quad_value other) rest ≡ gathered (quad_value other) quads)

pub props_begun : (d : List Quad) (x : Term) (told : Option (List Question)) (first : ℕ) (quads : List Quad) (props : List Prop) → props ≡ []
    → ascends entry_cmp quads ≡ true → AreNear d x quads → PropsState d d x told told first first quads quads props
props_begun d x told first quads props none up near =
    record {
      stays = refl;
      in_order = up;
      near = near;
      hears =
          unheard (NearTo d x) d told first (λ other. map property_data props ++ gathered (quad_value other) quads ≡ gathered (quad_value other) quads)
          (λ other. ap (λ (l : List Prop). map property_data l ++ gathered (quad_value other) quads) none);
    }

below_filter : (t : Quad → Bool) (x : Quad) (xs : List Quad) → list_all (λ y. is_lt (entry_cmp x y)) xs ≡ true
    → list_all (λ y. is_lt (entry_cmp x y)) (filter t xs) ≡ true
below_filter t x [] e = refl
below_filter t x (y ∷ ys) e = go (t y) (below_filter t x ys parts.1)
  where
    parts : (is_lt (entry_cmp x y) ≡ true) × (list_all (λ z. is_lt (entry_cmp x z)) ys ≡ true)
    parts = and_parts (is_lt (entry_cmp x y)) (list_all (λ z. is_lt (entry_cmp x z)) ys) e

    go : (b : Bool) → list_all (λ z. is_lt (entry_cmp x z)) (filter t ys) ≡ true → list_all (λ z. is_lt (entry_cmp x z)) (cond b (y ∷ filter t ys) (filter t ys)) ≡ true
    go true ih = and_from (is_lt (entry_cmp x y)) _ parts.0 ih
    go false ih = ih

ascends_filter : (t : Quad → Bool) (xs : List Quad) → ascends entry_cmp xs ≡ true → ascends entry_cmp (filter t xs) ≡ true
ascends_filter t [] e = refl
ascends_filter t (x ∷ xs) e = go (t x) (ascends_filter t xs parts.1)
  where
    parts : (list_all (λ y. is_lt (entry_cmp x y)) xs ≡ true) × (ascends entry_cmp xs ≡ true)
    parts = and_parts (list_all (λ y. is_lt (entry_cmp x y)) xs) (ascends entry_cmp xs) e

    go : (b : Bool) → ascends entry_cmp (filter t xs) ≡ true → ascends entry_cmp (cond b (x ∷ filter t xs) (filter t xs)) ≡ true
    go true ih = and_from (list_all (λ y. is_lt (entry_cmp x y)) (filter t xs)) _ (below_filter t x xs parts.0) ih
    go false ih = ih

near_filter : (d : List Quad) (x : Term) (t : Quad → Bool) (xs ys : List Quad) → ys ≡ filter t xs → AreNear d x xs → AreNear d x ys
near_filter d x t xs ys same near q e =
    near q (and_parts (t q) (has quad_eq xs q) (sym (has-filter quad_strict t xs q) ∙ (ap (λ (l : List Quad). has quad_eq l q) (sym same) ∙ e))).1

-- the quads of the next property are near
pub run_near : {d now : List Quad} {x : Term} {before told : Option (List Question)} {first last : ℕ} {quads rest : List Quad} {props : List Prop}
    → PropsState d now x before told first last quads rest props → (t : Quad → Bool) (run : List Quad) → run ≡ filter t rest → AreNear now x run
run_near {d = d} {x = x} {rest = rest} state t run same =
    subst (λ (w : List Quad). AreNear w x run) (sym state.stays) (near_filter d x t rest run same state.near)

pub first_of : (rest : List Quad) (q : Quad) (property : List ℕ) → slice_get rest 0 ≡ Some q → property ≡ property_of q → IsSomeAnd (slice_get rest 0) (λ r. property_of r ≡ property)
first_of rest q property at is = subst (λ (o : Option Quad). IsSomeAnd o (λ r. property_of r ≡ property)) (sym at) (sym is)

pub props_more : {d now : List Quad} {x : Term} {before told : Option (List Question)} {first last : ℕ} {quads rest : List Quad} {props : List Prop}
    → PropsState d now x before told first last quads rest props → (property : List ℕ) → IsSomeAnd (slice_get rest 0) (λ r. property_of r ≡ property)
    → (run left : List Quad) → run ≡ filter (under property) rest → left ≡ filter (λ q. not (under property q)) rest
    → (prop : Prop) → {told_after : Option (List Question)} {last_after : ℕ}
    → Hears (NearTo now x) now told told_after last last_after (λ other. property_data prop ≡ valued other property run)
    → {now_after : List Quad} {props_after : List Prop} → now_after ≡ now → props_after ≡ props ++ prop ∷ []
    → PropsState d now_after x before told_after first last_after quads left props_after
props_more {d = d} {x = x} {quads = quads} {rest = rest} {props = props} state property begins run left is_run is_left prop asked stays pushed =
    record {
      stays = stays ∙ state.stays;
      in_order = ap (ascends entry_cmp) is_left ∙ ascends_filter (λ q. not (under property q)) rest state.in_order;
      near = near_filter d x (λ q. not (under property q)) rest left is_left state.near;
      hears =
          heard_as (λ question close. close)
          (λ other e.
          (λ k. map property_data (pushed k) ++ gathered (quad_value other) (is_left k))
          ∙ (ap (λ (l : List ViewProperty). l ++ gathered (quad_value other) (filter (λ q. not (under property q)) rest)) (map-append property_data props (prop ∷ []))
          ∙ (append_assoc (map property_data props) (property_data prop ∷ []) (gathered (quad_value other) (filter (λ q. not (under property q)) rest))
          ∙ ((λ k. map property_data props ++ ((e.1 ∙ ap (valued other property) is_run) k ∷ gathered (quad_value other) (filter (λ q. not (under property q)) rest)))
          ∙ (ap (λ (l : List ViewProperty). map property_data props ++ l) (sym (gather_step (quad_value other) property rest state.in_order begins)) ∙ e.0)))))
          (followed state.hears (moved state.stays asked));
    }

pub props_done : {d now : List Quad} {x : Term} {before told : Option (List Question)} {first last : ℕ} {quads rest : List Quad} {props : List Prop}
    → PropsState d now x before told first last quads rest props → slice_get rest 0 ≡ None
    → Hears (NearTo d x) d before told first last (λ other. map property_data props ≡ gathered (quad_value other) quads)
props_done {rest = rest} {props = props} state none =
    heard_as (λ question close. close)
    (λ other e.
    sym (append-nil (map property_data props))
    ∙ (ap (λ (l : List Quad). map property_data props ++ gathered (quad_value other) l) (sym (no_first rest none)) ∙ e))
    state.hears

pub left_smaller : (property : List ℕ) (rest left : List Quad) → IsSomeAnd (slice_get rest 0) (λ r. property_of r ≡ property) → left ≡ filter (λ q. not (under property q)) rest
    → length left < length rest
left_smaller property rest left begins is_left = subst (λ (l : List Quad). length l < length rest) (sym is_left) (fewer_others property rest begins)
