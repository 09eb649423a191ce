-- How a `MapOf` stores its values, so that a type may hold a map of itself.
use Rattle.std.specs.Prelude.{ℕ, map}
use mathlib.Core.Path.{◌≡◌, refl, sym, ap, subst}
use mathlib.Core.List.{List, [], ◌∷◌}
use mathlib.Core.Former.{Former, this, const, pair, list, via, children}
use base.Stored.{code_map, gcons}
use denote.RattleType.{RattleType}
use denote.HoleLaws.{Alike}
use denote.HolePlaces.{Recodes, struct_places, laid}
use denote.Hole.Carrier.{listed}
use denote.Hole.Fix.{over}
use denote.Param.Weighed.{Weighed, w_list, w_via, w_pair, w_const}
use denote.Model.Placed.{view_places}
use Rattle.std.specs.Coded.{coded_list, coded_ℕ}
use Rattle.std.specs.List.Sorted.{IsStrictlySortedBy, IsStrictlySortedBy-prop}
use Rattle.std.specs.formers.vec.Vec as vec
use Rattle.std.specs.declared.alloc.Global.{Global}
use Rattle.std.specs.contracts.alloc.Global as global
use Rattle.std.specs.contracts.impls.GlobalAllocator.TheImpl.{ghosts}
use Rattle.lf_sorted.specs.declared.map.Entry.{Entry}
use Rattle.lf_sorted.specs.declared.map.MapOf.TheInside.{Inside}
use Rattle.lf_sorted.specs.declared.map.MapOf.TheView.{view, invariant}
use Rattle.lf_sorted.specs.contracts.map.Entry as Pair
use Rattle.lf_sorted.specs.contracts.map.MapOf as Seen
use Rattle.lf_sorted.specs.contracts.map.MapOf.TheInside as Stored
use Rattle.lf_sorted.specs.Entries.{text_cmp, entry, keys, entry_code}

-- a key beside one of g's values
abbrev pub entry_former : Former {0} → Former {0}
entry_former g = via (pair (const (List ℕ)) g) (λ X. Entry (g.Of X)) (λ X e. (e.key, e.value)) (λ X p. entry p.0 p.1) (λ X e. refl) (λ X p. refl)

abbrev pub the_former : Former {0} → Former {0}
the_former g = list (entry_former g)

abbrev pub the_weighed : {g : Former {0}} → Weighed g → Weighed (the_former g)
the_weighed {g} w = w_list (w_via (w_pair (w_const (List ℕ)) w) (λ X. Entry (g.Of X)) (λ X e. (e.key, e.value)) (λ X p. entry p.0 p.1) (λ X e. refl) (λ X p. refl))

pub the_empty : List (Entry ⊥)
the_empty = []

abbrev pub the_items : (X : Type 0) → List (Entry X) → List X
the_items X es = map (λ e. e.value) es

pub the_items_listed : (X : Type 0) (es : List (Entry X)) → listed _ (children (the_former this) X es) ≡ the_items X es
the_items_listed X [] = refl
the_items_listed X (e ∷ es) = ap (λ l. e.value ∷ l) (the_items_listed X es)

-- the entry, with h applied to its value
abbrev on_value : {X Y : Type 0} → (X → Y) → Entry X → Entry Y
on_value h e = entry e.key (h e.value)

keys_on_values : {X Y : Type 0} (h : X → Y) (es : List (Entry X)) → keys (map (on_value h) es) ≡ keys es
keys_on_values h [] = refl
keys_on_values h (e ∷ es) = ap (λ l. e.key ∷ l) (keys_on_values h es)

-- the one field, a vector of entries
abbrev stored : Former {0}
stored =
    via (vec.the_former (entry_former this) Global) Inside (λ X a. a.entries) (λ X v. record { entries = v }) (λ X a. refl) (λ X v. refl)

module _ (R S : RattleType) (h : R.Denot → S.Denot) where
  entry_places : Alike R S h → Alike (Pair.the_row R) (Pair.the_row S) (on_value h)
  entry_places same =
      struct_places (Pair.the_type R) (Pair.the_type S) (λ key. key, (h, tt)) (on_value h) (λ d. refl) refl
      ((refl, (λ n. refl, λ n. refl)), (laid _ _ _ same, tt))

  pub the_places : Alike R S h → Alike (Seen.the_row R) (Seen.the_row S) ((the_former this).map R.Denot S.Denot h)
  the_places same =
      view_places stored (the_former this) view (λ X Y k u. refl) (λ X u. refl) R.Denot S.Denot h
      (Seen.the_row R).coded (Seen.the_row S).coded
      (invariant R.Denot) (invariant S.Denot)
      (λ u. IsStrictlySortedBy-prop text_cmp (keys u.entries.items)) (λ u. IsStrictlySortedBy-prop text_cmp (keys u.entries.items))
      (λ u. subst (IsStrictlySortedBy text_cmp) (sym (keys_on_values h u.entries.items)))
      (λ u. subst (IsStrictlySortedBy text_cmp) (keys_on_values h u.entries.items))
      (over (Stored.the_row R)) (over (Stored.the_row S))
      (struct_places (Stored.the_type R) (Stored.the_type S) (vec.mapped (on_value h), tt) _ (λ d. refl) refl
      (laid _ _ _ (vec.the_places global.the_row ghosts (Pair.the_row R) (Pair.the_row S) (on_value h) (entry_places same)), tt))

  pub the_codes_placed : Recodes R S h → Recodes (Seen.the_row R) (Seen.the_row S) ((the_former this).map R.Denot S.Denot h)
  the_codes_placed e d =
      sym (code_map (entry_code R.coded).code (entry_code S.coded).code (on_value h) (λ x i. gcons ((coded_list coded_ℕ).code x.key) (sym (e x.value) i)) d)
