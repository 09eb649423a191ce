-- The chosen term, container by container and slot by slot.
use Rattle.std.proofs.Common.{◌≡◌, ℕ, Bool, true, false, ◌&&◌, ◌||◌, List, [], ◌∷◌, Some, None, refl, ap, sym, ◌∙◌, map}
use Rattle.std.specs.Prelude.{nat_eq, filter}
use Rattle.std.specs.List.{list_any, position_or_len}
use Rattle.std.specs.Option.{option_and_then}
use Rattle.std.specs.Prelude.{slice_get}
use Rattle.std.specs.BTreeMap.{get}
use Rattle.std.proofs.lemmas.Cmp.{nat_list_eq_equiv}
use Rattle.lf_rdf.specs.Equality.{text_eq}
use Rattle.lf_model.specs.declared.table.TermTable.{TermTable}
use Rattle.lf_model.specs.declared.table.TermDef.{TermDef}
use Rattle.lf_model.specs.declared.table.Container.{Container}
use Rattle.lf_model.specs.declared.table.Container.TheVariants as d
use Rattle.def_selection.specs.declared.pick.Pick.{Pick}
use Rattle.def_selection.specs.declared.pick.PickKind.{PickKind}
use Rattle.def_selection.specs.declared.pick.PickKind.TheVariants.{AnyKind, LanguageKind, TypeKind}
use Rattle.def_selection.specs.Slots.{Slot, slot, slot_eq, slots, kind_eq}
use Rattle.def_selection.specs.Chosen.{chosen, container_eq, least, rank, stands_for, stands_in}
use Rattle.lf_select.specs.Keys.{container_number, key_cmp, key_eq, key_of, kind_number, slot_key}
use Rattle.lf_select.specs.Shelves.{best_under, first_some, is_under, name_rank, shelf_of, term_at, term_in, IsFiled, Shelf, Shelves}
use Rattle.lf_select.proofs.First.{first-least}

-- ---- numbers tell kinds and containers apart

kinds : (a b : PickKind) → nat_eq (kind_number a) (kind_number b) ≡ kind_eq b a
kinds AnyKind AnyKind = refl
kinds AnyKind LanguageKind = refl
kinds AnyKind TypeKind = refl
kinds LanguageKind AnyKind = refl
kinds LanguageKind LanguageKind = refl
kinds LanguageKind TypeKind = refl
kinds TypeKind AnyKind = refl
kinds TypeKind LanguageKind = refl
kinds TypeKind TypeKind = refl

containers : (a b : Container) → nat_eq (container_number a) (container_number b) ≡ container_eq a b
containers d.NoContainer d.NoContainer = refl
containers d.NoContainer d.Set = refl
containers d.NoContainer d.List = refl
containers d.NoContainer d.Language = refl
containers d.NoContainer d.LanguageSet = refl
containers d.Set d.NoContainer = refl
containers d.Set d.Set = refl
containers d.Set d.List = refl
containers d.Set d.Language = refl
containers d.Set d.LanguageSet = refl
containers d.List d.NoContainer = refl
containers d.List d.Set = refl
containers d.List d.List = refl
containers d.List d.Language = refl
containers d.List d.LanguageSet = refl
containers d.Language d.NoContainer = refl
containers d.Language d.Set = refl
containers d.Language d.List = refl
containers d.Language d.Language = refl
containers d.Language d.LanguageSet = refl
containers d.LanguageSet d.NoContainer = refl
containers d.LanguageSet d.Set = refl
containers d.LanguageSet d.List = refl
containers d.LanguageSet d.Language = refl
containers d.LanguageSet d.LanguageSet = refl

-- ---- a key is a container and a slot

and-false : (b : Bool) → false ≡ (b && false)
and-false true = refl
and-false false = refl

apart : (h k t m : Bool) → ((k && (h && t)) || (h && m)) ≡ (h && ((k && t) || m))
apart true k t m = refl
apart false true t m = refl
apart false false t m = refl

swap : (a b c : Bool) → ((a && b) && c) ≡ ((a && c) && b)
swap false b c = refl
swap true true true = refl
swap true true false = refl
swap true false true = refl
swap true false false = refl

any-keys : (own asked : Container) (kind : PickKind) (name : List ℕ) (all : List Slot) →
    list_any (λ k. key_eq k (key_of asked kind name)) (map (slot_key own) all)
    ≡ (container_eq own asked && list_any (slot_eq (slot kind name)) all)
any-keys own asked kind name [] = and-false (container_eq own asked)
any-keys own asked kind name (one ∷ rest) =
    (λ i. (kinds one.kind kind i && (containers own asked i && nat_list_eq_equiv.symm one.name name i)) || any-keys own asked kind name rest i)
    ∙ apart (container_eq own asked) (kind_eq kind one.kind) (text_eq name one.name) (list_any (slot_eq (slot kind name)) rest)

and-assoc : (a b c : Bool) → (a && (b && c)) ≡ ((a && b) && c)
and-assoc true b c = refl
and-assoc false b c = refl

under : (table : TermTable) (iri : List ℕ) (pick : Pick) (asked : Container) (name : List ℕ) (term : TermDef) →
    is_under table iri (key_of asked pick.kind name) term
    ≡ ((stands_for iri term && container_eq term.container asked) && stands_in table pick term name)
under table iri pick asked name term =
    ap (λ b. stands_for iri term && b) (any-keys term.container asked pick.kind name (slots table term))
    ∙ and-assoc (stands_for iri term) (container_eq term.container asked) (stands_in table pick term name)

-- ---- the chosen term

module _ (table : TermTable) (iri : List ℕ) (pick : Pick) where
  abbrev has_slot : TermDef → Bool
  has_slot term = list_any (stands_in table pick term) pick.preferred

  abbrev slot_rank : TermDef → List ℕ
  slot_rank term = position_or_len (stands_in table pick term) pick.preferred ∷ name_rank term

  in-container : (asked : Container) →
      first_some (λ name. best_under table table.terms iri (key_of asked pick.kind name)) pick.preferred
      ≡ least slot_rank (filter (λ t. (stands_for iri t && has_slot t) && container_eq t.container asked) table.terms)
  in-container asked =
      (λ i. first_some (λ name. least name_rank (filter (λ t. under table iri pick asked name t i) table.terms)) pick.preferred)
      ∙ first-least name_rank (λ t. stands_for iri t && container_eq t.container asked) (stands_in table pick) pick.preferred table.terms
      ∙ (λ i. least slot_rank (filter (λ t. swap (stands_for iri t) (container_eq t.container asked) (has_slot t) i) table.terms))

  pub chosen-first :
      first_some (λ asked. first_some (λ name. best_under table table.terms iri (key_of asked pick.kind name)) pick.preferred) pick.containers
      ≡ chosen table iri pick
  chosen-first =
      (λ i. first_some (λ asked. in-container asked i) pick.containers)
      ∙ first-least slot_rank (λ t. stands_for iri t && has_slot t) (λ t. container_eq t.container) pick.containers table.terms
      ∙ (λ i. least (rank table pick) (filter (λ t. swap (stands_for iri t) (has_slot t) (list_any (container_eq t.container) pick.containers) i) table.terms))

-- ---- on the shelves

first-none : {A B : Type 0} (xs : List A) → first_some {B = B} (λ x. None) xs ≡ None
first-none [] = refl
first-none (x ∷ xs) = first-none xs

module _ (table : TermTable) (shelves : Shelves) (iri : List ℕ) (pick : Pick) (filed : IsFiled table shelves) where
  on-shelf : first_some (λ asked. first_some (λ name. term_at table.terms shelves iri (key_of asked pick.kind name)) pick.preferred) pick.containers
      ≡ chosen table iri pick
  on-shelf =
      (λ i. first_some (λ asked. first_some (λ name. filed iri (key_of asked pick.kind name) i) pick.preferred) pick.containers)
      ∙ chosen-first table iri pick

  pub chosen-on_shelf : (shelf : Shelf) → shelf_of shelves iri ≡ Some shelf →
      first_some (λ asked. first_some (λ name. term_in table.terms shelf (key_of asked pick.kind name)) pick.preferred) pick.containers
      ≡ chosen table iri pick
  chosen-on_shelf shelf e =
      (λ i. first_some
      (λ asked. first_some
      (λ name. option_and_then (slice_get table.terms) (option_and_then (λ s. get key_cmp s (key_of asked pick.kind name)) (sym e i)))
      pick.preferred)
      pick.containers)
      ∙ on-shelf

  pub chosen-no_shelf : shelf_of shelves iri ≡ None → None ≡ chosen table iri pick
  chosen-no_shelf e =
      sym (first-none pick.containers)
      ∙ (λ i. first_some (λ asked. sym (first-none {B = TermDef} pick.preferred) i) pick.containers)
      ∙ (λ i. first_some
      (λ asked. first_some
      (λ name. option_and_then (slice_get table.terms) (option_and_then (λ s. get key_cmp s (key_of asked pick.kind name)) (sym e i)))
      pick.preferred)
      pick.containers)
      ∙ on-shelf
