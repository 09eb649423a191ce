-- The test of a term that fits says what it is to fit.
use Rattle.std.proofs.Common.{◌≡◌, ℕ, Bool, true, false, List, Option, Some, None, refl, sym, ap, subst, ◌&&◌}
use Rattle.std.specs.List.{Contains, list_any, filter}
use Rattle.std.proofs.lemmas.Bool.{and_parts, and_from, false≢true}
use Rattle.std.specs.Cmp.Lexicographic.{bytes_decides}
use Rattle.lf_rdf.specs.Equality.{text_eq, option_eq}
use Rattle.lf_model.specs.declared.table.TermTable.{TermTable}
use Rattle.lf_model.specs.declared.table.TermDef.{TermDef}
use Rattle.lf_model.specs.declared.table.Container.{Container}
use Rattle.lf_model.specs.declared.table.Container.TheVariants as container
use Rattle.def_selection.specs.declared.pick.Pick.{Pick}
use Rattle.def_selection.specs.declared.pick.PickKind.{PickKind}
use Rattle.def_selection.specs.declared.pick.PickKind.TheVariants.{AnyKind, LanguageKind, TypeKind}
use Rattle.def_selection.specs.Slots.{Slot, slot, slot_eq, kind_eq, slots}
use Rattle.def_selection.specs.Chosen.{chosen, container_eq, fits, rank, ranks_less, stands_for, stands_in}
use Rattle.def_selection.specs.Laws.{Fitting}
use Rattle.def_selection.proofs.Members.{filter_in, in_filter, passes_some, some_passes, none_in}
use Rattle.def_selection.proofs.Least.{least_in, least_none, none_less}

pub text_eq-same : (a b : List ℕ) → text_eq a b ≡ true → a ≡ b
text_eq-same a b e = (bytes_decides a b).0 e

pub text_eq-itself : (a : List ℕ) → text_eq a a ≡ true
text_eq-itself a = (bytes_decides a a).1 refl

pub stands_for-same : (iri : List ℕ) (o : Option (List ℕ)) → option_eq text_eq o (Some iri) ≡ true → o ≡ Some iri
stands_for-same iri None e = cc
stands_for-same iri (Some other) e = ap Some (text_eq-same other iri e)

container_eq-same : (a b : Container) → container_eq a b ≡ true → a ≡ b
container_eq-same container.NoContainer container.NoContainer e = refl
container_eq-same container.Set container.Set e = refl
container_eq-same container.List container.List e = refl
container_eq-same container.Language container.Language e = refl
container_eq-same container.LanguageSet container.LanguageSet e = refl
container_eq-same _ _ e = absurd (false≢true e)

container_eq-itself : (a : Container) → container_eq a a ≡ true
container_eq-itself container.NoContainer = refl
container_eq-itself container.Set = refl
container_eq-itself container.List = refl
container_eq-itself container.Language = refl
container_eq-itself container.LanguageSet = refl

kind_eq-same : (a b : PickKind) → kind_eq a b ≡ true → a ≡ b
kind_eq-same AnyKind AnyKind e = refl
kind_eq-same LanguageKind LanguageKind e = refl
kind_eq-same TypeKind TypeKind e = refl
kind_eq-same _ _ e = absurd (false≢true e)

kind_eq-itself : (a : PickKind) → kind_eq a a ≡ true
kind_eq-itself AnyKind = refl
kind_eq-itself LanguageKind = refl
kind_eq-itself TypeKind = refl

slot_eq-same : (a b : Slot) → slot_eq a b ≡ true → a ≡ b
slot_eq-same a b e =
    let both = and_parts (kind_eq a.kind b.kind) (text_eq a.name b.name) e in
    λ i. slot (kind_eq-same a.kind b.kind both.0 i) (text_eq-same a.name b.name both.1 i)

slot_eq-itself : (a : Slot) → slot_eq a a ≡ true
slot_eq-itself a = and_from _ _ (kind_eq-itself a.kind) (text_eq-itself a.name)

-- a test that finds a value of the list, where the test is equality
found_in : {A : Type 0} (eq : A → A → Bool) → ((a b : A) → eq a b ≡ true → a ≡ b) → (x : A) (xs : List A) → list_any (eq x) xs ≡ true → Contains xs x
found_in eq same x xs holds =
    let (y, held, e) = some_passes (eq x) xs holds in
    subst (λ z. Contains xs z) (sym (same x y e)) held

pub fits-fitting : (table : TermTable) (iri : List ℕ) (pick : Pick) (term : TermDef) → fits table iri pick term ≡ true → Fitting table iri pick term
fits-fitting table iri pick term holds =
    let outer = and_parts (stands_for iri term && list_any (container_eq term.container) pick.containers) (list_any (stands_in table pick term) pick.preferred) holds in
    let inner = and_parts (stands_for iri term) (list_any (container_eq term.container) pick.containers) outer.0 in
    let (name, held, stands) = some_passes (stands_in table pick term) pick.preferred outer.1 in
    record {
      has_iri = stands_for-same iri term.iri inner.0;
      in_container = found_in container_eq container_eq-same term.container pick.containers inner.1;
      in_slot = (name, held, found_in slot_eq slot_eq-same (slot pick.kind name) (slots table term) stands);
    }

pub fitting-fits : (table : TermTable) (iri : List ℕ) (pick : Pick) (term : TermDef) → Fitting table iri pick term → fits table iri pick term ≡ true
fitting-fits table iri pick term h =
    let (name, preferred, held) = h.in_slot in
    and_from _ _
    (and_from _ _
    (subst (λ o. option_eq text_eq o (Some iri) ≡ true) (sym h.has_iri) (text_eq-itself iri))
    (passes_some (container_eq term.container) pick.containers term.container h.in_container (container_eq-itself term.container)))
    (passes_some (stands_in table pick term) pick.preferred name preferred
    (passes_some (slot_eq (slot pick.kind name)) (slots table term) (slot pick.kind name) held (slot_eq-itself (slot pick.kind name))))

pub chosen-fits : (table : TermTable) (iri : List ℕ) (pick : Pick) (term : TermDef) → chosen table iri pick ≡ Some term → Contains table.terms term × Fitting table iri pick term
chosen-fits table iri pick term e =
    let kept = filter_in (fits table iri pick) table.terms term (least_in (rank table pick) (filter (fits table iri pick) table.terms) term e) in
    (kept.0, fits-fitting table iri pick term kept.1)

pub chosen-least : (table : TermTable) (iri : List ℕ) (pick : Pick) (term other : TermDef) → chosen table iri pick ≡ Some term → Contains table.terms other → Fitting table iri pick other → ranks_less (rank table pick other) (rank table pick term) ≡ false
chosen-least table iri pick term other e held h =
    none_less (rank table pick) (filter (fits table iri pick) table.terms) term other e
    (in_filter (fits table iri pick) table.terms other held (fitting-fits table iri pick other h))

pub none-fits : (table : TermTable) (iri : List ℕ) (pick : Pick) (term : TermDef) → chosen table iri pick ≡ None → Contains table.terms term → ¬ Fitting table iri pick term
none-fits table iri pick term e held h =
    let kept = in_filter (fits table iri pick) table.terms term held (fitting-fits table iri pick term h) in
    none_in term (subst (λ xs. Contains xs term) (least_none (rank table pick) (filter (fits table iri pick) table.terms) e) kept)
