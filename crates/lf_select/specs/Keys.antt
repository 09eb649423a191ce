-- The keys under which an IRI's terms are filed: numbers stand for kinds and containers, which have
-- no order.
use Rattle.std.specs.Prelude.{List, ◌∷◌, ℕ, nat_eq, Bool, ◌&&◌, Option, map}
use Rattle.std.specs.Ordering.{nat_cmp, ordering_then}
use Rattle.std.specs.declared.cmp.Ordering.{Ordering}
use Rattle.std.specs.Cmp.Lexicographic.{slice_cmp}
use Rattle.lf_rdf.specs.Equality.{text_eq}
use Rattle.lf_model.specs.declared.table.TermTable.{TermTable}
use Rattle.lf_model.specs.declared.table.TermDef.{TermDef}
use Rattle.lf_model.specs.declared.table.Container.{Container}
use Rattle.lf_model.specs.declared.table.Container.TheVariants as container
use Rattle.def_selection.specs.declared.pick.PickKind.{PickKind}
use Rattle.def_selection.specs.declared.pick.PickKind.TheVariants.{AnyKind, LanguageKind, TypeKind}
use Rattle.def_selection.specs.Keywords.{at_none}
use Rattle.def_selection.specs.Slots.{Slot, slot, slots, coerced_slots, language_slots, unmapped_slots}
use Rattle.lf_select.specs.declared.key.SlotKey.{SlotKey}

abbrev pub kind_number : PickKind → ℕ
kind_number AnyKind = 0
kind_number LanguageKind = 1
kind_number TypeKind = 2

abbrev pub container_number : Container → ℕ
container_number container.NoContainer = 0
container_number container.Set = 1
container_number container.List = 2
container_number container.Language = 3
container_number container.LanguageSet = 4

abbrev pub key_of : Container → PickKind → List ℕ → SlotKey
key_of container kind slot =
    record { kind = kind_number kind; container = container_number container; slot = slot }

-- the order of keys
abbrev pub key_cmp : SlotKey → SlotKey → Ordering
key_cmp a b = ordering_then (nat_cmp a.kind b.kind)
    (ordering_then (nat_cmp a.container b.container) (slice_cmp nat_cmp a.slot b.slot))

-- two keys are one
abbrev pub key_eq : SlotKey → SlotKey → Bool
key_eq a b = nat_eq a.kind b.kind && (nat_eq a.container b.container && text_eq a.slot b.slot)

-- a slot's key, and those of slots beside (any, `@none`)
abbrev pub slot_key : Container → Slot → SlotKey
slot_key container s = key_of container s.kind s.name

abbrev pub with_any : Container → List Slot → List SlotKey
with_any container others = map (slot_key container) (slot AnyKind at_none ∷ others)

abbrev pub coerced_keys : Container → List ℕ → List SlotKey
coerced_keys container coercion = with_any container (coerced_slots coercion)

abbrev pub language_keys : Container → Option (List ℕ) → List SlotKey
language_keys container language = with_any container (language_slots language)

abbrev pub unmapped_keys : Container → Option (List ℕ) → List SlotKey
unmapped_keys container default = with_any container (unmapped_slots default)

-- the keys of a term, one for each of its slots
abbrev pub keys_of : TermTable → TermDef → List SlotKey
keys_of table term = map (slot_key term.container) (slots table term)
