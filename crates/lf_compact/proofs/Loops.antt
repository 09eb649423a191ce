-- Steps of loops that put what comes next behind what was put before.
use Rattle.std.proofs.Common.{◌≡◌, ℕ, ◌<◌, Bool, List, [], ◌∷◌, ◌++◌, length, map, refl, ap, sym, ◌∙◌, subst, arith, append_assoc, append-nil, Vec}
use Rattle.std.specs.List.{flat_map}
use Rattle.std.specs.declared.alloc.Global.{Global}
use Rattle.std.proofs.lemmas.List.{map-append}
use Rattle.lf_model.specs.declared.json.Json.{Json}
use Rattle.lf_model.specs.JsonData.{JsonValue}
use Rattle.lf_model.specs.JsonBridge.{json_data}
use Rattle.def_documents.specs.Entries as def
use Rattle.def_documents.specs.Entries.{group_entry, property_entries}
use Rattle.def_documents.specs.Grouping.{alone_or_array}
use Rattle.lf_compact.specs.declared.pieces.Filed.{Filed}
use Rattle.lf_compact.specs.Answers.{AddsEntries}
use Rattle.lf_compact.specs.Members.{Members}
use Rattle.lf_compact.specs.Pieces.{filed_data, filed_list, keyed}
use Rattle.lf_compact.proofs.Added.{adds-none, adds-then}

-- ---- what one key of groups puts into members

abbrev pub language_next : Bool → List ℕ × Vec Json Global → List (List ℕ × JsonValue)
language_next in_arrays e = (e.0, alone_or_array in_arrays (map json_data e.1.items)) ∷ []

abbrev pub key_next : List ℕ × Vec Filed Global → List (List ℕ × JsonValue)
key_next e = (e.0, group_entry (filed_list e.1)) ∷ []

abbrev pub lists_next : List ℕ × Vec (Vec Filed Global) Global → List (List ℕ × JsonValue)
lists_next e = flat_map property_entries (map filed_list e.1.items)

-- ---- groups, key by key

module _ {V : Type 0} (F : List ℕ × V → List (List ℕ × JsonValue)) where
  pub adds-popped : (before mid after : Members) (entries rest : List (List ℕ × V)) (e : List ℕ × V) → entries ≡ e ∷ rest
      → AddsEntries before mid (F e) → AddsEntries mid after (flat_map F rest) → AddsEntries before after (flat_map F entries)
  adds-popped before mid after entries rest e popped one more =
      subst (λ l. AddsEntries before after (flat_map F l)) (sym popped) (adds-then before mid after (F e) (flat_map F rest) one more)

  pub adds-drained : (members : Members) (entries : List (List ℕ × V)) → (0 < length entries → ⊥) → AddsEntries members members (flat_map F entries)
  adds-drained members [] none = adds-none members
  adds-drained members (e ∷ es) none = absurd (none (omega arith))

-- ---- lists, item by item

pub flat-more : {X Y Z : Type 0} (P : Y → List Z) (f : X → Y) (xs : List X) (x : X) →
    flat_map P (map f (xs ++ x ∷ [])) ≡ flat_map P (map f xs) ++ P (f x)
flat-more P f [] x = append-nil (P (f x))
flat-more P f (y ∷ ys) x = ap (λ l. P (f y) ++ l) (flat-more P f ys x) ∙ sym (append_assoc (P (f y)) (flat_map P (map f ys)) (P (f x)))

pub keyed-more : (xs : List Filed) (x : Filed) → keyed (map filed_data (xs ++ x ∷ [])) ≡ keyed (map filed_data xs) ++ (x.key, filed_data x) ∷ []
keyed-more xs x =
    ap keyed (map-append filed_data xs (x ∷ []))
    ∙ map-append {B = List ℕ × def.Filed} (λ value. (value.key, value)) (map filed_data xs) (filed_data x ∷ [])
