-- Steps of values as maps, and what answers share.
use Rattle.std.proofs.Common.{◌≡◌, ℕ, Bool, true, false, cond, map, List, [], ◌∷◌, ◌++◌, Option, Some, None, Result, Ok, Err, IfOk, Vec, refl, ap, sym, ◌∙◌, subst, nat_cmp}
use Rattle.std.specs.Prelude.{option_map, unwrap_or}
use Rattle.std.specs.Map.{lookup}
use Rattle.std.specs.Cmp.Lexicographic.{slice_cmp}
use Rattle.std.specs.BTreeMap.{get, is_at}
use Rattle.std.specs.declared.alloc.Global.{Global}
use Rattle.std.proofs.lemmas.Slice.Eq.{bytes_eq-Decides}
use Rattle.lf_rdf.specs.Equality.{text_eq}
use Rattle.lf_model.specs.declared.table.TermTable.{TermTable}
use Rattle.lf_model.specs.JsonData.{JsonValue, text}
use Rattle.def_selection.specs.Iris.{no_value, short, short_keyword}
use Rattle.def_selection.specs.Keywords.{at_type, at_value}
use Rattle.def_documents.specs.Trying.{◌>>=◌}
use Rattle.def_documents.specs.Grouping.{object_of}
use Rattle.def_documents.specs.Picks.{Plain}
use Rattle.def_documents.specs.Values.{datatype_entry, language_entry, value_object}
use Rattle.lf_compact.specs.Groups as groups
use Rattle.lf_compact.specs.Groups.{list_at, Groups}
use Rattle.lf_compact.specs.Members.{Hold, Members, joined_data}

-- a result says less
pub if-ok : {T E : Type 0} {P Q : T → Type 0} (r : Result T E) → ((x : T) → P x → Q x) → IfOk r P → IfOk r Q
if-ok (Ok x) f p = f x p
if-ok (Err e) f p = p

-- ---- nothing is held

pub hold-empty : (members : Members) → members.entries ≡ [] → Hold members []
hold-empty members none = λ key. ap (λ l. option_map joined_data (lookup (is_at (slice_cmp nat_cmp key)) l)) none

pub groups-empty : {T D : Type 0} (read : T → D) (g : Groups T) → g.entries ≡ [] → groups.Hold read g []
groups-empty {T} {D} read g none =
    λ key. ap (λ (l : List (List ℕ × Vec T Global)). option_map (λ xs. map read xs) (option_map (λ (v : Vec T Global). v.items) (lookup (is_at (slice_cmp nat_cmp key)) l))) none

-- ---- a list under a key

pub put-list : {T : Type 0} (before after : Groups T) (key : List ℕ) (list : Vec T Global) (value : T)
    → ((q : List ℕ) → get (slice_cmp nat_cmp) after q ≡ cond (text_eq key q) (Some list) (get (slice_cmp nat_cmp) before q))
    → list.items ≡ unwrap_or (list_at before key) [] ++ value ∷ []
    → (q : List ℕ) → list_at after q ≡ cond (text_eq key q) (Some (unwrap_or (list_at before q) [] ++ value ∷ [])) (list_at before q)
put-list {T} before after key list value put made q = ap (option_map (λ (v : Vec T Global). v.items)) (put q) ∙ go (text_eq key q) refl
  where
    go : (b : Bool) → text_eq key q ≡ b → option_map (λ (v : Vec T Global). v.items) (cond b (Some list) (get (slice_cmp nat_cmp) before q))
        ≡ cond b (Some (unwrap_or (list_at before q) [] ++ value ∷ [])) (list_at before q)
    go true e = ap Some (made ∙ ap (λ w. unwrap_or (list_at before w) [] ++ value ∷ []) ((bytes_eq-Decides key q).0 e))
    go false e = refl

-- ---- a value as a map

pub some-datatype : (table : TermTable) (datatype : Option (List ℕ)) (own compacted : List ℕ) → datatype ≡ Some own
    → short table own true no_value ≡ Some compacted → datatype_entry table datatype ≡ Some ((short_keyword table at_type, text compacted) ∷ [])
some-datatype table datatype own compacted e made =
    ap (datatype_entry table) e ∙ ap (λ o. o >>= (λ (c : List ℕ). Some ((short_keyword table at_type, text c) ∷ []))) made

pub some-value : (table : TermTable) (plain : Plain) (added : List (List ℕ × JsonValue)) → datatype_entry table plain.datatype ≡ Some added
    → value_object table plain ≡ Some (object_of ((short_keyword table at_value, plain.scalar) ∷ added ++ language_entry table plain.language))
some-value table plain added made =
    ap (λ o. o >>= (λ (part : List (List ℕ × JsonValue)). Some (object_of ((short_keyword table at_value, plain.scalar) ∷ part ++ language_entry table plain.language)))) made
