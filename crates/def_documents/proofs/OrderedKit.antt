-- What holds of all entries holds of what is made of them.
use Rattle.std.proofs.Common.{◌≡◌, ℕ, Bool, true, false, List, [], ◌∷◌, ◌++◌, Option, Some, None, cond, refl, sym, ap, subst, ◌∙◌, map}
use Rattle.std.specs.List.{AllByRecursion, filter, flat_map}
use Rattle.std.specs.List.Sorted.{IsStrictlySortedBy}
use Rattle.std.specs.Ordering.{nat_cmp}
use Rattle.std.specs.Cmp.Lexicographic.{slice_cmp}
use Rattle.lf_rdf.specs.Equality.{text_eq}
use Rattle.lf_model.specs.JsonData.{JsonValue, null, truth, whole, fraction, text, array, object, JsonItems, no_items, item, items_of, items_list, members_of, members_list}
use Rattle.def_documents.specs.Trying.{◌>>=◌}
use Rattle.def_documents.specs.Grouping.{keys_of, under, grouped, array_of, alone_or_array, elements_of, together, object_of}
use Rattle.def_documents.specs.Ordered.{IsOrdered, AreOrdered, HaveOrdered}
use Rattle.def_documents.proofs.Keys.{keys-ascend}

-- a step that gave something
pub stepped : {A B : Type 0} (m : Option A) (step : A → Option B) (y : B) → (m >>= step) ≡ Some y → (x : A) × (m ≡ Some x) × (step x ≡ Some y)
stepped None step y e = cc
stepped (Some x) step y e = (x, refl, e)

module _ {A : Type 0} (P : A → Type 0) where
  pub append-all : (xs ys : List A) → AllByRecursion P xs → AllByRecursion P ys → AllByRecursion P (xs ++ ys)
  append-all [] ys all others = others
  append-all (x ∷ xs) ys all others = (all.0, append-all xs ys all.1 others)

  pub filter-all : (p : A → Bool) (xs : List A) → AllByRecursion P xs → AllByRecursion P (filter p xs)
  filter-all p [] all = tt
  filter-all p (x ∷ xs) all = go (p x) (filter-all p xs all.1)
    where
      go : (b : Bool) → AllByRecursion P (filter p xs) → AllByRecursion P (cond b (x ∷ filter p xs) (filter p xs))
      go true ih = (all.0, ih)
      go false ih = ih

  -- what comes under a key
  pub under-all : (key : List ℕ) (entries : List (List ℕ × A)) → AllByRecursion (λ e. P e.1) entries → AllByRecursion P (under key entries)
  under-all key [] all = tt
  under-all key (first ∷ rest) all = go (text_eq first.0 key) (under-all key rest all.1)
    where
      go : (b : Bool) → AllByRecursion P (under key rest)
          → AllByRecursion P (map (λ e. e.1) (cond b (first ∷ filter (λ e. text_eq e.0 key) rest) (filter (λ e. text_eq e.0 key) rest)))
      go true ih = (all.0, ih)
      go false ih = ih

pub map-all : {A B : Type 0} (P : B → Type 0) (f : A → B) (xs : List A) → AllByRecursion (λ x. P (f x)) xs → AllByRecursion P (map f xs)
map-all P f [] all = tt
map-all P f (x ∷ xs) all = (all.0, map-all P f xs all.1)

pub flat_map-all : {A B : Type 0} (P : A → Type 0) (Q : B → Type 0) (f : A → List B) → ((x : A) → P x → AllByRecursion Q (f x)) → (xs : List A) → AllByRecursion P xs → AllByRecursion Q (flat_map f xs)
flat_map-all P Q f each [] all = tt
flat_map-all P Q f each (x ∷ xs) all = append-all Q (f x) (flat_map f xs) (each x all.0) (flat_map-all P Q f each xs all.1)

-- what joins all that comes under each key
pub grouped-all : {A B : Type 0} (P : A → Type 0) (Q : B → Type 0) (join : List A → B) → ((xs : List A) → AllByRecursion P xs → Q (join xs))
    → (entries : List (List ℕ × A)) → AllByRecursion (λ e. P e.1) entries → AllByRecursion (λ e. Q e.1) (grouped join entries)
grouped-all {A} {B} P Q join each entries all = go (keys_of entries)
  where
    go : (keys : List (List ℕ)) → AllByRecursion (λ (e : List ℕ × B). Q e.1) (map (λ key. (key, join (under key entries))) keys)
    go [] = tt
    go (key ∷ rest) = (each (under key entries) (under-all P key entries all), go rest)

grouped-keys : {A B : Type 0} (join : List A → B) (entries : List (List ℕ × A)) → map (λ e. e.0) (grouped join entries) ≡ keys_of entries
grouped-keys {A} {B} join entries = go (keys_of entries)
  where
    go : (keys : List (List ℕ)) → map (λ (e : List ℕ × B). e.0) (map (λ key. (key, join (under key entries))) keys) ≡ keys
    go [] = refl
    go (key ∷ rest) = ap (λ ks. key ∷ ks) (go rest)

pub items-ordered : (values : List JsonValue) → AllByRecursion IsOrdered values → AreOrdered (items_of values)
items-ordered [] all = tt
items-ordered (value ∷ rest) all = (all.0, items-ordered rest all.1)

pub list-ordered : (items : JsonItems) → AreOrdered items → AllByRecursion IsOrdered (items_list items)
list-ordered no_items all = tt
list-ordered (item value rest) all = (all.0, list-ordered rest all.1)

members-ordered : (entries : List (List ℕ × JsonValue)) → AllByRecursion (λ e. IsOrdered e.1) entries → HaveOrdered (members_of entries)
members-ordered [] all = tt
members-ordered (first ∷ rest) all = (all.0, members-ordered rest all.1)

members-same : (entries : List (List ℕ × JsonValue)) → members_list (members_of entries) ≡ entries
members-same [] = refl
members-same (first ∷ rest) = ap (λ es. first ∷ es) (members-same rest)

pub array-ordered : (values : List JsonValue) → AllByRecursion IsOrdered values → IsOrdered (array_of values)
array-ordered [] all = tt
array-ordered (null ∷ []) all = tt
array-ordered (truth flag ∷ []) all = (tt, tt)
array-ordered (whole number ∷ []) all = (tt, tt)
array-ordered (fraction ∷ []) all = (tt, tt)
array-ordered (text characters ∷ []) all = (tt, tt)
array-ordered (array items ∷ []) all = (all.0, tt)
array-ordered (object _ ∷ []) all = (all.0, tt)
array-ordered (one ∷ two ∷ rest) all = twice one (items-ordered (one ∷ two ∷ rest) all)
  where
    twice : (v : JsonValue) → AreOrdered (items_of (v ∷ two ∷ rest)) → IsOrdered (array_of (v ∷ two ∷ rest))
    twice null each = each
    twice (truth flag) each = each
    twice (whole number) each = each
    twice fraction each = each
    twice (text characters) each = each
    twice (array _) each = each
    twice (object _) each = each

pub alone-ordered : (set : Bool) (values : List JsonValue) → AllByRecursion IsOrdered values → IsOrdered (alone_or_array set values)
alone-ordered true values all = array-ordered values all
alone-ordered false [] all = tt
alone-ordered false (value ∷ []) all = all.0
alone-ordered false (one ∷ two ∷ rest) all = array-ordered (one ∷ two ∷ rest) all

elements-ordered : (value : JsonValue) → IsOrdered value → AllByRecursion IsOrdered (elements_of value)
elements-ordered null all = (tt, tt)
elements-ordered (truth flag) all = (tt, tt)
elements-ordered (whole number) all = (tt, tt)
elements-ordered fraction all = (tt, tt)
elements-ordered (text characters) all = (tt, tt)
elements-ordered (array items) all = list-ordered items all
elements-ordered (object _) all = (all, tt)

together-ordered : (values : List JsonValue) → AllByRecursion IsOrdered values → IsOrdered (together values)
together-ordered [] all = tt
together-ordered (value ∷ []) all = all.0
together-ordered (one ∷ two ∷ rest) all =
    array-ordered (flat_map elements_of (one ∷ two ∷ rest))
    (flat_map-all IsOrdered IsOrdered elements_of elements-ordered (one ∷ two ∷ rest) all)

-- the map of some entries
pub object-ordered : (entries : List (List ℕ × JsonValue)) → AllByRecursion (λ e. IsOrdered e.1) entries → IsOrdered (object_of entries)
object-ordered entries all =
    let made : List (List ℕ × JsonValue) = grouped together entries in
    let keys : map (λ e. e.0) (members_list (members_of made)) ≡ keys_of entries = ap (map (λ e. e.0)) (members-same made) ∙ grouped-keys together entries in (
      subst (λ ks. IsStrictlySortedBy (slice_cmp nat_cmp) ks) (sym keys) (keys-ascend entries),
      members-ordered made (grouped-all IsOrdered IsOrdered together together-ordered entries all),
    )
