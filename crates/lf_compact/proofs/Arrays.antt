-- Arrays and their elements.
use Rattle.std.proofs.Common.{◌≡◌, true, false, List, [], ◌∷◌, refl, ap, sym, ◌∙◌, map}
use Rattle.lf_model.specs.declared.json.Json.{Json}
use Rattle.lf_model.specs.declared.json.Json.TheVariants as j
use Rattle.lf_model.specs.JsonBridge.{json_data}
use Rattle.lf_model.specs.JsonData.{JsonValue, null, truth, whole, fraction, text, array, object, no_items, items_of, items_list}
use Rattle.lf_model.proofs.JsonLemmas.{json_data-List}
use Rattle.def_documents.specs.Grouping.{array_of, elements_of}
use Rattle.lf_compact.specs.Arrays.{is_lone_null}

-- an array is that of its values, or empty where it holds null alone
array-empty : (xs : List JsonValue) → is_lone_null xs ≡ true → array_of xs ≡ array no_items
array-empty [] e = cc
array-empty (null ∷ []) e = refl
array-empty (truth b ∷ []) e = cc
array-empty (whole n ∷ []) e = cc
array-empty (fraction ∷ []) e = cc
array-empty (text t ∷ []) e = cc
array-empty (array xs ∷ []) e = cc
array-empty (object ms ∷ []) e = cc
array-empty (null ∷ y ∷ ys) e = cc
array-empty (truth b ∷ y ∷ ys) e = cc
array-empty (whole n ∷ y ∷ ys) e = cc
array-empty (fraction ∷ y ∷ ys) e = cc
array-empty (text t ∷ y ∷ ys) e = cc
array-empty (array xs ∷ y ∷ ys) e = cc
array-empty (object ms ∷ y ∷ ys) e = cc

array-full : (xs : List JsonValue) → is_lone_null xs ≡ false → array_of xs ≡ array (items_of xs)
array-full [] e = refl
array-full (null ∷ []) e = cc
array-full (truth b ∷ []) e = refl
array-full (whole n ∷ []) e = refl
array-full (fraction ∷ []) e = refl
array-full (text t ∷ []) e = refl
array-full (array xs ∷ []) e = refl
array-full (object ms ∷ []) e = refl
array-full (null ∷ y ∷ ys) e = refl
array-full (truth b ∷ y ∷ ys) e = refl
array-full (whole n ∷ y ∷ ys) e = refl
array-full (fraction ∷ y ∷ ys) e = refl
array-full (text t ∷ y ∷ ys) e = refl
array-full (array xs ∷ y ∷ ys) e = refl
array-full (object ms ∷ y ∷ ys) e = refl

-- the array that the program makes of values
pub empty-made : (xs : List Json) → is_lone_null (map json_data xs) ≡ true → json_data (j.List []) ≡ array_of (map json_data xs)
empty-made xs e = json_data-List [] ∙ sym (array-empty (map json_data xs) e)

pub full-made : (xs : List Json) → is_lone_null (map json_data xs) ≡ false → json_data (j.List xs) ≡ array_of (map json_data xs)
full-made xs e = json_data-List xs ∙ sym (array-full (map json_data xs) e)

-- the elements of an array
items-back : (xs : List JsonValue) → items_list (items_of xs) ≡ xs
items-back [] = refl
items-back (x ∷ xs) = ap (λ l. x ∷ l) (items-back xs)

pub list-elements : (xs : List Json) → elements_of (json_data (j.List xs)) ≡ map json_data xs
list-elements xs = ap elements_of (json_data-List xs) ∙ items-back (map json_data xs)
