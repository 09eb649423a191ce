-- The path and the set of embedded nodes as the definitions see them.
use Rattle.std.proofs.Common.{◌≡◌, ℕ, Bool, true, false, cond, ◌||◌, if◌then◌else◌, List, [], ◌∷◌, ◌++◌, map, reverse, drop, refl, sym, ap, ◌∙◌}
use Rattle.std.specs.List.{list_any}
use Rattle.std.proofs.lemmas.List.{map-append, reverse-append}
use Rattle.std.proofs.lemmas.List.Folds.{list_any-append}
use Rattle.indexmap.specs.IndexSet.{insert_key}
use Rattle.lf_embed.specs.declared.place.Place.{Place}
use Rattle.lf_embed.specs.Places.{place_data, same_place}
use Rattle.def_framing.specs.Results.{entered, is_in}
use Rattle.def_framing.specs.Views as framing
use Rattle.def_framing.specs.Views.{place_eq}

any_mapped : {A B : Type 0} (p : B → Bool) (f : A → B) (xs : List A) → list_any p (map f xs) ≡ list_any (λ x. p (f x)) xs
any_mapped p f [] = refl
any_mapped p f (x ∷ xs) = ap (λ b. p (f x) || b) (any_mapped p f xs)

last_first : (one two : Bool) → (two || (one || false)) ≡ (one || two)
last_first true true = refl
last_first true false = refl
last_first false true = refl
last_first false false = refl

any_reverse : {A : Type 0} (p : A → Bool) (xs : List A) → list_any p (reverse xs) ≡ list_any p xs
any_reverse p [] = refl
any_reverse p (x ∷ xs) =
    ap (list_any p) (reverse-append (x ∷ []) xs)
    ∙ list_any-append p (reverse xs) (x ∷ [])
    ∙ ap (λ b. b || (p x || false)) (any_reverse p xs)
    ∙ last_first (p x) (list_any p xs)

-- a test of the steps of the path
pub any_path : (p : framing.Place → Bool) (xs : List Place) → list_any (λ x. p (place_data x)) xs ≡ list_any p (reverse (map place_data xs))
any_path p xs = sym (any_reverse p (map place_data xs) ∙ any_mapped p place_data xs)

-- whether a place is embedded
pub embedded_data : (keys : List Place) (place : Place) → list_any (same_place place) keys ≡ is_in (map place_data keys) (place_data place)
embedded_data keys place = sym (any_mapped (place_eq (place_data place)) place_data keys)

-- a place joins those that were embedded
pub entered_data :
    (keys : List Place) (place : Place) →
    map place_data (insert_key same_place keys place)
    ≡ cond (is_in (map place_data keys) (place_data place)) (map place_data keys) (map place_data keys ++ place_data place ∷ [])
entered_data keys place =
    go (list_any (same_place place) keys)
    ∙ ap (λ b. cond b (map place_data keys) (map place_data keys ++ place_data place ∷ [])) (embedded_data keys place)
  where
    go : (b : Bool) → map place_data (if b then keys else keys ++ place ∷ []) ≡ cond b (map place_data keys) (map place_data keys ++ place_data place ∷ [])
    go true = refl
    go false = map-append place_data keys (place ∷ [])

-- a step joins the path, and leaves it
pub step_joins : (xs : List Place) (x : Place) → reverse (map place_data (xs ++ x ∷ [])) ≡ place_data x ∷ reverse (map place_data xs)
step_joins xs x = ap reverse (map-append place_data xs (x ∷ [])) ∙ reverse-append (map place_data xs) (place_data x ∷ [])

pub step_leaves : (old new : List Place) (x : Place) → old ≡ new ++ x ∷ [] → reverse (map place_data new) ≡ drop 1 (reverse (map place_data old))
step_leaves old new x e = sym (ap (drop 1) (ap (λ xs. reverse (map place_data xs)) e ∙ step_joins new x))

-- the state after a place joined those that were embedded
pub entered_state :
    (keys new : List Place) (place : Place) (p : framing.Place) (count : ℕ) → new ≡ insert_key same_place keys place → place_data place ≡ p →
    record { embedded = map place_data new; count = count } ≡ entered p (record { embedded = map place_data keys; count = count })
entered_state keys new place p count e same =
    λ i. record {
      embedded = joined i;
      count = count;
    }
  where
    joined : map place_data new ≡ cond (is_in (map place_data keys) p) (map place_data keys) (map place_data keys ++ p ∷ [])
    joined =
        ap (map place_data) e ∙ entered_data keys place
        ∙ ap (λ q. cond (is_in (map place_data keys) q) (map place_data keys) (map place_data keys ++ q ∷ [])) same
