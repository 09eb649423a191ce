-- Entries that are put under keys of groups one after the other.
use Rattle.std.proofs.Common.{◌≡◌, ℕ, List, [], ◌∷◌, ◌++◌, Some, cond, refl, ap, sym, subst, append_assoc}
use Rattle.std.specs.Prelude.{unwrap_or}
use Rattle.lf_rdf.specs.Equality.{text_eq}
use Rattle.lf_compact.specs.Groups.{list_at, Groups, Hold, PutsAll}
use Rattle.lf_compact.proofs.Grouped.{hold-more}

append-none : {D : Type 0} (xs : List D) → xs ≡ xs ++ []
append-none [] = refl
append-none (x ∷ xs) = ap (λ l. x ∷ l) (append-none xs)

module _ {T D : Type 0} (read : T → D) where
  pub puts-none : (groups : Groups T) → PutsAll read groups groups []
  puts-none groups = λ entries held. subst (Hold read groups) (append-none entries) held

  pub puts-one : (before after : Groups T) (key : List ℕ) (value : T)
      → ((q : List ℕ) → list_at after q ≡ cond (text_eq key q) (Some (unwrap_or (list_at before q) [] ++ value ∷ [])) (list_at before q))
      → PutsAll read before after ((key, read value) ∷ [])
  puts-one before after key value put = λ entries held. hold-more read before after key value entries held put

  pub puts-then : (a b c : Groups T) (xs ys : List (List ℕ × D)) → PutsAll read a b xs → PutsAll read b c ys → PutsAll read a c (xs ++ ys)
  puts-then a b c xs ys f g = λ entries held. subst (Hold read c) (append_assoc entries xs ys) (g (entries ++ xs) (f entries held))
