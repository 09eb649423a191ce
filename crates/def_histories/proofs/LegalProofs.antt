-- Legal histories grow by allowed entries, and what they begin with is legal.
use Rattle.std.proofs.Common.{suc, length, arith, ◌≡◌, refl, sym, ◌∙◌, ap, List, [], ◌∷◌, ◌++◌, ◌⊎◌, inl, inr}
use Rattle.std.proofs.lemmas.List.{append_assoc}
use Rattle.def_histories.specs.declared.operation.Operation.{Operation}
use Rattle.def_histories.specs.Legal.{IsAllowed}
use Rattle.def_histories.specs.HistoryLaws.{PrefixIsLegal, AllowedIsLegal}

pub prefix_is_legal : PrefixIsLegal
prefix_is_legal accepts history later legal before entry rest e =
    legal before entry (rest ++ later) (ap (λ (w : List Operation). w ++ later) e ∙ append_assoc before (entry ∷ rest) later)

head_of : Operation → List Operation → Operation
head_of other [] = other
head_of other (first ∷ rest) = first

tail_of : List Operation → List Operation
tail_of [] = []
tail_of (first ∷ rest) = rest

-- the entry of a split is the last one, or it stands in the history before it
split_last : (history before rest : List Operation) (last entry : Operation) → history ++ last ∷ [] ≡ before ++ entry ∷ rest
    → ((history ≡ before) × (last ≡ entry)) ⊎ ((inner : List Operation) × (history ≡ before ++ entry ∷ inner))
unfolding head_of tail_of
split_last [] [] rest last entry e = inl (refl, ap (head_of last) e)
split_last [] (first ∷ []) rest last entry e = absurd (no_room (ap length (ap tail_of e)))
  where
    no_room : 0 ≡ suc (length rest) → ⊥
    no_room none = omega arith
split_last [] (first ∷ second ∷ before) rest last entry e = absurd (no_room (ap length (ap tail_of e)))
  where
    no_room : 0 ≡ suc (length (before ++ entry ∷ rest)) → ⊥
    no_room none = omega arith
split_last (first ∷ history) [] rest last entry e = inr (history, ap (λ (x : Operation). x ∷ history) (ap (head_of last) e))
split_last (first ∷ history) (other ∷ before) rest last entry e =
    grown (split_last history before rest last entry (ap tail_of e))
  where
    same : first ≡ other
    same = ap (head_of last) e

    grown : ((history ≡ before) × (last ≡ entry)) ⊎ ((inner : List Operation) × (history ≡ before ++ entry ∷ inner))
        → ((first ∷ history ≡ other ∷ before) × (last ≡ entry)) ⊎ ((inner : List Operation) × (first ∷ history ≡ other ∷ before ++ entry ∷ inner))
    grown (inl both) = inl ((λ i. same i ∷ both.0 i), both.1)
    grown (inr found) = inr (found.0, λ i. same i ∷ found.1 i)

pub allowed_is_legal : AllowedIsLegal
allowed_is_legal accepts history last legal allowed before entry rest e =
    go (split_last history before rest last entry e)
  where
    go : ((history ≡ before) × (last ≡ entry)) ⊎ ((inner : List Operation) × (history ≡ before ++ entry ∷ inner))
        → IsAllowed accepts before entry
    go (inl both) = rw (sym both.0) (rw (sym both.1) allowed)
    go (inr found) = legal before entry found.0 found.1
