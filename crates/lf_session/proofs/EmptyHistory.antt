-- The empty history is legal.
use Rattle.std.proofs.Common.{◌≡◌, ◌∙◌, refl, sym, ap, List, [], ◌∷◌, ◌++◌, ℕ, Bool, true, false}
use Rattle.std.proofs.lemmas.Bool.{false≢true}
use Rattle.def_histories.specs.declared.operation.Operation.{Operation}
use Rattle.def_histories.specs.Legal.{IsLegal}

is_empty : List Operation → Bool
is_empty [] = true
is_empty (entry ∷ rest) = false

not_empty : (before : List Operation) (entry : Operation) (rest : List Operation) → is_empty (before ++ entry ∷ rest) ≡ false
unfolding is_empty
not_empty [] entry rest = refl
not_empty (first ∷ before) entry rest = refl

pub empty_is_legal : (accepts : List ℕ → Bool) → IsLegal accepts []
unfolding is_empty
empty_is_legal accepts before entry rest e = absurd (false≢true (sym (not_empty before entry rest) ∙ sym (ap is_empty e)))
