-- A list that is made item by item, where any item may come to nothing.
use Rattle.std.proofs.Common.{◌≡◌, ℕ, ◌+◌, ◌<◌, ◌≤◌, length, List, [], ◌∷◌, ◌++◌, Option, Some, None, Err, refl, ap, sym, ◌∙◌, append_assoc, drop, get_or}
use Rattle.std.proofs.lemmas.List.{append-nil, at_drop_more, at_drop_all}
use Rattle.def_documents.specs.Trying.{◌>>=◌}
use Rattle.lf_compact.specs.Answers.{Gives}
use Rattle.lf_compact.specs.declared.error.CompactErr.{CompactErr}
use Rattle.lf_compact.specs.declared.error.CompactErr.TheVariants as kind

-- what was made before stands in front of the rest
abbrev pub behind : {B : Type 0} → List B → Option (List B) → Option (List B)
behind made None = None
behind made (Some others) = Some (made ++ others)

-- one, and then the others
abbrev pub step_then : {B : Type 0} → Option B → Option (List B) → Option (List B)
step_then one others = one >>= (λ y. others >>= (λ ys. Some (y ∷ ys)))

behind-none : {B : Type 0} (rest : Option (List B)) → rest ≡ behind [] rest
behind-none None = refl
behind-none (Some xs) = refl

behind-more : {B : Type 0} (made : List B) (y : B) (one : Option B) (rest : Option (List B)) → one ≡ Some y
    → behind made (step_then one rest) ≡ behind (made ++ y ∷ []) rest
behind-more {B} made y one rest e = ap (λ o. behind made (step_then o rest)) e ∙ go rest
  where
    go : (rest : Option (List B)) → behind made (step_then (Some y) rest) ≡ behind (made ++ y ∷ []) rest
    go None = refl
    go (Some ys) = ap Some (sym (append_assoc made (y ∷ []) ys))

module _ {X B : Type 0} (F : List X → Option (List B)) (items : List X) where
  -- nothing is made before the first item
  pub begins : F items ≡ behind [] (F items)
  begins = behind-none (F items)

  module _ (one : X → Option B) (steps : (x : X) (xs : List X) → F (x ∷ xs) ≡ step_then (one x) (F xs))
      (i : ℕ) (x : X) (below : i < length items) (here : x ≡ get_or items i x) (made : List B) where
    next : F (drop i items) ≡ step_then (one x) (F (drop (i + 1) items))
    next =
        at_drop_more F items i x below
        ∙ ap (λ w. F (w ∷ drop (i + 1) items)) (sym here)
        ∙ steps x (drop (i + 1) items)

    -- an item gives one more
    pub goes-on : (after : List B) (y : B) → one x ≡ Some y → after ≡ made ++ y ∷ []
        → F items ≡ behind made (F (drop i items)) → F items ≡ behind after (F (drop (i + 1) items))
    goes-on after y gives more so_far =
        so_far
        ∙ ap (behind made) next
        ∙ behind-more made y (one x) (F (drop (i + 1) items)) gives
        ∙ ap (λ l. behind l (F (drop (i + 1) items))) (sym more)

    -- an item comes to nothing, and so does the list
    pub stops : one x ≡ None → F items ≡ behind made (F (drop i items)) → F items ≡ None
    stops none so_far = so_far ∙ ap (behind made) (next ∙ ap (λ o. step_then o (F (drop (i + 1) items))) none)

  -- all items are made
  pub ends : (i : ℕ) (made : List B) → length items ≤ i → F [] ≡ Some [] → F items ≡ behind made (F (drop i items)) → F items ≡ Some made
  ends i made past empty so_far =
      so_far ∙ ap (behind made) (at_drop_all F items i past ∙ empty) ∙ ap Some (append-nil made)

-- an error passes on
pub passes : {T U A B : Type 0} (f : T → A) (g : U → B) (e : CompactErr) (one : Option A) (whole : Option B) → (one ≡ None → whole ≡ None)
    → Gives f (Err e) one → Gives g (Err e) whole
passes f g (kind.Ld error) one whole then given = (then given.0, given.1)
passes f g kind.Memory one whole then given = given
