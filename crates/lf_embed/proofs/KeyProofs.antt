-- The keys of a framed graph, and the outcome of a term that is no key.
use Rattle.std.proofs.Common.{◌≡◌, refl, sym, ◌∙◌, ap, ℕ, zero, suc, ◌+◌, ◌<◌, List, [], ◌∷◌, ◌++◌, length, get_or, take, map, Bool, true, false, Option, Some, None, is_some, arith}
use Rattle.std.proofs.lemmas.Bool.{true≢false}
use Rattle.std.proofs.lemmas.List.{map-append}
use Rattle.lf_rdf.specs.declared.term.Term.{Term}
use Rattle.lf_rdf.specs.declared.quad.Quad.{Quad}
use Rattle.lf_rdf.specs.declared.question.Question.{Question}
use Rattle.lf_rdf.specs.declared.question.GraphRef.{GraphRef}
use Rattle.lf_rdf.specs.Equality.{term_eq}
use Rattle.lf_model.specs.declared.frame.Frame.{Frame}
use Rattle.def_datasets.specs.Sorted.{ascends, has}
use Rattle.def_datasets.specs.Order.{id_cmp}
use Rattle.def_datasets.specs.Views.{View, keys, view_of}
use Rattle.def_datasets.proofs.ViewProofs.{keys_are_listed, keys_have_views, keys_in_order}
use Rattle.def_nested.specs.Nested.{Nested}
use Rattle.def_nested.specs.Unfolding.{nested_frame}
use Rattle.def_framing.specs.Outcome.{framed_graph, not_key, outcome, outcome_of_view}
use Rattle.def_framing.specs.Views.{Views, of_dataset}
use Rattle.lf_oracle.specs.Asking.{Learns}

-- the keys stand in order
pub keys_ascend : (d : List Quad) (g : GraphRef) (known : List Term) → known ≡ keys d g → ascends id_cmp known ≡ true
keys_ascend d g known are = ap (ascends id_cmp) are ∙ keys_in_order d g

-- ---- a term that isn't listed

unseen : (views : Views) (top : Nested) (g : GraphRef) (x : Term) (view : Option View) → is_some view ≡ false → not_key ≡ outcome_of_view views top g x view
unseen views top g x None e = refl
unseen views top g x (Some view) e = absurd (true≢false e)

pub unlisted : (d : List Quad) (f : Frame) (known : List Term) (x : Term) (found : Bool) → known ≡ keys d (framed_graph f.top_graph)
    → found ≡ has term_eq known x → found ≡ false → not_key ≡ outcome (of_dataset d) f x
unlisted d f known x found are told none =
    let g : GraphRef = framed_graph f.top_graph in
    unseen (of_dataset d) (nested_frame f) g x (view_of d g x)
    (keys_have_views d g x ∙ (sym (keys_are_listed d g x) ∙ (ap (λ (l : List Term). has term_eq l x) (sym are) ∙ (sym told ∙ none))))

-- ---- one outcome more

pub learnt : {X A : Type 0} (read : X → A) (Near : Question → Type 0) (dataset : List Quad) (before after : Option (List Question)) (first last : ℕ) (gives : List Quad → A) (made : X)
    → Learns Near dataset before after first last gives (read made) → read made ≡ gives dataset
learnt read Near dataset before after first last gives made learns = learns.same dataset (λ place d within. refl)

take-at : {Y A : Type 0} (g : Y → A) (xs : List Y) (i : ℕ) (y : Y) → i < length xs → y ≡ get_or xs i y → map g (take (suc i) xs) ≡ map g (take i xs) ++ g y ∷ []
take-at g [] i y within is = absurd (omega arith)
take-at g (z ∷ zs) zero y within is = ap (λ w. g w ∷ []) (sym is)
take-at g (z ∷ zs) (suc i) y within is = ap (λ l. g z ∷ l) (take-at g zs i y (omega arith) is)

pub made_more : {X Y A : Type 0} (f : X → A) (g : Y → A) (xs : List Y) (i : ℕ) (y : Y) (done new : List X) (x : X) → i < length xs → y ≡ get_or xs i y → f x ≡ g y
    → map f done ≡ map g (take i xs) → new ≡ done ++ x ∷ [] → map f new ≡ map g (take (i + 1) xs)
made_more f g xs i y done new x within is same so_far joined =
    let next : i + 1 ≡ suc i = omega arith in
    ap (map f) joined
    ∙ map-append f done (x ∷ [])
    ∙ (λ j. so_far j ++ same j ∷ [])
    ∙ sym (ap (λ n. map g (take n xs)) next ∙ take-at g xs i y within is)
