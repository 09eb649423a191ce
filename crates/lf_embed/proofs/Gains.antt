-- What calls of embedding give, one after another and in loops.
use Rattle.std.proofs.Common.{◌≡◌, ℕ, ◌+◌, ◌<◌, List, [], ◌∷◌, ◌++◌, take, drop, length, get_or, Option, Some, None, Err, IfSome, refl, sym, ap, subst, ◌∙◌, add-one, drop-cons}
use Rattle.std.proofs.lemmas.List.{take-append-drop, take_more}
use Rattle.std.proofs.Math.Seq.{take-length}
use Rattle.lf_rdf.specs.declared.term.Term.{Term}
use Rattle.lf_rdf.specs.declared.quad.Quad.{Quad}
use Rattle.lf_rdf.specs.declared.question.Question.{Question}
use Rattle.lf_model.specs.declared.document.Limit.{Limit}
use Rattle.lf_oracle.specs.Asking.{Learns}
use Rattle.lf_oracle.proofs.Learning.{learns_map, learns_nothing, learns_then}
use Rattle.def_framing.specs.Results.{Result, State, gives, over, then, through}
use Rattle.def_framing.specs.Views.{Views, of_dataset}
use Rattle.lf_embed.specs.declared.walk.Stop.{Stop}
use Rattle.lf_embed.specs.declared.walk.Stop.TheVariants as stop
use Rattle.lf_embed.specs.Embeds.{Embeds, IsNearBy}
use Rattle.lf_embed.specs.Runs.{run_of}

-- nothing was asked
pub quiet :
    {A : Type 0} {dataset : List Quad} {told : Option (List Question)} {steps : ℕ} {reversed : List (List ℕ)} {Is : Term → Type 0}
    (comes : Views → Result A) (made : Option (Result A)) (known : Result A) → IfSome made (λ r. r ≡ known) →
    ((views : Views) → known ≡ comes views) → Embeds dataset told told steps steps reversed Is comes made
quiet comes None known run same = record { gained = tt }
quiet comes (Some r) known run same = record { gained = learns_nothing _ _ _ _ _ _ (λ other. run ∙ same (of_dataset other)) }

pub silent :
    {A : Type 0} {dataset : List Quad} {told : Option (List Question)} {steps : ℕ} {reversed : List (List ℕ)} {Is : Term → Type 0}
    (comes : Views → Result A) (known : Result A) → ((views : Views) → known ≡ comes views) →
    Embeds dataset told told steps steps reversed Is comes (Some known)
silent comes known same = record { gained = learns_nothing _ _ _ _ _ _ (λ other. same (of_dataset other)) }

-- one call gave all, as it is
pub passed :
    {A : Type 0} {dataset : List Quad} {before after : Option (List Question)} {first last : ℕ} {few many : List (List ℕ)}
    {These Those : Term → Type 0} (comes whole : Views → Result A) (made : Option (Result A)) →
    Embeds dataset before after first last few These comes made →
    ((question : Question) → IsNearBy dataset few These question → IsNearBy dataset many Those question) →
    ((views : Views) → comes views ≡ whole views) → Embeds dataset before after first last many Those whole made
passed comes whole None one wide same = record { gained = tt }
passed comes whole (Some r) one wide same =
    record { gained = learns_map _ (λ other. whole (of_dataset other)) r one.gained (λ e. wide) (λ other e. e ∙ same (of_dataset other)) }

-- one call's output was taken on
pub taken_on :
    {A B : Type 0} {dataset : List Quad} {before after : Option (List Question)} {first last : ℕ} {few many : List (List ℕ)}
    {These Those : Term → Type 0} (comes : Views → Result A) (whole : Views → Result B) (given : Result A) (came : Result B) →
    Embeds dataset before after first last few These comes (Some given) →
    ((question : Question) → IsNearBy dataset few These question → IsNearBy dataset many Those question) →
    ((views : Views) → given ≡ comes views → came ≡ whole views) → Embeds dataset before after first last many Those whole (Some came)
taken_on comes whole given came one wide same =
    record { gained = learns_map _ (λ other. whole (of_dataset other)) came one.gained (λ e. wide) (λ other e. same (of_dataset other) e) }

-- one call met a limit
pub stopped :
    {A B T U : Type 0} {dataset : List Quad} {before after : Option (List Question)} {first last : ℕ} {few many : List (List ℕ)}
    {These Those : Term → Type 0} (f : T → A) (h : U → B) (comes : Views → Result A) (whole : Views → Result B) (e : Stop) (one two : State) →
    Embeds dataset before after first last few These comes (run_of f (Err e) one) →
    ((question : Question) → IsNearBy dataset few These question → IsNearBy dataset many Those question) →
    ((views : Views) (limit : Limit) → over limit ≡ comes views → over limit ≡ whole views) →
    Embeds dataset before after first last many Those whole (run_of h (Err e) two)
stopped f h comes whole stop.Memory one two call wide same = record { gained = tt }
stopped f h comes whole (stop.Over limit) one two call wide same =
    record { gained = learns_map _ (λ other. whole (of_dataset other)) (over limit) call.gained (λ e. wide) (λ other e. same (of_dataset other) limit e) }

-- a call after another one
pub after_one :
    {A B : Type 0} {One : Question → Type 0} {dataset later : List Quad} {before middle after : Option (List Question)} {first second last : ℕ}
    {few many : List (List ℕ)} {These Those : Term → Type 0} {asks : List Quad → A} {found : A} (comes whole : Views → Result B)
    (made : Option (Result B)) → Learns One dataset before middle first second asks found → later ≡ dataset →
    Embeds later middle after second last few These comes made →
    (found ≡ asks dataset → (question : Question) → One question → IsNearBy dataset many Those question) →
    (found ≡ asks dataset → (question : Question) → IsNearBy dataset few These question → IsNearBy dataset many Those question) →
    ((other : List Quad) → found ≡ asks other → comes (of_dataset other) ≡ whole (of_dataset other)) →
    Embeds dataset before after first last many Those whole made
after_one comes whole None one stays two wide_one wide_two same = record { gained = tt }
after_one {few = few} {These = These} comes whole (Some r) one stays two wide_one wide_two same =
    record {
      gained =
          learns_then (λ d. IsNearBy d few These) _ (λ other. whole (of_dataset other)) r one stays two.gained wide_one (λ e f. wide_two e)
          (λ other e f. f ∙ same other e);
    }

pub taken_after :
    {A B C : Type 0} {One : Question → Type 0} {dataset later : List Quad} {before middle after : Option (List Question)} {first second last : ℕ}
    {few many : List (List ℕ)} {These Those : Term → Type 0} {asks : List Quad → A} {found : A} (comes : Views → Result B)
    (whole : Views → Result C) (given : Result B) (came : Result C) → Learns One dataset before middle first second asks found → later ≡ dataset →
    Embeds later middle after second last few These comes (Some given) →
    (found ≡ asks dataset → (question : Question) → One question → IsNearBy dataset many Those question) →
    (found ≡ asks dataset → (question : Question) → IsNearBy dataset few These question → IsNearBy dataset many Those question) →
    ((other : List Quad) → found ≡ asks other → given ≡ comes (of_dataset other) → came ≡ whole (of_dataset other)) →
    Embeds dataset before after first last many Those whole (Some came)
taken_after {few = few} {These = These} comes whole given came one stays two wide_one wide_two same =
    record {
      gained = learns_then (λ d. IsNearBy d few These) _ (λ other. whole (of_dataset other)) came one stays two.gained wide_one (λ e f. wide_two e) same;
    }

pub stopped_after :
    {A B C T U : Type 0} {One : Question → Type 0} {dataset later : List Quad} {before middle after : Option (List Question)} {first second last : ℕ}
    {few many : List (List ℕ)} {These Those : Term → Type 0} {asks : List Quad → A} {found : A} (f : T → B) (h : U → C)
    (comes : Views → Result B) (whole : Views → Result C) (e : Stop) (left right : State) →
    Learns One dataset before middle first second asks found → later ≡ dataset →
    Embeds later middle after second last few These comes (run_of f (Err e) left) →
    (found ≡ asks dataset → (question : Question) → One question → IsNearBy dataset many Those question) →
    (found ≡ asks dataset → (question : Question) → IsNearBy dataset few These question → IsNearBy dataset many Those question) →
    ((other : List Quad) (limit : Limit) → found ≡ asks other → over limit ≡ comes (of_dataset other) → over limit ≡ whole (of_dataset other)) →
    Embeds dataset before after first last many Those whole (run_of h (Err e) right)
stopped_after f h comes whole stop.Memory left right one stays two wide_one wide_two same = record { gained = tt }
stopped_after f h comes whole (stop.Over limit) left right one stays two wide_one wide_two same =
    record {
      gained =
          (taken_after comes whole (over limit) (over limit) one stays (record { gained = two.gained }) wide_one wide_two
          (λ other e g. same other limit e g)).gained;
    }

-- ---- loops

then_joins :
    {B C D : Type 0} (r : Result B) (one : B → State → Result C) (two : C → State → Result D) (both : B → State → Result D) →
    ((made : B) (after : State) → both made after ≡ then (one made after) two) → then r both ≡ then (then r one) two
then_joins (gives made after) one two both same = same made after
then_joins (over limit) one two both same = refl

last_one : {B : Type 0} (r : Result B) → then r (λ more later. gives more later) ≡ r
last_one (gives more later) = refl
last_one (over limit) = refl

module _ {B X : Type 0} where
  -- one list after another
  joined :
      (step : B → X → State → Result B) (begun : B) (xs ys : List X) (state : State) →
      through step begun (xs ++ ys) state ≡ then (through step begun xs state) (λ done later. through step done ys later)
  joined step begun [] ys state = refl
  joined step begun (x ∷ xs) ys state =
      then_joins (step begun x state) (λ more later. through step more xs later) (λ done later. through step done ys later)
      (λ more later. through step more (xs ++ ys) later) (λ more later. joined step more xs ys later)

  pub one_more :
      (step : B → X → State → Result B) (begun done : B) (xs : List X) (i : ℕ) (x : X) (state now : State) → i < length xs → x ≡ get_or xs i x →
      gives done now ≡ through step begun (take i xs) state → step done x now ≡ through step begun (take (i + 1) xs) state
  one_more step begun done xs i x state now inside at so_far =
      sym
      (ap (λ front. through step begun front state) (take_more xs i x inside)
      ∙ joined step begun (take i xs) (get_or xs i x ∷ []) state
      ∙ ap (λ r. then r (λ more later. through step more (get_or xs i x ∷ []) later)) (sym so_far)
      ∙ last_one (step done (get_or xs i x) now)
      ∙ ap (λ y. step done y now) (sym at))

  -- an element that meets a limit ends them
  pub none_more :
      (step : B → X → State → Result B) (begun done : B) (xs : List X) (i : ℕ) (x : X) (state now : State) (limit : Limit) → i < length xs →
      x ≡ get_or xs i x → gives done now ≡ through step begun (take i xs) state → over limit ≡ step done x now →
      over limit ≡ through step begun xs state
  none_more step begun done xs i x state now limit inside at so_far ends =
      sym
      (ap (λ all. through step begun all state) (sym (take-append-drop i xs))
      ∙ joined step begun (take i xs) (drop i xs) state
      ∙ ap (λ r. then r (λ more later. through step more (drop i xs) later)) (sym so_far)
      ∙ ap (λ rest. through step done rest now) split
      ∙ ap (λ r. then r (λ more later. through step more (drop (i + 1) xs) later)) (sym ends))
    where
      split : drop i xs ≡ x ∷ drop (i + 1) xs
      split = subst (λ y. drop i xs ≡ y ∷ drop (i + 1) xs) (sym at) (rw add-one (drop-cons xs i x inside))

-- one element more, by a call and what joins its output to those before
pub goes_on :
    {A B X : Type 0} {dataset later : List Quad} {before middle after : Option (List Question)} {first second last : ℕ} {few many : List (List ℕ)}
    {These Those : Term → Type 0} (step : Views → B → X → State → Result B) (comes : Views → Result A) (join : A → B → B)
    (begun done more : B) (xs : List X) (i : ℕ) (x : X) (state now next : State) (given : A) → i < length xs → x ≡ get_or xs i x →
    Embeds dataset before middle first second many Those (λ views. through (step views) begun (take i xs) state) (Some (gives done now)) →
    later ≡ dataset → Embeds later middle after second last few These comes (Some (gives given next)) →
    ((question : Question) → IsNearBy dataset few These question → IsNearBy dataset many Those question) →
    ((views : Views) → then (comes views) (λ made then_state. gives (join made done) then_state) ≡ step views done x now) →
    more ≡ join given done →
    Embeds dataset before after first last many Those (λ views. through (step views) begun (take (i + 1) xs) state) (Some (gives more next))
goes_on step comes join begun done more xs i x state now next given inside at so_far stays one wide stepped joins =
    taken_after comes (λ views. through (step views) begun (take (i + 1) xs) state) (gives given next) (gives more next) so_far.gained stays one
    (λ e question near. near) (λ e. wide)
    (λ other e f.
    ap (λ m. gives m next) joins
    ∙ ap (λ r. then r (λ made then_state. gives (join made done) then_state)) f
    ∙ stepped (of_dataset other)
    ∙ one_more (step (of_dataset other)) begun done xs i x state now inside at e)

pub goes_wrong :
    {A B X T U : Type 0} {dataset later : List Quad} {before middle after : Option (List Question)} {first second last : ℕ} {few many : List (List ℕ)}
    {These Those : Term → Type 0} (f : T → A) (h : U → B) (step : Views → B → X → State → Result B) (comes : Views → Result A) (whole : Views → Result B) (join : A → B → B)
    (begun done : B) (xs : List X) (i : ℕ) (x : X) (state now next right : State) (e : Stop) → i < length xs → x ≡ get_or xs i x →
    Embeds dataset before middle first second many Those (λ views. through (step views) begun (take i xs) state) (Some (gives done now)) →
    later ≡ dataset → Embeds later middle after second last few These comes (run_of f (Err e) next) →
    ((question : Question) → IsNearBy dataset few These question → IsNearBy dataset many Those question) →
    ((views : Views) → then (comes views) (λ made then_state. gives (join made done) then_state) ≡ step views done x now) →
    ((views : Views) → through (step views) begun xs state ≡ whole views) →
    Embeds dataset before after first last many Those whole (run_of h (Err e) right)
goes_wrong f h step comes whole join begun done xs i x state now next right e inside at so_far stays one wide stepped all =
    stopped_after f h comes whole e next right so_far.gained stays one (λ d question near. near) (λ d. wide)
    (λ other limit d g.
    none_more (step (of_dataset other)) begun done xs i x state now limit inside at d
    (ap (λ r. then r (λ made then_state. gives (join made done) then_state)) g ∙ stepped (of_dataset other))
    ∙ all (of_dataset other))

pub comes_to_an_end :
    {B X : Type 0} {dataset : List Quad} {before after : Option (List Question)} {first last : ℕ} {many : List (List ℕ)} {Those : Term → Type 0}
    (step : Views → B → X → State → Result B) (whole : Views → Result B) (begun done : B) (xs : List X) (i : ℕ) (state now : State) → i ≡ length xs →
    Embeds dataset before after first last many Those (λ views. through (step views) begun (take i xs) state) (Some (gives done now)) →
    ((views : Views) → through (step views) begun xs state ≡ whole views) →
    Embeds dataset before after first last many Those whole (Some (gives done now))
comes_to_an_end step whole begun done xs i state now end so_far all =
    taken_on (λ views. through (step views) begun (take i xs) state) whole (gives done now) (gives done now) so_far (λ question near. near)
    (λ views e.
    e ∙ ap (λ front. through (step views) begun front state) (ap (λ n. take n xs) end ∙ take-length xs) ∙ all views)

-- what another crate's call taught settles all
pub settled :
    {A B : Type 0} {One : Question → Type 0} {dataset : List Quad} {before after : Option (List Question)} {first last : ℕ}
    {many : List (List ℕ)} {Those : Term → Type 0} {asks : List Quad → A} {found : A} (whole : Views → Result B) (came : Result B) →
    Learns One dataset before after first last asks found →
    (found ≡ asks dataset → (question : Question) → One question → IsNearBy dataset many Those question) →
    ((other : List Quad) → found ≡ asks other → came ≡ whole (of_dataset other)) →
    Embeds dataset before after first last many Those whole (Some came)
settled whole came one wide same = record { gained = learns_map _ (λ other. whole (of_dataset other)) came one wide same }

-- and what is made then without asking
pub known_after :
    {A B : Type 0} {One : Question → Type 0} {dataset : List Quad} {before after : Option (List Question)} {first last : ℕ}
    {many : List (List ℕ)} {Those : Term → Type 0} {asks : List Quad → A} {found : A} (whole : Views → Result B) (made : Option (Result B))
    (known : Result B) → IfSome made (λ r. r ≡ known) → Learns One dataset before after first last asks found →
    (found ≡ asks dataset → (question : Question) → One question → IsNearBy dataset many Those question) →
    ((other : List Quad) → found ≡ asks other → known ≡ whole (of_dataset other)) →
    Embeds dataset before after first last many Those whole made
known_after whole None known run one wide same = record { gained = tt }
known_after whole (Some r) known run one wide same = settled whole r one wide (λ other e. run ∙ same other e)

-- what was made is known by another name
pub as_made :
    {A : Type 0} {dataset : List Quad} {before after : Option (List Question)} {first last : ℕ} {reversed : List (List ℕ)}
    {Is : Term → Type 0} {comes : Views → Result A} (made known : A) (state : State) → made ≡ known →
    Embeds dataset before after first last reversed Is comes (Some (gives known state)) →
    Embeds dataset before after first last reversed Is comes (Some (gives made state))
as_made {dataset = dataset} {before = before} {after = after} {first = first} {last = last} {reversed = reversed} {Is = Is} {comes = comes} made known state same one =
    subst (λ m. Embeds dataset before after first last reversed Is comes (Some (gives m state))) (sym same) one

-- the stop is a limit
pub at_limit :
    {A T : Type 0} {dataset : List Quad} {before after : Option (List Question)} {first last : ℕ} {reversed : List (List ℕ)}
    {Is : Term → Type 0} {comes : Views → Result A} (f : T → A) (e : Stop) (limit : Limit) (state : State) → e ≡ stop.Over limit →
    Embeds dataset before after first last reversed Is comes (run_of f (Err e) state) →
    Embeds dataset before after first last reversed Is comes (Some (over limit))
at_limit {dataset = dataset} {before = before} {after = after} {first = first} {last = last} {reversed = reversed} {Is = Is} {comes = comes} f e limit state is one =
    subst (λ s. Embeds dataset before after first last reversed Is comes (run_of f (Err s) state)) is one
