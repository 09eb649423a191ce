-- What is learnt by several calls, one after another.
use Rattle.std.proofs.Common.{◌≡◌, ℕ, zero, suc, ◌+◌, ◌<◌, Bool, true, false, ◌&&◌, ◌||◌, List, [], ◌∷◌, ◌++◌, length, take, Option, Some, None, All, get_or, refl, sym, subst, ◌∙◌, ap, arith, append_assoc, length-append}
use Rattle.std.specs.List.{list_all, list_any}
use Rattle.std.proofs.Math.Seq.{take-length}
use Rattle.std.proofs.lemmas.List.{append-nil}
use Rattle.std.proofs.lemmas.List.Folds.{list_all_more, list_any_at, list_any_more}
use Rattle.std.proofs.lemmas.List.Elements.{All-append, All-cons, All-head, All-nil, All-tail}
use Rattle.lf_rdf.specs.declared.quad.Quad.{Quad}
use Rattle.lf_rdf.specs.declared.question.Question.{Question}
use Rattle.def_datasets.specs.Questions.{answer}
use Rattle.lf_oracle.specs.Asking.{Learns, SameAnswers, told_with}

none_told : (before : Option (List Question)) → before ≡ told_with [] before
none_told None = refl
none_told (Some asked) = ap Some (sym (append-nil asked))

both_told :
    (one two : List Question) (before : Option (List Question)) →
    told_with two (told_with one before) ≡ told_with (one ++ two) before
both_told one two None = refl
both_told one two (Some asked) = ap Some (append_assoc asked one two)

-- what holds of all of two lists holds of each
front_all : {X : Type 0} (P : X → Type 0) (xs ys : List X) → All P (xs ++ ys) → All P xs
front_all P [] ys both = All-nil P
front_all P (x ∷ xs) ys both =
    All-cons P x xs (All-head P x (xs ++ ys) both) (front_all P xs ys (All-tail P x (xs ++ ys) both))

rest_all : {X : Type 0} (P : X → Type 0) (xs ys : List X) → All P (xs ++ ys) → All P ys
rest_all P [] ys both = both
rest_all P (x ∷ xs) ys both = rest_all P xs ys (All-tail P x (xs ++ ys) both)

-- one who asks nothing learns what every dataset gives
pub learns_nothing :
    {A : Type 0} (Near : Question → Type 0) (dataset : List Quad) (told : Option (List Question)) (steps : ℕ)
    (gives : List Quad → A) (given : A) → ((other : List Quad) → given ≡ gives other) →
    Learns Near dataset told told steps steps gives given
learns_nothing Near dataset told steps gives given same =
    record {
      asked = [];
      told = none_told told;
      counted = omega arith;
      near = All-nil Near;
      same = λ other alike. same other;
    }

-- what one call learnt, taken on to what follows from it
pub learns_map :
    {A B : Type 0} {Inner : Question → Type 0} {dataset : List Quad} {before after : Option (List Question)} {first last : ℕ}
    {gives : List Quad → A} {given : A} (Near : Question → Type 0) (comes : List Quad → B) (came : B) →
    Learns Inner dataset before after first last gives given →
    (given ≡ gives dataset → (question : Question) → Inner question → Near question) →
    ((other : List Quad) → given ≡ gives other → came ≡ comes other) →
    Learns Near dataset before after first last comes came
learns_map Near comes came learnt wider follows =
    record {
      asked = learnt.asked;
      told = learnt.told;
      counted = learnt.counted;
      near = λ place d within. wider (learnt.same _ (λ k e inside. refl)) _ (learnt.near place d within);
      same = λ other alike. follows other (learnt.same other alike);
    }

-- what two calls learnt, one after the other
pub learns_both :
    {A B C : Type 0} {One Two : Question → Type 0} {dataset : List Quad} {before middle after : Option (List Question)}
    {first second last : ℕ} {gives : List Quad → A} {given : A} {gives_then : List Quad → B} {given_then : B}
    (Near : Question → Type 0) (comes : List Quad → C) (came : C) →
    Learns One dataset before middle first second gives given →
    Learns Two dataset middle after second last gives_then given_then →
    (given ≡ gives dataset → (question : Question) → One question → Near question) →
    (given ≡ gives dataset → given_then ≡ gives_then dataset → (question : Question) → Two question → Near question) →
    ((other : List Quad) → given ≡ gives other → given_then ≡ gives_then other → came ≡ comes other) →
    Learns Near dataset before after first last comes came
learns_both {dataset = dataset} {before = before} Near comes came one two wide_one wide_two follows =
    let here = one.same dataset (λ k e inside. refl) in
    let there = two.same dataset (λ k e inside. refl) in
    record {
      asked = one.asked ++ two.asked;
      told = two.told ∙ ap (told_with two.asked) one.told ∙ both_told one.asked two.asked before;
      counted = omega (arith, one.counted, two.counted, length-append one.asked two.asked);
      near =
          All-append Near one.asked two.asked (λ k e inside. wide_one here _ (one.near k e inside))
          (λ k e inside. wide_two here there _ (two.near k e inside));
      same = λ other alike.
          follows other (one.same other (front_all (λ question. answer other question ≡ answer dataset question) one.asked two.asked alike))
          (two.same other (rest_all (λ question. answer other question ≡ answer dataset question) one.asked two.asked alike));
    }

-- the same where the second call's clause speaks of the dataset by another name
pub learns_then :
    {A B C : Type 0} {One : Question → Type 0} {dataset later : List Quad} {before middle after : Option (List Question)}
    {first second last : ℕ} {gives : List Quad → A} {given : A} {gives_then : List Quad → B} {given_then : B}
    (Two : List Quad → Question → Type 0) (Near : Question → Type 0) (comes : List Quad → C) (came : C) →
    Learns One dataset before middle first second gives given → later ≡ dataset →
    Learns (Two later) later middle after second last gives_then given_then →
    (given ≡ gives dataset → (question : Question) → One question → Near question) →
    (given ≡ gives dataset → given_then ≡ gives_then dataset → (question : Question) → Two dataset question → Near question) →
    ((other : List Quad) → given ≡ gives other → given_then ≡ gives_then other → came ≡ comes other) →
    Learns Near dataset before after first last comes came
learns_then {middle = middle} {after = after} {second = second} {last = last} {gives_then = gives_then} {given_then = given_then} Two Near comes came one stays two wide_one wide_two follows =
    learns_both Near comes came one (subst (λ d. Learns (Two d) d middle after second last gives_then given_then) stays two)
    wide_one wide_two follows

-- none of the first values of a list passes a test that is learnt, nor does the next
pub any_more :
    {A : Type 0} {dataset later : List Quad} {before middle after : Option (List Question)} {first second last : ℕ}
    (Two : List Quad → Question → Type 0) (Near : Question → Type 0) (test : List Quad → A → Bool) (xs : List A) (i : ℕ) (x : A) →
    i < length xs → x ≡ get_or xs i x →
    Learns Near dataset before middle first second (λ d. list_any (test d) (take i xs)) false → later ≡ dataset →
    Learns (Two later) later middle after second last (λ d. test d x) false →
    ((question : Question) → Two dataset question → Near question) →
    Learns Near dataset before after first last (λ d. list_any (test d) (take (i + 1) xs)) false
any_more Two Near test xs i x inside at so_far stays one wide =
    learns_then Two Near (λ d. list_any (test d) (take (i + 1) xs)) false so_far stays one (λ e question near. near) (λ e f. wide)
    (λ other none here. sym (list_any_more (test other) xs i x inside ∙ neither other none (subst (λ y. false ≡ test other y) at here)))
  where
    neither : (other : List Quad) → false ≡ list_any (test other) (take i xs) → false ≡ test other (get_or xs i x) → (list_any (test other) (take i xs) || test other (get_or xs i x)) ≡ false
    neither other none here = rw (sym none, sym here) refl

-- the next value of a list passes the test
pub any_found :
    {A : Type 0} {dataset later : List Quad} {before middle after : Option (List Question)} {first second last : ℕ}
    (Two : List Quad → Question → Type 0) (Near : Question → Type 0) (test : List Quad → A → Bool) (xs : List A) (i : ℕ) (x : A) →
    i < length xs → x ≡ get_or xs i x →
    Learns Near dataset before middle first second (λ d. list_any (test d) (take i xs)) false → later ≡ dataset →
    Learns (Two later) later middle after second last (λ d. test d x) true →
    ((question : Question) → Two dataset question → Near question) →
    Learns Near dataset before after first last (λ d. list_any (test d) xs) true
any_found Two Near test xs i x inside at so_far stays one wide =
    learns_then Two Near (λ d. list_any (test d) xs) true so_far stays one (λ e question near. near) (λ e f. wide)
    (λ other none here. sym (list_any_at (test other) xs i x inside (sym (subst (λ y. true ≡ test other y) at here))))

-- no value of a list passes the test
pub any_none :
    {A : Type 0} {dataset : List Quad} {before after : Option (List Question)} {first last : ℕ} (Near : Question → Type 0)
    (test : List Quad → A → Bool) (xs : List A) (i : ℕ) → i ≡ length xs →
    Learns Near dataset before after first last (λ d. list_any (test d) (take i xs)) false →
    Learns Near dataset before after first last (λ d. list_any (test d) xs) false
any_none Near test xs i end so_far =
    learns_map Near (λ d. list_any (test d) xs) false so_far (λ e question near. near)
    (λ other none. none ∙ ap (λ front. list_any (test other) front) (ap (λ n. take n xs) end ∙ take-length xs))

-- the first values of a list pass a test that is learnt, and so does the next
pub all_more :
    {A : Type 0} {dataset later : List Quad} {before middle after : Option (List Question)} {first second last : ℕ}
    (Two : List Quad → Question → Type 0) (Near : Question → Type 0) (test : List Quad → A → Bool) (xs : List A) (i : ℕ) (x : A) →
    i < length xs → x ≡ get_or xs i x →
    Learns Near dataset before middle first second (λ d. list_all (test d) (take i xs)) true → later ≡ dataset →
    Learns (Two later) later middle after second last (λ d. test d x) true →
    ((question : Question) → Two dataset question → Near question) →
    Learns Near dataset before after first last (λ d. list_all (test d) (take (i + 1) xs)) true
all_more Two Near test xs i x inside at so_far stays one wide =
    learns_then Two Near (λ d. list_all (test d) (take (i + 1) xs)) true so_far stays one (λ e question near. near) (λ e f. wide)
    (λ other held here. sym (list_all_more (test other) xs i x inside ∙ both other held (subst (λ y. true ≡ test other y) at here)))
  where
    both : (other : List Quad) → true ≡ list_all (test other) (take i xs) → true ≡ test other (get_or xs i x) → (list_all (test other) (take i xs) && test other (get_or xs i x)) ≡ true
    both other held here = rw (sym held, sym here) refl

-- the next value of a list doesn't pass the test
pub all_failed :
    {A : Type 0} {dataset later : List Quad} {before middle after : Option (List Question)} {first second last : ℕ}
    (Two : List Quad → Question → Type 0) (Near : Question → Type 0) (test : List Quad → A → Bool) (xs : List A) (i : ℕ) (x : A) →
    i < length xs → x ≡ get_or xs i x →
    Learns Near dataset before middle first second (λ d. list_all (test d) (take i xs)) true → later ≡ dataset →
    Learns (Two later) later middle after second last (λ d. test d x) false →
    ((question : Question) → Two dataset question → Near question) →
    Learns Near dataset before after first last (λ d. list_all (test d) xs) false
all_failed {A} Two Near test xs i x inside at so_far stays one wide =
    learns_then Two Near (λ d. list_all (test d) xs) false so_far stays one (λ e question near. near) (λ e f. wide)
    (λ other held here. sym (fails (test other) xs i inside (sym (subst (λ y. false ≡ test other y) at here))))
  where
    second_false : (one : Bool) → (one && false) ≡ false
    second_false true = refl
    second_false false = refl

    fails : (p : A → Bool) (ys : List A) (k : ℕ) → k < length ys → p (get_or ys k x) ≡ false → list_all p ys ≡ false
    fails p [] k within e = absurd (omega arith)
    fails p (y ∷ ys) zero within e = rw e refl
    fails p (y ∷ ys) (suc k) within e = rw (fails p ys k (omega arith) e) (second_false (p y))

-- all values of a list pass the test
pub all_held :
    {A : Type 0} {dataset : List Quad} {before after : Option (List Question)} {first last : ℕ} (Near : Question → Type 0)
    (test : List Quad → A → Bool) (xs : List A) (i : ℕ) → i ≡ length xs →
    Learns Near dataset before after first last (λ d. list_all (test d) (take i xs)) true →
    Learns Near dataset before after first last (λ d. list_all (test d) xs) true
all_held Near test xs i end so_far =
    learns_map Near (λ d. list_all (test d) xs) true so_far (λ e question near. near)
    (λ other held. held ∙ ap (λ front. list_all (test other) front) (ap (λ n. take n xs) end ∙ take-length xs))

-- what was learnt, where what was given is known by another name
pub learns_as :
    {A : Type 0} {Near : Question → Type 0} {dataset : List Quad} {before after : Option (List Question)} {first last : ℕ}
    {gives : List Quad → A} {given other : A} → given ≡ other → Learns Near dataset before after first last gives given →
    Learns Near dataset before after first last gives other
learns_as {Near = Near} {dataset = dataset} {before = before} {after = after} {first = first} {last = last} {gives = gives} same learnt =
    subst (λ b. Learns Near dataset before after first last gives b) same learnt
