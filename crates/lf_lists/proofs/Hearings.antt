-- What is heard by several questions, one after the other.
use Rattle.std.proofs.Common.{◌≡◌, refl, sym, ◌∙◌, ap, subst, ℕ, ◌+◌, List, [], ◌∷◌, ◌++◌, length, Option, Some, None, All, arith}
use Rattle.std.proofs.lemmas.List.{append_assoc, append-nil, length-append}
use Rattle.std.proofs.lemmas.List.Elements.{All-nil, All-cons, All-head, All-tail, All-append, All-weaker}
use Rattle.lf_rdf.specs.declared.quad.Quad.{Quad}
use Rattle.lf_rdf.specs.declared.term.Term.{Term}
use Rattle.lf_rdf.specs.declared.question.GraphRef.TheVariants as graph
use Rattle.lf_rdf.specs.declared.question.Question.{Question}
use Rattle.lf_rdf.specs.declared.question.Question.TheVariants as ask
use Rattle.def_datasets.specs.Near.{Near}
use Rattle.def_datasets.specs.Questions.{answer}
use Rattle.def_datasets.proofs.NearProofs.{near_of_near}
use Rattle.lf_oracle.specs.Asking.{Learns, told_with}
use Rattle.lf_lists.specs.Learning.{NearTo}
use Rattle.lf_lists.specs.Hearing.{Hears}

told_nothing : (told : Option (List Question)) → told ≡ told_with [] told
told_nothing None = refl
told_nothing (Some before) = ap Some (sym (append-nil before))

told_twice : (one two : List Question) (told : Option (List Question)) → told_with two (told_with one told) ≡ told_with (one ++ two) told
told_twice one two None = refl
told_twice one two (Some before) = ap Some (append_assoc before one two)

pub first_part : {X : Type 0} (P : X → Type 0) (xs ys : List X) → All P (xs ++ ys) → All P xs
first_part P [] ys all = All-nil P
first_part P (x ∷ xs) ys all = All-cons P x xs (All-head P x (xs ++ ys) all) (first_part P xs ys (All-tail P x (xs ++ ys) all))

pub second_part : {X : Type 0} (P : X → Type 0) (xs ys : List X) → All P (xs ++ ys) → All P ys
second_part P [] ys all = all
second_part P (x ∷ xs) ys all = second_part P xs ys (All-tail P x (xs ++ ys) all)

-- nothing asked: what holds of every dataset
pub unheard : (Near : Question → Type 0) (dataset : List Quad) (told : Option (List Question)) (first : ℕ) (Fact : List Quad → Type 0)
    → ((other : List Quad) → Fact other) → Hears Near dataset told told first first Fact
unheard Near dataset told first Fact always =
    record { asked = []; told = told_nothing told; counted = omega arith; near = All-nil Near; holds = λ other same. always other }

-- what was learnt is heard
pub heard : {A : Type 0} {Near : Question → Type 0} {dataset : List Quad} {before after : Option (List Question)} {first last : ℕ}
    {gives : List Quad → A} {given : A} → Learns Near dataset before after first last gives given
    → Hears Near dataset before after first last (λ other. given ≡ gives other)
heard learnt =
    record { asked = learnt.asked; told = learnt.told; counted = learnt.counted; near = learnt.near; holds = learnt.same }

pub learnt : {A : Type 0} {Near : Question → Type 0} {dataset : List Quad} {before after : Option (List Question)} {first last : ℕ}
    {Fact : List Quad → Type 0} → Hears Near dataset before after first last Fact
    → (gives : List Quad → A) (given : A) → ((other : List Quad) → Fact other → given ≡ gives other)
    → Learns Near dataset before after first last gives given
learnt hears gives given tells =
    record { asked = hears.asked; told = hears.told; counted = hears.counted; near = hears.near; same = λ other same. tells other (hears.holds other same) }

-- another fact that follows, and a wider nearness
pub heard_as : {One Two : Question → Type 0} {dataset : List Quad} {before after : Option (List Question)} {first last : ℕ}
    {Fact Other : List Quad → Type 0} → ((question : Question) → One question → Two question) → ((other : List Quad) → Fact other → Other other)
    → Hears One dataset before after first last Fact → Hears Two dataset before after first last Other
heard_as {One = One} {Two = Two} wider follows hears =
    record {
      asked = hears.asked;
      told = hears.told;
      counted = hears.counted;
      near = All-weaker One Two wider hears.asked hears.near;
      holds = λ other same. follows other (hears.holds other same);
    }

-- one after the other
pub followed : {Near : Question → Type 0} {dataset : List Quad} {before middle after : Option (List Question)} {first between last : ℕ}
    {One Two : List Quad → Type 0} → Hears Near dataset before middle first between One → Hears Near dataset middle after between last Two
    → Hears Near dataset before after first last (λ other. One other × Two other)
followed {Near = Near} {dataset = dataset} {before = before} {after = after} {first = first} {between = between} {last = last} one two =
    let counted_one : between ≡ first + length one.asked = one.counted in
    let counted_two : last ≡ between + length two.asked = two.counted in
    let long : length (one.asked ++ two.asked) ≡ length one.asked + length two.asked = length-append one.asked two.asked in
    record {
      asked = one.asked ++ two.asked;
      told = two.told ∙ (ap (told_with two.asked) one.told ∙ told_twice one.asked two.asked before);
      counted = omega arith;
      near = All-append Near one.asked two.asked one.near two.near;
      holds = λ other same. (
        one.holds other (first_part (λ question. answer other question ≡ answer dataset question) one.asked two.asked same),
        two.holds other (second_part (λ question. answer other question ≡ answer dataset question) one.asked two.asked same),
      );
    }

-- the dataset stays
pub moved : {dataset now : List Quad} {x : Term} {before after : Option (List Question)} {first last : ℕ} {Fact : List Quad → Type 0}
    → now ≡ dataset → Hears (NearTo now x) now before after first last Fact → Hears (NearTo dataset x) dataset before after first last Fact
moved {x = x} {before = before} {after = after} {first = first} {last = last} {Fact = Fact} stays hears =
    subst (λ (d : List Quad). Hears (NearTo d x) d before after first last Fact) stays hears

-- what is near a near term is near
wider_question : (dataset : List Quad) (x y : Term) → Near dataset [] x y → (question : Question) → NearTo dataset y question → NearTo dataset x question
wider_question dataset x y near (ask.Out g subject) far = near_of_near dataset [] x y subject near far
wider_question dataset x y near (ask.OutAny subject) far = near_of_near dataset [] x y subject near far
wider_question dataset x y near (ask.Inward g predicate object) far = near_of_near dataset [] x y object near far
wider_question dataset x y near (ask.InwardAny predicate object) far = near_of_near dataset [] x y object near far
wider_question dataset x y near (ask.Uses object) far = near_of_near dataset [] x y object near far
wider_question dataset x y near (ask.Named name) far = near_of_near dataset [] x y name near far
wider_question dataset x y near (ask.Members graph.Default) far = far
wider_question dataset x y near (ask.Members (graph.Named name)) far = near_of_near dataset [] x y name near far
wider_question dataset x y near (ask.Members graph.Merged) far = far

pub wider : {dataset : List Quad} {x y : Term} {before after : Option (List Question)} {first last : ℕ} {Fact : List Quad → Type 0}
    → Near dataset [] x y → Hears (NearTo dataset y) dataset before after first last Fact → Hears (NearTo dataset x) dataset before after first last Fact
wider {dataset = dataset} {x = x} {y = y} near hears = heard_as (wider_question dataset x y near) (λ other fact. fact) hears

-- what is heard holds of the dataset itself
pub holds_here : {Near : Question → Type 0} {dataset : List Quad} {before after : Option (List Question)} {first last : ℕ}
    {Fact : List Quad → Type 0} → Hears Near dataset before after first last Fact → Fact dataset
holds_here {dataset = dataset} hears = hears.holds dataset (λ place d within. refl)
