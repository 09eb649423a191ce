-- What results add to the count: the items of their output, within the limit.
use Rattle.std.proofs.Common.{◌≡◌, ℕ, ◌+◌, ◌<◌, ◌≤◌, Bool, true, false, nat_lt, List, [], ◌∷◌, refl, arith, ltb-true}
use Rattle.def_framing.specs.Results.{State, Result, gives, over, then, through, choose, item, more, item_limit, entered}
use Rattle.def_framing.specs.Views.{Place}

-- between two states so many items were output, within the limit
pub record Rises (before : State) (size : ℕ) (after : State) : Type 0 where
  pub count : after.count ≡ before.count + size
  pub within : before.count ≤ item_limit → after.count ≤ item_limit

-- a result's output has the items that were output since a state
abbrev pub Adds : {A : Type 0} → (A → ℕ) → State → Result A → Type 0
Adds size before (gives made after) = Rises before (size made) after
Adds size before (over limit) = Unit {0}

pub rises_none : (state : State) → Rises state 0 state
rises_none state = record { count = omega arith; within = λ fits. fits }

pub rises_then :
    (first second third : State) (one two : ℕ) → Rises first one second → Rises second two third →
    Rises first (one + two) third
rises_then first second third one two h k =
    let a : second.count ≡ first.count + one = h.count in
    let b : third.count ≡ second.count + two = k.count in
    record { count = omega arith; within = λ fits. k.within (h.within fits) }

-- the same, by a total that is the sum
pub rises_to :
    (first second third : State) (one two total : ℕ) → total ≡ one + two → Rises first one second →
    Rises second two third → Rises first total third
rises_to first second third one two total sum h k =
    let a : second.count ≡ first.count + one = h.count in
    let b : third.count ≡ second.count + two = k.count in
    record { count = omega arith; within = λ fits. k.within (h.within fits) }

pub then_adds :
    {A B : Type 0} (part : A → ℕ) (size : B → ℕ) (base before : State) (first : Result A)
    (next : A → State → Result B) → Adds part before first →
    ((made : A) (after : State) → Rises before (part made) after → Adds size base (next made after)) →
    Adds size base (then first next)
then_adds part size base before (gives made after) next h k = k made after h
then_adds part size base before (over limit) next h k = tt

pub through_adds :
    {A B : Type 0} (size : B → ℕ) (base : State) (step : B → A → State → Result B) →
    ((done : B) (one : A) (before : State) → Rises base (size done) before → Adds size base (step done one before)) →
    (rest : List A) (done : B) (before : State) → Rises base (size done) before →
    Adds size base (through step done rest before)
through_adds size base step each [] done before h = h
through_adds size base step each (one ∷ rest) done before h =
    then_adds size size base base (step done one before) (λ more later. through step more rest later)
    (each done one before h) (λ made after k. through_adds size base step each rest made after k)

pub choose_adds :
    {A : Type 0} (size : A → ℕ) (base before : State) (test : Bool) (one two : State → Result A) →
    (test ≡ true → Adds size base (one before)) → Adds size base (two before) →
    Adds size base (choose test one two before)
choose_adds size base before true one two h k = h refl
choose_adds size base before false one two h k = k

-- one more item
pub item_adds : (before : State) → Adds (λ counted. 1) before (item before)
item_adds before = counted (nat_lt before.count item_limit) refl
  where
    counted :
        (test : Bool) → nat_lt before.count item_limit ≡ test → Adds (λ counted. 1) before (more test before)
    counted true e =
        let room : before.count < item_limit = ltb-true before.count item_limit e in
        record { count = refl; within = λ fits. omega arith }
    counted false e = tt

-- what was embedded doesn't count
pub rises_entered :
    (before after : State) (size : ℕ) (place : Place) → Rises before size after →
    Rises before size (entered place after)
rises_entered before after size place h = record { count = h.count; within = h.within }
