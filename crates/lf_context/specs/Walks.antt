-- The terms of a map while they are defined one after another, with those that are being defined on
-- a stack.
use Rattle.std.specs.Prelude.{◌≡◌, ◌<◌, List, [], ◌∷◌, ℕ, ◌+◌, ◌*◌, Bool, Option, Some, None, Result, Ok, Err, ⊤, length, map, reverse}
use Rattle.lf_model.specs.declared.table.TermTable.{TermTable}
use Rattle.lf_model.specs.declared.error.LdError.{LdError}
use Rattle.lf_model.specs.JsonBridge.{json_data}
use Rattle.lf_model.specs.JsonData.{JsonValue, JsonMembers, member}
use Rattle.def_contexts.specs.Outcomes.{◌>>=◌}
use Rattle.def_contexts.specs.Drafts.{Draft, Need}
use Rattle.def_contexts.specs.Defining.{needed, define, define_each, define_terms}
use Rattle.def_contexts.specs.Table.{terms_of}
use Rattle.lf_context.specs.declared.walk.Begun.{Begun}
use Rattle.lf_context.specs.declared.stage.Turn.{Turn}
use Rattle.lf_context.specs.declared.error.ContextErr.{ContextErr}
use Rattle.lf_context.specs.declared.error.ContextErr.TheVariants.{Ld, Memory}
use Rattle.lf_context.specs.Stages.{drafted, resumed, turned, rank, IsFor}
use Rattle.lf_context.specs.Marks.{AreMarked, left}

-- what makes a needed term of the map ready, while some are being defined
abbrev pub need_in : JsonMembers → List (List ℕ) → Need
need_in given beings =
    needed (terms_of given) (define (terms_of given) (length (terms_of given))) beings

abbrev pub names : List Begun → List (List ℕ)
names stack = map (λ (f : Begun). f.name) stack

-- the definitions on a stack are ended one after another, its top first
abbrev pub runs : JsonMembers → List Begun → Draft → Result Draft LdError
runs given [] draft = Ok draft
runs given (f ∷ below) draft =
    resumed f.rest (need_in given (f.name ∷ names below)) f.name (json_data f.value.now) draft >>=
    runs given below

-- what is needed is made ready first
abbrev pub goes : JsonMembers → List Begun → Option (List ℕ) → Draft → Result Draft LdError
goes given stack None draft = runs given stack draft
goes given stack (Some asked) draft = need_in given (names stack) asked draft >>= runs given stack

-- a walk at a moment: its table, its marks, its stack with the top first, and what is needed
pub record Walk : Type 0 where
  pub table : TermTable
  pub marks : List (List ℕ × Bool)
  pub stack : List Begun
  pub asked : Option (List ℕ)

-- a program's stack has its top at the end
abbrev pub walk_at : TermTable → List (List ℕ × Bool) → List Begun → Option (List ℕ) → Walk
walk_at table marks items asked =
    record { table = table; marks = marks; stack = reverse items; asked = asked }

-- the outcome of a walk, where these terms are done
abbrev pub outcome : JsonMembers → Walk → List (List ℕ) → Result Draft LdError
outcome given w done = goes given w.stack w.asked (drafted w.table done)

-- the walk goes on to another moment
abbrev pub GoesOn : JsonMembers → Walk → Walk → Type 0
GoesOn given old new =
    (done : List (List ℕ)) → AreMarked old.marks done (names old.stack)
    →
    (after : List (List ℕ)) × AreMarked new.marks after (names new.stack)
    × (outcome given old done ≡ outcome given new after)

-- the walk ends in an error of the context
abbrev pub EndsIn : JsonMembers → Walk → LdError → Type 0
EndsIn given old e = (done : List (List ℕ)) → AreMarked old.marks done (names old.stack) →
    outcome given old done ≡ Err e

-- ---- what is left to do

-- twice the stages that are left of each definition on the stack, and two
abbrev pub stack_weight : List Begun → ℕ
stack_weight [] = 0
stack_weight (f ∷ below) = rank f.rest + rank f.rest + 2 + stack_weight below

abbrev pub asked_weight : Option (List ℕ) → ℕ
asked_weight None = 0
asked_weight (Some asked) = 1

abbrev pub weight : JsonMembers → Walk → ℕ
weight given w = 16 * left w.marks given + stack_weight w.stack + asked_weight w.asked

-- a step goes on to what is less, or ends in an error
abbrev pub Advances :
    JsonMembers → Walk → (Option (List ℕ) → Walk) → Result (Option (List ℕ)) ContextErr → Type 0
Advances given old new (Ok asked) =
    GoesOn given old (new asked) × (weight given (new asked) < weight given old)
Advances given old new (Err (Ld e)) = EndsIn given old e
Advances given old new (Err Memory) = ⊤

-- a turn of a term that is being defined is taken up
abbrev pub TakesUp : List ℕ → JsonValue → Turn → Walk → Walk → Type 0
TakesUp name value turn old new =
    (given : JsonMembers) (most : ℕ) → IsFor name most turn
    → ((done : List (List ℕ)) → AreMarked old.marks done (name ∷ names old.stack)
    → (after : List (List ℕ)) × AreMarked new.marks after (names new.stack)
    × ((turned turn (need_in given (name ∷ names old.stack)) name value (drafted old.table done) >>= runs given old.stack) ≡ outcome given new after))
    × (weight given new < 16 * left old.marks given + stack_weight old.stack + (most + most + 2))

-- there is something to go on with
abbrev pub IsUnderWay : Option (List ℕ) → List Begun → Type 0
IsUnderWay None stack = 0 < length stack
IsUnderWay (Some asked) stack = ⊤

-- a term is made ready while none is being defined, or can't be
abbrev pub MakesReady :
    JsonMembers → TermTable → List (List ℕ × Bool) → List ℕ → TermTable → List (List ℕ × Bool) →
    Result ⊤ ContextErr → Type 0
MakesReady given old marks name new after (Ok _) =
    (done : List (List ℕ)) → AreMarked marks done []
    →
    (all : List (List ℕ)) × AreMarked after all []
    × (need_in given [] name (drafted old done) ≡ Ok (drafted new all))
MakesReady given old marks name new after (Err (Ld e)) =
    (done : List (List ℕ)) → AreMarked marks done [] →
    need_in given [] name (drafted old done) ≡ Err e
MakesReady given old marks name new after (Err Memory) = ⊤

-- the table is the outcome's, or the error
abbrev pub IsTable : Result TermTable LdError → TermTable → Result ⊤ ContextErr → Type 0
IsTable outcome new (Ok _) = outcome ≡ Ok new
IsTable outcome new (Err (Ld e)) = outcome ≡ Err e
IsTable outcome new (Err Memory) = ⊤

-- the table that the terms of a map make of one
abbrev pub defined_table : JsonMembers → TermTable → Result TermTable LdError
defined_table given table = define_terms (terms_of given) table >>= λ all. Ok all.table

-- how far the terms of a map are defined
abbrev pub IsOnItsWay :
    JsonMembers → TermTable → TermTable → List (List ℕ × Bool) → JsonMembers → Type 0
IsOnItsWay given first now marks rest =
    (all : List (List ℕ)) × AreMarked marks all []
    × (define_each (need_in given []) (terms_of given) (drafted first [])
    ≡ define_each (need_in given []) (terms_of rest) (drafted now all))

-- one member further, or the error of them all
abbrev pub Furthers :
    JsonMembers → TermTable → List (List ℕ × Bool) → List ℕ → TermTable → List (List ℕ × Bool) →
    Result ⊤ ContextErr → Type 0
Furthers given old marks key new after (Ok _) =
    (first : TermTable) (whole rest : JsonMembers) (value : JsonValue) →
    whole ≡ member key value rest
    → IsOnItsWay given first old marks whole → IsOnItsWay given first new after rest
Furthers given old marks key new after (Err e) =
    (first : TermTable) (whole rest : JsonMembers) (value : JsonValue) →
    whole ≡ member key value rest
    → IsOnItsWay given first old marks whole → IsTable (defined_table given first) new (Err e)
