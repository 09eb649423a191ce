-- What holds of turns.
use Rattle.std.specs.Prelude.{◌≡◌, ◌≤◌, ◌++◌, List, [], ℕ, Bool, not, IsTrue, Option, Some, None}
use Rattle.std.specs.List.{list_all}
use Rattle.def_histories.specs.declared.live.Live.{Live}
use Rattle.def_histories.specs.declared.operation.Operation.{Operation}
use Rattle.def_histories.specs.History.{commits}
use Rattle.def_histories.specs.Legal.{IsLegal}
use Rattle.def_turns.specs.Turns.{entry_of, given_back, is_before, next_frame, waiting}

-- the frame that is next is one of those that wait, and none of these stands before it
abbrev pub NextIsFirst : Type 0
NextIsFirst =
    (away : List ℕ) (history : List Operation) (frame : Live) → next_frame away history ≡ Some frame
    → ((test : Live → Bool) → IsTrue (list_all test (waiting away history)) → IsTrue (test frame))
    × IsTrue (list_all (λ other. not (is_before other frame)) (waiting away history))

-- no frame is next where none waits, and only there
abbrev pub NobodyWaits : Type 0
NobodyWaits =
    (away : List ℕ) (history : List Operation)
    →
    (waiting away history ≡ [] → next_frame away history ≡ None)
    × (next_frame away history ≡ None → waiting away history ≡ [])

-- a board whose version is at most the newest may be given back: the history with what that adds is
-- legal
abbrev pub GivenBackIsAllowed : Type 0
GivenBackIsAllowed =
    (accepts : List ℕ → Bool) (history : List Operation) (name : List ℕ) (number : ℕ)
    (version : Option ℕ)
    → IsLegal accepts history → ((reached : ℕ) → version ≡ Some reached → reached ≤ commits history)
    → IsLegal accepts (history ++ entry_of (given_back history name number version))
