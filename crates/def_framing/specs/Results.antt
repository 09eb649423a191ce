-- What embedding gives: an output and the state after it, or a limit.
use Rattle.std.specs.Prelude.{List, [], ◌∷◌, ◌++◌, ℕ, ◌+◌, Bool, true, false, cond, nat_lt}
use Rattle.std.specs.List.{list_any}
use Rattle.lf_model.specs.declared.document.Limit.{Limit}
use Rattle.lf_model.specs.declared.document.Limit.TheVariants.{TreeItems}
use Rattle.def_framing.specs.Views.{Place, place_eq}

-- the nodes that this tree has embedded already, in order and each once, and how many items were
-- output
pub record State : Type 0 where
  pub embedded : List Place
  pub count : ℕ

pub data Result (A : Type 0) : Type 0 where
  gives : A → State → Result A
  over : Limit → Result A

-- one after another: a limit ends it
abbrev pub then : {A B : Type 0} → Result A → (A → State → Result B) → Result B
then (gives output state) next = next output state
then (over limit) next = over limit

-- one element after another, with what was made so far
abbrev pub through : {A B : Type 0} → (B → A → State → Result B) → B → List A → State → Result B
through step done [] state = gives done state
through step done (first ∷ rest) state =
    then (step done first state) (λ more later. through step more rest later)

-- one of two, by a test
abbrev pub choose : {A : Type 0} → Bool → (State → Result A) → (State → Result A) → State → Result A
choose true one two state = one state
choose false one two state = two state

-- the most items of a tree
abbrev pub item_limit : ℕ
item_limit = 65536

abbrev pub more : Bool → State → Result (Unit {0})
more true state = gives tt (record state { count = state.count + 1 })
more false state = over TreeItems

-- one more item is output; there is no room for item number 65,537
abbrev pub item : State → Result (Unit {0})
item state = more (nat_lt state.count item_limit) state

-- a place is one of these
abbrev pub is_in : List Place → Place → Bool
is_in places place = list_any (place_eq place) places

-- a place joins those that were embedded
abbrev pub entered : Place → State → State
entered place state =
    record state {
      embedded =
          cond (is_in state.embedded place) state.embedded (state.embedded ++ place ∷ []);
    }

-- nothing was embedded, and no item was output
abbrev pub at_first : State
at_first = record { embedded = []; count = 0 }
