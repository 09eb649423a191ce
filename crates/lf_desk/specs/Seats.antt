-- Seats: each operation but a publication tells the number of the seat that made it.
use Rattle.std.specs.Prelude.{◌≡◌, List, [], ◌++◌, ℕ, nat_eq, Bool, true, false, ◌||◌}
use Rattle.std.specs.List.{filter}
use Rattle.def_histories.specs.declared.operation.Operation.{Operation}
use Rattle.def_histories.specs.declared.operation.Operation.TheVariants.{Commit, Register, Retire, Publish}

-- the seat made the entry
abbrev pub is_of_seat : ℕ → Operation → Bool
is_of_seat seat (Commit by patch) = nat_eq by seat
is_of_seat seat (Register by name text) = nat_eq by seat
is_of_seat seat (Retire by name) = nat_eq by seat
is_of_seat seat (Publish name version) = false

-- the entry is a publication, which has no seat's number
abbrev pub is_publication : Operation → Bool
is_publication (Publish name version) = true
is_publication (Commit by patch) = false
is_publication (Register by name text) = false
is_publication (Retire by name) = false

-- the entry is one that a call of the seat may make: its own, or a publication
abbrev pub is_made_by : ℕ → Operation → Bool
is_made_by seat entry = is_of_seat seat entry || is_publication entry

-- the seat's own operations, in order
abbrev pub own : ℕ → List Operation → List Operation
own seat history = filter (is_of_seat seat) history

-- A history goes on by entries of others, publications among them. With a seat that is alone there
-- are none.
pub record IsExtended (alone : Bool) (seat : ℕ) (before after : List Operation) : Type 0 where
  pub more : List Operation
  pub follows : after ≡ before ++ more
  pub others : own seat more ≡ []
  pub lone : alone ≡ true → more ≡ []
