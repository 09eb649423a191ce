-- Worked turns, which compute.
use Rattle.std.specs.Prelude.{◌≡◌, refl, List, [], ◌∷◌, ℕ, Option, Some, None, codes}
use Rattle.lf_rdf.specs.declared.quad.Patch.{Patch}
use Rattle.def_histories.specs.declared.live.Live.{Live}
use Rattle.def_histories.specs.declared.operation.Operation.{Operation}
use Rattle.def_histories.specs.declared.operation.Operation.TheVariants.{Commit, Register, Retire, Publish}
use Rattle.def_turns.specs.declared.turned.Turned.TheVariants as t
use Rattle.def_turns.specs.Turns.{given_back, next_frame}

abbrev pub a : List ℕ
a = codes "a"

abbrev pub b : List ℕ
b = codes "b"

abbrev pub all : List ℕ
all = codes "{}"

abbrev pub other : List ℕ
other = codes "{\"@type\":\"http://e/T\"}"

abbrev pub nothing : Patch
nothing = record { lines = []; bytes = 0 }

abbrev pub frame : List ℕ → ℕ → Option ℕ → Live
frame name number published =
    record { name = name; number = number; text = all; published = published }

-- two frames, of which the second was published at version 0 and the first not at all; then a
-- commit
abbrev pub two : List Operation
two = Register 1 b all ∷ Register 1 a all ∷ Publish a 0 ∷ Commit 1 nothing ∷ []

-- a frame without a published document comes first, whatever its name
pub unpublished_first : next_frame [] two ≡ Some (frame b 1 None)
unpublished_first = refl

-- where its board is away the other one is next
pub other_next : next_frame (1 ∷ []) two ≡ Some (frame a 2 (Some 0))
other_next = refl

-- among equals the least name decides
pub least_name : next_frame [] (Register 1 b all ∷ Register 1 a all ∷ []) ≡ Some (frame a 2 None)
least_name = refl

-- nobody waits whose document is of the newest version
pub idle : next_frame [] (Register 1 a all ∷ Commit 1 nothing ∷ Publish a 1 ∷ []) ≡ None
idle = refl

-- a board whose text was registered anew in the meantime is superseded, also where its frame has a
-- newer number
pub superseded :
    given_back (Register 1 a all ∷ Commit 1 nothing ∷ Register 1 a other ∷ []) a 1 (Some 1)
    ≡ t.Superseded a 1 (Some 2)
superseded = refl

pub retired : given_back (Register 1 a all ∷ Retire 1 a ∷ []) a 1 (Some 0) ≡ t.Superseded a 1 None
retired = refl

-- it is published under its own version, also where that isn't the newest
pub own_version :
    given_back (Register 1 a all ∷ Commit 1 nothing ∷ Commit 1 nothing ∷ []) a 1 (Some 1)
    ≡ t.Published a 1
own_version = refl

-- and not where one as new is published already
pub at_home :
    given_back (Register 1 a all ∷ Commit 1 nothing ∷ Publish a 1 ∷ []) a 1 (Some 1)
    ≡ t.Home a (Some 1)
at_home = refl

pub unturned : given_back (Register 1 a all ∷ []) a 1 None ≡ t.Home a None
unturned = refl
