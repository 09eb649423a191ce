-- Turns: a frame waits where its published document is older than the newest version and its board
-- isn't away. The next one is that with the oldest document; and what comes of a board that is
-- given back.
use Rattle.std.specs.Prelude.{List, [], ◌∷◌, ℕ, nat_eq, nat_lt, Bool, true, ◌&&◌, not, if◌then◌else◌, Option, Some, None}
use Rattle.std.specs.List.{filter, fold, list_any}
use Rattle.std.specs.Option.{option_cmp}
use Rattle.std.specs.Ordering.{nat_cmp, ordering_then, is_lt}
use Rattle.std.specs.Cmp.Lexicographic.{slice_cmp}
use Rattle.std.specs.declared.cmp.Ordering.{Ordering}
use Rattle.def_histories.specs.declared.live.Live.{Live}
use Rattle.def_histories.specs.declared.operation.Operation.{Operation}
use Rattle.def_histories.specs.declared.operation.Operation.TheVariants.{Publish}
use Rattle.def_histories.specs.History.{commits, live, live_frames}
use Rattle.def_turns.specs.declared.turned.Given.{Given}
use Rattle.def_turns.specs.declared.turned.Given.TheVariants.{Publishes, GoesHome, IsSuperseded}
use Rattle.def_turns.specs.declared.turned.Turned.{Turned}
use Rattle.def_turns.specs.declared.turned.Turned.TheVariants as t

-- ---- who waits

-- a published version is none or below the newest
abbrev pub is_older : ℕ → Option ℕ → Bool
is_older newest None = true
is_older newest (Some version) = nat_lt version newest

-- the board of a frame is away: the texts whose boards are away are told by their numbers
abbrev pub is_away : List ℕ → Live → Bool
is_away away frame = list_any (nat_eq frame.number) away

abbrev pub waits : List ℕ → ℕ → Live → Bool
waits away newest frame = is_older newest frame.published && not (is_away away frame)

-- the live frames that wait, in order of their registrations
abbrev pub waiting : List ℕ → List Operation → List Live
waiting away history = filter (waits away (commits history)) (live_frames history)

-- the texts away that are still live
abbrev pub is_live : List Operation → ℕ → Bool
is_live history number =
    list_any (λ (frame : Live). nat_eq frame.number number) (live_frames history)

abbrev pub still_live : List Operation → List ℕ → List ℕ
still_live history away = filter (is_live history) away

-- ---- who is next

-- the older published version comes first, none before all; among equals the lesser name
abbrev pub turn_cmp : Live → Live → Ordering
turn_cmp one two = ordering_then (option_cmp nat_cmp one.published two.published)
    (slice_cmp nat_cmp one.name two.name)

-- a frame stands before another
abbrev pub is_before : Live → Live → Bool
is_before one two = is_lt (turn_cmp one two)

-- the first so far and one more
abbrev pub first_of : Option Live → Live → Option Live
first_of None frame = Some frame
first_of (Some best) frame = if is_before frame best then Some frame else Some best

-- the first of some frames
abbrev pub first : List Live → Option Live
first frames = fold first_of None frames

-- the frame whose turn is next
abbrev pub next_frame : List ℕ → List Operation → Option Live
next_frame away history = first (waiting away history)

-- ---- what comes of a board that is given back

-- a version is above the published one
abbrev pub is_newer : ℕ → Option ℕ → Bool
is_newer version None = true
is_newer version (Some published) = nat_lt published version

abbrev pub home_or_published : List ℕ → Option ℕ → Option ℕ → Turned
home_or_published name None published = t.Home name None
home_or_published name (Some version) published =
    if is_newer version published then t.Published name version else t.Home name (Some version)

abbrev pub given_to : Option Live → List ℕ → ℕ → Option ℕ → Turned
given_to None name number version = t.Superseded name number None
given_to (Some frame) name number version =
    if nat_eq frame.number number then home_or_published name version frame.published
    else t.Superseded name number (Some frame.number)

-- what comes of the board of a text, which has a version or none, by the history
abbrev pub given_back : List Operation → List ℕ → ℕ → Option ℕ → Turned
given_back history name number version = given_to (live history name) name number version

-- the entry that it makes
abbrev pub entry_of : Turned → List Operation
entry_of t.Idle = []
entry_of (t.Published name version) = Publish name version ∷ []
entry_of (t.Home name version) = []
entry_of (t.Superseded name was now) = []

-- which of the three it is
abbrev pub kind_of : Turned → Given
kind_of t.Idle = GoesHome
kind_of (t.Published name version) = Publishes
kind_of (t.Home name version) = GoesHome
kind_of (t.Superseded name was now) = IsSuperseded
