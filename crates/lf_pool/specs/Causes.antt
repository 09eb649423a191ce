-- What the answers of a turn show: why a board that was turned isn't published, and what a turn of
-- a seat that is alone does.
use Rattle.std.specs.Prelude.{◌≡◌, ◌≢◌, ◌≤◌, List, [], ◌∷◌, ◌++◌, ℕ, Bool, true, false, not, IsTrue, Option, Some, None, Result, Ok, Err}
use Rattle.std.specs.List.{list_any}
use Rattle.std.specs.Option.{option_map}
use Rattle.lf_base.specs.declared.memory.Memory.{Memory}
use Rattle.lf_rdf.specs.Equality.{text_eq}
use Rattle.def_histories.specs.declared.live.Live.{Live}
use Rattle.def_histories.specs.declared.operation.Operation.{Operation}
use Rattle.def_histories.specs.declared.operation.Operation.TheVariants.{Commit, Register, Retire, Publish}
use Rattle.def_histories.specs.History.{commits, live}
use Rattle.def_histories.specs.HistoryLaws.{keeps}
use Rattle.def_turns.specs.declared.turned.Turned.{Turned}
use Rattle.def_turns.specs.declared.turned.Turned.TheVariants as t
use Rattle.def_turns.specs.Turns.{given_back, is_newer, next_frame}
use Rattle.lf_pool.specs.OneTurn.{IsTurn}

-- an entry publishes a document of the name
abbrev pub publishes : List ℕ → Operation → Bool
publishes name (Commit seat patch) = false
publishes name (Register seat other text) = false
publishes name (Retire seat other) = false
publishes name (Publish other version) = text_eq name other

-- an entry registers the name anew or retires it
abbrev pub ends : List ℕ → Operation → Bool
ends name entry = not (keeps name entry)

-- a history goes on by entries of which one passes a test
pub record HasNew (test : Operation → Bool) (before after : List Operation) : Type 0 where
  pub fresh : List Operation
  pub follows : after ≡ before ++ fresh
  pub among : IsTrue (list_any test fresh)

-- a published document is the last entry
abbrev pub PublishedStandsLast : Type 0
PublishedStandsLast =
    (alone : Bool) (seat : ℕ) (before after : List Operation) (away away_after : List ℕ)
    (taken taken_after : Option (List ℕ))
    (name : List ℕ) (version : ℕ)
    →
    IsTurn alone seat before after away away_after taken taken_after
    (Ok (t.Published name version))
    → (earlier : List Operation) × (after ≡ earlier ++ Publish name version ∷ [])

-- a board that was turned stays at home only where a document of its frame was published in the
-- meantime
abbrev pub HomeWasPublished : Type 0
HomeWasPublished =
    (alone : Bool) (seat : ℕ) (before after : List Operation) (away away_after : List ℕ)
    (taken taken_after : Option (List ℕ))
    (name : List ℕ) (version : Option ℕ)
    → IsTurn alone seat before after away away_after taken taken_after (Ok (t.Home name version))
    → HasNew (publishes name) before after

-- the number of a text that is live
abbrev pub number_of : Option Live → Option ℕ
number_of frame = option_map (λ (live : Live). live.number) frame

-- A board is superseded only where its name was registered anew or retired in the meantime. The
-- number that is live now is told, and it isn't the one that the board has.
abbrev pub SupersededWasChanged : Type 0
SupersededWasChanged =
    (alone : Bool) (seat : ℕ) (before after : List Operation) (away away_after : List ℕ)
    (taken taken_after : Option (List ℕ))
    (name : List ℕ) (was : ℕ) (now : Option ℕ)
    →
    IsTurn alone seat before after away away_after taken taken_after
    (Ok (t.Superseded name was now))
    → HasNew (ends name) before after × (now ≡ number_of (live after name)) × (now ≢ Some was)

-- a board of a version that is newer than the published one of its live text is published under its
-- own version
abbrev pub NewerIsPublished : Type 0
NewerIsPublished =
    (history : List Operation) (name : List ℕ) (number version : ℕ) (frame : Live)
    → live history name ≡ Some frame → frame.number ≡ number →
    IsTrue (is_newer version frame.published)
    → given_back history name number (Some version) ≡ t.Published name version

-- What a turn of a seat that is alone does. It is idle only where no frame waits. Else it publishes
-- the frame that is next, at the newest version or at an older one that is newer than what is
-- published; or no memory was found, and nothing is new.
abbrev pub LoneTurn : List Operation → List Operation → List ℕ → Result Turned Memory → Type 0
LoneTurn before after away (Ok t.Idle) = (after ≡ before) × (next_frame away before ≡ None)
LoneTurn before after away (Ok (t.Published name version)) =
    (frame : Live) × (next_frame away before ≡ Some frame) × (live before name ≡ Some frame)
    × (version ≤ commits before)
    × IsTrue (is_newer version frame.published) × (after ≡ before ++ Publish name version ∷ [])
LoneTurn before after away (Ok (t.Home name version)) = ⊥
LoneTurn before after away (Ok (t.Superseded name was now)) = ⊥
LoneTurn before after away (Err refused) = after ≡ before

-- and no board is away after it that wasn't before
abbrev pub LoneTurnsPublish : Type 0
LoneTurnsPublish =
    (seat : ℕ) (before after : List Operation) (away away_after : List ℕ)
    (taken taken_after : Option (List ℕ))
    (result : Result Turned Memory)
    → IsTurn true seat before after away away_after taken taken_after result
    → LoneTurn before after away result × (away_after ≡ away)
