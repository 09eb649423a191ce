-- A turn of a seat that is alone.
use Rattle.std.proofs.Common.{◌≡◌, ◌⊎◌, inl, inr, refl, sym, ◌∙◌, ap, ◌+◌, ℕ, nat_eq, List, [], ◌∷◌, ◌++◌, length, length-append, Bool, true, false, cond, Option, Some, None, Ok, Err, Result, arith}
use Rattle.std.proofs.lemmas.Bool.{eq-eqb, false≢true}
use Rattle.std.proofs.lemmas.List.{append-nil}
use Rattle.std.specs.List.{list_any}
use Rattle.lf_base.specs.declared.memory.Memory.{Memory}
use Rattle.def_histories.specs.declared.live.Live.{Live}
use Rattle.def_histories.specs.declared.operation.Operation.{Operation}
use Rattle.def_histories.specs.declared.operation.Operation.TheVariants.{Publish}
use Rattle.def_histories.specs.History.{live}
use Rattle.def_histories.specs.Legal.{IsLegal}
use Rattle.def_turns.specs.declared.turned.Given.TheVariants as kind
use Rattle.def_turns.specs.declared.turned.Turned.{Turned}
use Rattle.def_turns.specs.declared.turned.Turned.TheVariants as t
use Rattle.def_turns.specs.Turns.{first, given_back, given_to, home_or_published, is_newer, kind_of, next_frame}
use Rattle.lf_frames.specs.FrameTexts.{is_frame}
use Rattle.lf_desk.specs.Rotas.{board_number}
use Rattle.lf_desk.specs.Seats.{IsExtended}
use Rattle.lf_pool.specs.OneTurn.{IsMade}
use Rattle.lf_pool.specs.Causes.{HasNew, LoneTurn, LoneTurnsPublish, ends, publishes}
use Rattle.lf_pool.proofs.Answering.{given_name, home_was_published, name_of, superseded_was_changed}

-- nothing is new in the history of a seat that is alone
pub same : (seat : ℕ) (before after : List Operation) → IsExtended true seat before after → after ≡ before
same seat before after went =
    went.follows ∙ (ap (λ (w : List Operation). before ++ w) (went.lone refl) ∙ append-nil before)

empty_end : (earlier later : List Operation) → earlier ≡ earlier ++ later → later ≡ []
empty_end earlier later e = go later (ap length e ∙ length-append earlier later)
  where
    go : (rest : List Operation) → length earlier ≡ length earlier + length rest → rest ≡ []
    go [] is = refl
    go (entry ∷ rest) is = absurd (omega (arith, is))

nothing_new : (test : Operation → Bool) (before after : List Operation) → after ≡ before → HasNew test before after → ⊥
nothing_new test before after is new =
    false≢true (ap (list_any test) (sym (empty_end before new.fresh (sym is ∙ new.follows))) ∙ new.among)

-- ---- what was published

abbrev version_of : Turned → ℕ
version_of t.Idle = 0
version_of (t.Published name version) = version
version_of (t.Home name version) = 0
version_of (t.Superseded name was now) = 0

abbrev is_publication : Turned → Bool
is_publication t.Idle = false
is_publication (t.Published name version) = true
is_publication (t.Home name version) = false
is_publication (t.Superseded name was now) = false

-- a publication is of a version that is newer than the published one
newer_at : (name board : List ℕ) (version reached : ℕ) (published : Option ℕ) (b : Bool) → is_newer reached published ≡ b
    → t.Published name version ≡ cond b (t.Published board reached) (t.Home board (Some reached)) → is_newer version published ≡ true
newer_at name board version reached published true newer e = ap (λ (n : ℕ). is_newer n published) (ap version_of e) ∙ newer
newer_at name board version reached published false newer e = absurd (false≢true (sym (ap is_publication e)))

newer : (name board : List ℕ) (version : ℕ) (reached published : Option ℕ) → t.Published name version ≡ home_or_published board reached published
    → is_newer version published ≡ true
newer name board version None published e = absurd (false≢true (sym (ap is_publication e)))
newer name board version (Some reached) published e = newer_at name board version reached published (is_newer reached published) refl e

-- a board of a live text is published or at home
of_live : (history : List Operation) (board : List ℕ) (number : ℕ) (version : Option ℕ) (frame : Live) → live history board ≡ Some frame
    → number ≡ frame.number → given_back history board number version ≡ home_or_published board version frame.published
of_live history board number version frame is_live same_number =
    ap (λ (found : Option Live). given_to found board number version) is_live ∙ at_frame
  where
    numbered : nat_eq frame.number number ≡ true
    numbered = eq-eqb frame.number number (sym same_number)

    at_frame : given_to (Some frame) board number version ≡ home_or_published board version frame.published
    at_frame = rw numbered refl

abbrev Publishes : List Operation → List Operation → List ℕ → List ℕ → ℕ → Type 0
Publishes before after away name version = LoneTurn before after away (Ok (t.Published name version))

-- the board of the next frame was published, by the history that is the same all along
published_by : (before after : List Operation) (away : List ℕ) (board : List ℕ) (number : ℕ) (reached : Option ℕ) (frame : Live)
    (name : List ℕ) (version : ℕ)
    → next_frame away before ≡ Some frame → live before board ≡ Some frame → number ≡ frame.number → IsLegal is_frame after
    → after ≡ before ++ Publish name version ∷ [] → t.Published name version ≡ given_back before board number reached
    → Publishes before after away name version
published_by before after away board number reached frame name version next is_live same_number legal entered e = (
  frame,
  next,
  ap (live before) (ap name_of e ∙ given_name (live before board) board number reached) ∙ is_live,
  (legal before (Publish name version) [] entered).0,
  newer name board version reached frame.published (e ∙ of_live before board number reached frame is_live same_number),
  entered,
)

-- ---- the answers

made_publishes : (seat : ℕ) (before after : List Operation) (away away_after : List ℕ) (taken taken_after : Option (List ℕ))
    (name : List ℕ) (version : ℕ)
    → IsMade true seat before after away away_after taken taken_after (Ok (t.Published name version))
    → Publishes before after away name version
made_publishes seat before after away away_after taken taken_after name version made = go made.given.answer.1
  where
    taken_same : made.taken_at ≡ before
    taken_same = same seat before made.taken_at made.came

    given_same : made.given.given_at ≡ before
    given_same = same seat made.taken_at made.given.given_at made.given.went ∙ taken_same

    next : next_frame away before ≡ Some made.is.frame
    next =
        (λ i. next_frame (sym (made.is.lone refl) i) (sym taken_same i)) ∙ made.is.next

    is_live : live before made.job.name ≡ Some made.is.frame
    is_live = ap (λ (h : List Operation). live h made.job.name) (sym taken_same) ∙ made.is.live

    entered : after ≡ before ++ Publish name version ∷ []
    entered = made.given.answer.0 ∙ ap (λ (h : List Operation). h ++ Publish name version ∷ []) given_same

    by : (reached : Option ℕ) → t.Published name version ≡ given_back made.given.given_at made.job.name made.job.number reached
        → Publishes before after away name version
    by reached e =
        published_by before after away made.job.name made.job.number reached made.is.frame name version next is_live made.is.number
        made.given.legal entered (e ∙ ap (λ (h : List Operation). given_back h made.job.name made.job.number reached) given_same)

    go : (t.Published name version ≡ given_back made.given.given_at made.job.name made.job.number (Some (length made.job.target)))
        ⊎ ((t.Published name version ≡ given_back made.given.given_at made.job.name made.job.number (board_number made.job.board))
        × (kind_of (t.Published name version) ≡ kind.Publishes))
        → Publishes before after away name version
    go (inl e) = by (Some (length made.job.target)) e
    go (inr (e, published)) = by (board_number made.job.board) e

-- the history stays where the given board makes no entry
made_stays : (seat : ℕ) (before after : List Operation) (away away_after : List ℕ) (taken taken_after : Option (List ℕ))
    (result : Result Turned Memory) → (made : IsMade true seat before after away away_after taken taken_after result)
    → after ≡ made.given.given_at → after ≡ before
made_stays seat before after away away_after taken taken_after result made stays =
    stays ∙ (same seat made.taken_at made.given.given_at made.given.went ∙ same seat before made.taken_at made.came)

-- and no other board is away
made_away : (seat : ℕ) (before after : List Operation) (away away_after : List ℕ) (taken taken_after : Option (List ℕ))
    (result : Result Turned Memory) → IsMade true seat before after away away_after taken taken_after result → away_after ≡ away
made_away seat before after away away_after taken taken_after result made = made.given.left refl ∙ made.is.lone refl

pub lone_turns_publish : LoneTurnsPublish
lone_turns_publish seat before after away away_after taken taken_after (Ok t.Idle) (waits, none) = (
  (
    same seat before after none.came,
    (λ i. next_frame (sym (none.lone refl) i) (sym (same seat before after none.came) i)) ∙ ap first waits,
  ),
  none.lone refl,
)
lone_turns_publish seat before after away away_after taken taken_after (Ok (t.Published name version)) made = (
  made_publishes seat before after away away_after taken taken_after name version made,
  made_away seat before after away away_after taken taken_after (Ok (t.Published name version)) made,
)
lone_turns_publish seat before after away away_after taken taken_after (Ok (t.Home name version)) made =
    absurd
    (nothing_new (publishes name) before after
    (made_stays seat before after away away_after taken taken_after (Ok (t.Home name version)) made (made.given.answer.0 ∙ append-nil made.given.given_at))
    (home_was_published true seat before after away away_after taken taken_after name version made))
lone_turns_publish seat before after away away_after taken taken_after (Ok (t.Superseded name was now)) made =
    absurd
    (nothing_new (ends name) before after
    (made_stays seat before after away away_after taken taken_after (Ok (t.Superseded name was now)) made
    (made.given.answer.0 ∙ append-nil made.given.given_at))
    (superseded_was_changed true seat before after away away_after taken taken_after name was now made).0)
lone_turns_publish seat before after away away_after taken taken_after (Err refused) (inl none) =
    (same seat before after none.came, none.lone refl)
lone_turns_publish seat before after away away_after taken taken_after (Err refused) (inr made) = (
  made_stays seat before after away away_after taken taken_after (Err refused) made made.given.answer,
  made_away seat before after away away_after taken taken_after (Err refused) made,
)
