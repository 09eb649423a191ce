-- A turn of a state as a turn of a rota.
use Rattle.std.proofs.Common.{◌≡◌, cond, false, refl, sym, ◌∙◌, ap, subst, ℕ, nat_eq, IfOk, List, [], ◌++◌, Bool, true, Option, Some, None, Result, Ok, Err}
use Rattle.std.proofs.lemmas.List.{append-nil, length-map}
use Rattle.std.specs.List.{list_any}
use Rattle.std.proofs.lemmas.Bool.{false≢true}
use Rattle.lf_base.specs.declared.memory.Memory.{Memory}
use Rattle.def_histories.specs.declared.operation.Operation.{Operation}
use Rattle.def_histories.specs.Legal.{IsLegal}
use Rattle.def_histories.specs.History.{live, live_frames}
use Rattle.def_histories.specs.declared.live.Live.{Live}
use Rattle.def_turns.specs.declared.turned.Turned.{Turned}
use Rattle.def_turns.specs.declared.turned.Turned.TheVariants as t
use Rattle.def_turns.specs.Turns.{entry_of, given_back, given_to, home_or_published, is_newer, kind_of, next_frame, waiting}
use Rattle.def_turns.specs.TurnLaws.{GivenBackIsAllowed}
use Rattle.lf_frames.specs.FrameTexts.{is_frame}
use Rattle.lf_desk.specs.Rotas.{IsOwnIfSome, TakesBy, back, board_number}
use Rattle.lf_desk.proofs.Found.{none_waits}
use Rattle.lf_versions.specs.declared.commit.Commit.{Commit}
use Rattle.lf_versions.specs.Commits.{lines_of}
use Rattle.lf_board.specs.Boards.{number, number_by, patches_by}
use Rattle.lf_core.specs.Held.{Seen, away, away_from, numbers, of_other_texts}
use Rattle.lf_core.specs.Taken.{FitsHistory, HasBack, HasHome, IsNextOf, IsTakenFrom, Taken, given_job, held_job, job_data, job_meaning, turned_job}
use Rattle.lf_core.proofs.Away.{away_back, away_superseded, away_with, away_without, home_is_there, published_numbers}
use Rattle.lf_core.proofs.Homecoming.{lines_in, reached}

-- the texts away when a board went out
away_then : (before after : Seen) (job : Taken) → after.history ≡ before.history → IsNextOf before after.boards job
    → away after ≡ away_from before.history (of_other_texts job.number before.boards)
away_then before after job history is = λ i. away_from (history i) (is.left i)

pub takes : (before after : Seen) (result : Result (Option Taken) Memory) → IsTakenFrom before after.boards result → after.history ≡ before.history
    → TakesBy job_data true before.history (away before) (away after) None None result
takes before after (Ok None) (none, boards) history = (
  ap (λ (texts : List ℕ). waiting texts before.history) same ∙ none_waits (away before) before.history none,
  refl,
  λ _. same,
)
  where
    same : away after ≡ away before
    same = λ i. away_from (history i) (boards i)
takes before after (Ok (Some job)) is history = (
  record {
    frame = is.frame;
    next = ap (λ (texts : List ℕ). next_frame texts before.history) without ∙ is.next;
    live = is.live;
    number = is.number;
    target = ap lines_of is.target ∙ lines_in before.history;
    out =
        ap (λ (n : ℕ). list_any (nat_eq n) (away after)) (sym is.number)
        ∙ (ap (list_any (nat_eq job.number)) (away_then before after job history is)
        ∙ away_with before.history before.boards job.name is.frame job.number is.live is.number);
    lone = λ _. without;
  },
  refl,
)
  where
    without : back job.number (away after) ≡ away before
    without =
        ap (back job.number) (away_then before after job history is)
        ∙ away_without before.history before.boards job.number (home_is_there job.number before.boards (held_job job) is.was_home)
takes before after (Err refused) boards history = (refl, λ _. λ i. away_from (history i) (boards i))

pub own : (before after : Seen) (result : Result (Option Taken) Memory) → IsTakenFrom before after.boards result → after.history ≡ before.history
    → IfOk result (IsOwnIfSome job_meaning job_data after.history)
own before after (Ok None) is history = tt
own before after (Ok (Some job)) is history = subst (λ (h : List Operation). FitsHistory h job) (sym history) is.fits
own before after (Err refused) is history = tt

-- a job that was worked on is still the history's own
pub worked_fits : (history : List Operation) (job : Taken) → FitsHistory history job → FitsHistory history (turned_job job)
worked_fits history job fits = record {
  text = fits.text;
  board = ([], sym (append-nil (lines_of job.target)));
  target = fits.target;
  registered = fits.registered;
  gives = fits.gives;
}

-- the number of a board's version, by its patches
pub counted : (own : Option (List Commit)) → number_by own ≡ board_number (patches_by own)
counted None = refl
counted (Some commits) = ap Some (sym (length-map commits (λ (commit : Commit). commit.patch.lines)))

-- ---- a job that is given back

abbrev idle : Turned → Bool
idle t.Idle = true
idle (t.Published name version) = false
idle (t.Home name version) = false
idle (t.Superseded name was now) = false

live_isnt_idle : (name : List ℕ) (version published : Option ℕ) → idle (home_or_published name version published) ≡ false
live_isnt_idle name None published = refl
live_isnt_idle name (Some reached) published = by (is_newer reached published)
  where
    by : (b : Bool) → idle (cond b (t.Published name reached) (t.Home name (Some reached))) ≡ false
    by true = refl
    by false = refl

text_isnt_idle : (name : List ℕ) (number : ℕ) (version : Option ℕ) (frame : Live) (b : Bool)
    → idle (cond b (home_or_published name version frame.published) (t.Superseded name number (Some frame.number))) ≡ false
text_isnt_idle name number version frame true = live_isnt_idle name version frame.published
text_isnt_idle name number version frame false = refl

isnt_idle : (found : Option Live) (name : List ℕ) (number : ℕ) (version : Option ℕ) → idle (given_to found name number version) ≡ false
isnt_idle None name number version = refl
isnt_idle (Some frame) name number version = text_isnt_idle name number version frame (nat_eq frame.number number)

pub gives_away : (before after : Seen) (job : Taken) (turned : Turned) → FitsHistory before.history job → turned ≡ given_job before.history job
    → after.history ≡ before.history ++ entry_of turned → HasBack before job turned after.boards
    → away after ≡ back job.number (away before)
gives_away before after job t.Idle fits is entered home =
    absurd (false≢true (sym (ap idle is ∙ isnt_idle (live before.history job.name) job.name job.number (number job.board))))
gives_away before after job (t.Published name version) fits is entered home =
    away_back before.history after.history before.boards after.boards job
    (ap (λ (h : List Operation). numbers (live_frames h)) entered ∙ published_numbers before.history name version) home
gives_away before after job (t.Home name version) fits is entered home =
    away_back before.history after.history before.boards after.boards job
    (ap (λ (h : List Operation). numbers (live_frames h)) (entered ∙ append-nil before.history)) home
gives_away before after job (t.Superseded name was now) fits is entered boards =
    (λ i. away_from ((entered ∙ append-nil before.history) i) (boards i))
    ∙ away_superseded before.history before.boards job fits (sym (ap kind_of is))

-- and one that goes home without a publication
pub home_away : (before after : Seen) (job : Taken) → after.history ≡ before.history → HasHome before.boards job after.boards
    → away after ≡ back job.number (away before)
home_away before after job same home =
    away_back before.history after.history before.boards after.boards job (ap (λ (h : List Operation). numbers (live_frames h)) same) home

pub gives : (history : List Operation) (job : Taken) (turned : Turned) → turned ≡ given_job history job
    → turned ≡ given_back history job.name job.number (board_number (patches_by job.board.version))
gives history job turned is = is ∙ ap (given_back history job.name job.number) (counted job.board.version)

-- and what it adds keeps the history legal
pub gives_legal : (history : List Operation) (job : Taken) (turned : Turned) → GivenBackIsAllowed → IsLegal is_frame history → FitsHistory history job
    → turned ≡ given_job history job → IsLegal is_frame (history ++ entry_of turned)
gives_legal history job turned allowed legal fits is =
    subst (λ (one : Turned). IsLegal is_frame (history ++ entry_of one)) (sym is)
    (allowed is_frame history job.name job.number (number job.board) legal (λ version counted. reached history job version fits counted))

-- with a place that was made before
away_same : (before mid : Seen) → mid.history ≡ before.history → mid.boards ≡ before.boards → away mid ≡ away before
away_same before mid history boards = λ i. away_from (history i) (boards i)

pub gives_away_then : (before mid after : Seen) (job : Taken) (turned : Turned) → mid.history ≡ before.history → mid.boards ≡ before.boards
    → FitsHistory before.history job → turned ≡ given_job mid.history job → after.history ≡ mid.history ++ entry_of turned
    → HasBack mid job turned after.boards → away after ≡ back job.number (away before)
gives_away_then before mid after job turned history boards fits is entered home =
    gives_away mid after job turned (subst (λ (h : List Operation). FitsHistory h job) (sym history) fits) is entered home
    ∙ ap (back job.number) (away_same before mid history boards)

pub home_away_then : (before mid after : Seen) (job : Taken) → mid.history ≡ before.history → mid.boards ≡ before.boards
    → after.history ≡ mid.history → HasHome mid.boards job after.boards → away after ≡ back job.number (away before)
home_away_then before mid after job history boards same home =
    home_away mid after job same home ∙ ap (back job.number) (away_same before mid history boards)
