-- What a state's calls leave of the texts that are away.
use Rattle.std.proofs.Common.{◌≡◌, refl, sym, ◌∙◌, ap, ℕ, List, [], ◌∷◌, ◌++◌, Bool, true, false, cond, Result, Ok, Err}
use Rattle.std.proofs.lemmas.List.{append-nil}
use Rattle.lf_rdf.specs.declared.quad.Patch.{Patch}
use Rattle.def_histories.specs.declared.operation.Operation.{Operation}
use Rattle.def_histories.specs.declared.operation.Operation.TheVariants.{Commit, Retire}
use Rattle.def_histories.specs.History.{live_frames}
use Rattle.def_histories.proofs.LiveProofs.{live_frames_step}
use Rattle.def_turns.specs.Turns.{still_live}
use Rattle.lf_desk.specs.declared.refusals.CommitErr.{CommitErr}
use Rattle.lf_desk.specs.declared.refusals.RegisterErr.{RegisterErr}
use Rattle.lf_desk.specs.CommitAnswer.{committed_by}
use Rattle.lf_desk.specs.RegisterAnswer.{registered_by}
use Rattle.lf_core.specs.AwayLaws.{live_away}
use Rattle.lf_core.specs.Held.{AreHeld, RegistersBoard, Seen, away, away_from, numbers, of_others}
use Rattle.lf_core.proofs.Away.{away_registered, away_retired, away_stays}

-- what stands before and after is the same, but for the places
same : (before after : Seen) → after.history ≡ before.history → after.boards ≡ before.boards → away after ≡ still_live after.history (away before)
same before after history boards =
    ap (away_from after.history) boards ∙ away_stays before.history after.history before.boards (ap (λ (h : List Operation). numbers (live_frames h)) history)

pub stays_commit : (before after : Seen) (seat : ℕ) (patch : Patch) (result : Result ℕ CommitErr)
    → after.history ≡ before.history ++ committed_by seat patch result → after.boards ≡ before.boards
    → away after ≡ still_live after.history (away before)
stays_commit before after seat patch (Ok version) entered boards =
    ap (away_from after.history) boards
    ∙ away_stays before.history after.history before.boards
    (ap (λ (h : List Operation). numbers (live_frames h)) entered ∙ ap numbers (live_frames_step before.history (Commit seat patch)))
stays_commit before after seat patch (Err error) entered boards = same before after (entered ∙ append-nil before.history) boards

pub stays_register : (before after : Seen) (seat : ℕ) (name text : List ℕ) (result : Result Bool RegisterErr) → AreHeld before.history before.boards
    → after.history ≡ before.history ++ registered_by seat name text result → RegistersBoard before name text result after.boards
    → away after ≡ still_live after.history (away before)
stays_register before after seat name text (Ok true) held entered new =
    (λ i. away_from (entered i) (new.put i))
    ∙ (away_registered before.history before.boards seat name text _ held refl
    ∙ ap (λ (h : List Operation). still_live h (away before)) (sym entered))
stays_register before after seat name text (Ok false) held entered boards = same before after (entered ∙ append-nil before.history) boards
stays_register before after seat name text (Err error) held entered boards = same before after (entered ∙ append-nil before.history) boards

pub stays_retire : (before after : Seen) (seat : ℕ) (name : List ℕ) (was_live : Bool) → AreHeld before.history before.boards
    → after.history ≡ cond was_live (before.history ++ Retire seat name ∷ []) before.history
    → after.boards ≡ cond was_live (of_others name before.boards) before.boards
    → away after ≡ still_live after.history (away before)
stays_retire before after seat name true held entered boards =
    (λ i. away_from (entered i) (boards i))
    ∙ (away_retired before.history before.boards seat name held ∙ ap (λ (h : List Operation). still_live h (away before)) (sym entered))
stays_retire before after seat name false held entered boards = same before after entered boards

-- a state that stays
pub stays : (seen : Seen) → away seen ≡ still_live seen.history (away seen)
stays seen = sym (live_away seen.history seen.boards)
