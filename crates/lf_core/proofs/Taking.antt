-- The board of the frame whose turn is next is taken.
use Rattle.std.proofs.Common.{◌≡◌, refl, sym, ◌∙◌, ap, subst, ◌+◌, ◌≤◌, ℕ, List, [], length, Option, Some, None, is_some}
use Rattle.std.proofs.lemmas.Bool.{false≢true}
use Rattle.std.proofs.lemmas.List.{append-nil, length-map}
use Rattle.std.specs.Option.{option_map}
use Rattle.lf_rdf.specs.Equality.{text_eq}
use Rattle.lf_model.specs.declared.document.Doc.{Doc}
use Rattle.def_histories.specs.declared.live.Live.{Live}
use Rattle.def_histories.specs.declared.operation.Operation.{Operation}
use Rattle.def_histories.specs.History.{find_frame, live, live_frames, patches}
use Rattle.def_histories.specs.Jobs.{IsPrefix, IsRegistered}
use Rattle.def_turns.specs.Turns.{next_frame}
use Rattle.lf_versions.specs.declared.commit.Commit as versions
use Rattle.lf_versions.specs.Commits.{lines_of}
use Rattle.lf_board.specs.Boards as shown
use Rattle.lf_board.specs.Boards.{Shown}
use Rattle.lf_core.specs.declared.entries.Entry.{Entry}
use Rattle.lf_core.specs.declared.frames.Kept.{Kept}
use Rattle.lf_core.specs.Entries.{commits_in, operations, operation_of}
use Rattle.lf_core.specs.Kept.{AreKept, HandlesBoard, IsHome, IsKept, board_of, find_kept, live_of, lives, next_kept, updated, without_board}
use Rattle.lf_core.specs.Held.{Seen, away, away_from, boards_of}
use Rattle.lf_core.specs.Replayed.{IsReplayed}
use Rattle.lf_core.specs.Taken.{FitsHistory, IsNextOf}
use Rattle.lf_core.proofs.Boards.{others_left, was_home}
use Rattle.lf_core.proofs.Calls.{seen_of}
use Rattle.lf_core.proofs.Each.{each_found}
use Rattle.lf_core.proofs.Homecoming.{commits_count, lines_in}
use Rattle.lf_core.proofs.Named.{found_is, found_live}
use Rattle.lf_core.proofs.Next.{next_has_board, next_is, next_is_found}
use Rattle.lf_core.proofs.Once.{AreOnce, live_once, live_registered}
use Rattle.lf_core.proofs.Steps.{changed, roomier}

once_of : (history : List Operation) (frames : List Kept) → lives frames ≡ live_frames history → AreOnce (lives frames)
once_of history frames same = subst AreOnce (sym same) (live_once history)

-- it is found by its name
pub found_next : (history : List Operation) (frames : List Kept) (newest : ℕ) (kept : Kept) → lives frames ≡ live_frames history
    → next_kept newest frames ≡ Some kept → find_kept kept.live.name frames ≡ Some kept
found_next history frames newest kept same next = next_is_found newest frames kept (once_of history frames same) next

pub next_in : (seen : Seen) (history : List Operation) (frames : List Kept) (places newest : ℕ) (cs : List versions.Commit) (o : Option Kept)
    → seen_of history frames places ≡ seen → lives frames ≡ live_frames history → cs ≡ commits_in history → newest ≡ length cs
    → next_kept newest frames ≡ o → next_frame (away seen) seen.history ≡ option_map live_of o
next_in seen history frames places newest cs o view same commit counted next =
    subst (λ (s : Seen). next_frame (away_from s.history s.boards) s.history ≡ option_map live_of o) view
    (next_is history frames newest same (counted ∙ (ap length commit ∙ commits_count history)) ∙ ap (option_map live_of) next)

-- its board

pub home_is : (frames : List Kept) (name : List ℕ) (kept : Kept) (home : Shown) → find_kept name frames ≡ Some kept
    → Some home ≡ board_of (find_kept name frames) → kept.board ≡ Some home
home_is frames name kept home found e = sym (e ∙ ap board_of found)

pub handle_is : (kept : Kept) (home : Shown) (doc : Option Doc) → kept.board ≡ Some home → HandlesBoard kept.board doc → doc ≡ shown.document home
handle_is kept home doc is handled = subst (λ (o : Option Shown). HandlesBoard o doc) is handled

pub has_one : (frames : List Kept) (newest : ℕ) (name : List ℕ) (kept : Kept) → next_kept newest frames ≡ Some kept
    → find_kept name frames ≡ Some kept → None ≡ board_of (find_kept name frames) → ⊥
has_one frames newest name kept next found e =
    false≢true (ap is_some (e ∙ ap board_of found) ∙ next_has_board newest frames kept next)

-- what is kept when it is out

pub taken_in : (items after_items : List Entry) (cs : List versions.Commit) (frames left : List Kept)
    (texts bytes places room seats more grown count kept_seats : ℕ) (name : List ℕ) (kept : Kept)
    → IsReplayed (operations items) cs frames texts bytes places room seats → after_items ≡ items → find_kept name frames ≡ Some kept
    → left ≡ updated name without_board frames → length after_items + (count + (more + more)) ≤ grown → count ≡ length frames → kept_seats ≡ seats
    → IsReplayed (operations after_items) cs left texts bytes more grown kept_seats
taken_in items after_items cs frames left texts bytes places room seats more grown count kept_seats name kept now same found gone placed counted seated =
    rw gone (rw seated
    (changed (operations after_items) cs frames texts bytes more grown seats name without_board kept here found (λ one. refl)
    (record { read = is.read; home = tt; shown = is.shown })))
  where
    is : IsKept cs kept
    is = found_is name cs frames kept now.are_kept found

    here : IsReplayed (operations after_items) cs frames texts bytes more grown seats
    here =
        roomier (operations after_items) cs frames texts bytes places room seats more grown
        (subst (λ (w : List Entry). IsReplayed (operations w) cs frames texts bytes places room seats) (sym same) now)
        (subst (λ (n : ℕ). n + (length frames + (more + more)) ≤ grown) (sym (length-map after_items operation_of))
        (subst (λ (n : ℕ). length after_items + (n + (more + more)) ≤ grown) counted placed))

-- the job that takes it

home_kept : (cs : List versions.Commit) (kept : Kept) (home : Shown) → IsKept cs kept → kept.board ≡ Some home → IsHome cs kept.live.text (Some home)
home_kept cs kept home is has = subst (IsHome cs kept.live.text) has is.home

whole : (history : List Operation) (cs : List versions.Commit) → cs ≡ commits_in history → IsPrefix (lines_of cs) (patches history)
whole history cs same =
    ([], sym (append-nil (lines_of cs) ∙ (ap lines_of same ∙ lines_in history)))

fits : (history : List Operation) (cs : List versions.Commit) (kept : Kept) (home : Shown) → cs ≡ commits_in history → IsKept cs kept
    → kept.board ≡ Some home → live history kept.live.name ≡ Some kept.live
    → FitsHistory history (record { name = kept.live.name; number = kept.live.number; board = home; target = cs })
fits history cs kept home same is has is_live = record {
  text = kept.live.text;
  board = (home_kept cs kept home is has).1;
  target = whole history cs same;
  registered =
      each_found (λ (one : Live). IsRegistered history one.number one.name one.text) (λ (one : Live). text_eq kept.live.name one.name)
      (live_frames history) kept.live (live_registered history) is_live;
  gives = (home_kept cs kept home is has).0;
}

next_by : (seen : Seen) (history : List Operation) (frames left : List Kept) (places newest : ℕ) (cs : List versions.Commit) (kept : Kept) (home : Shown)
    → seen_of history frames places ≡ seen → lives frames ≡ live_frames history → cs ≡ commits_in history → AreKept cs frames → newest ≡ length cs
    → next_kept newest frames ≡ Some kept → kept.board ≡ Some home → left ≡ updated kept.live.name without_board frames
    → IsNextOf seen (boards_of left) (record { name = kept.live.name; number = kept.live.number; board = home; target = cs })
next_by seen history frames left places newest cs kept home view same commit are counted next has gone =
    subst (λ (s : Seen). IsNextOf s (boards_of left) (record { name = kept.live.name; number = kept.live.number; board = home; target = cs })) view
    (record {
      frame = kept.live;
      next = next_in (seen_of history frames places) history frames places newest cs (Some kept) refl same commit counted next;
      live = is_live;
      number = refl;
      target = commit;
      fits = fits history cs kept home commit (found_is kept.live.name cs frames kept are found) has is_live;
      was_home = was_home kept.live.name home frames kept (once_of history frames same) found has;
      left = ap boards_of gone ∙ others_left kept.live.name frames kept (once_of history frames same) found;
    })
  where
    found : find_kept kept.live.name frames ≡ Some kept
    found = found_next history frames newest kept same next

    is_live : live history kept.live.name ≡ Some kept.live
    is_live = ap (find_frame kept.live.name) (sym same) ∙ found_live kept.live.name frames kept found

pub next_of : (seen : Seen) (history : List Operation) (frames left : List Kept) (places newest : ℕ) (cs target : List versions.Commit) (kept : Kept)
    (home board : Shown) (name held : List ℕ) (number : ℕ)
    → seen_of history frames places ≡ seen → lives frames ≡ live_frames history → cs ≡ commits_in history → AreKept cs frames → newest ≡ length cs
    → next_kept newest frames ≡ Some kept → kept.board ≡ Some home → held ≡ kept.live.name → left ≡ updated held without_board frames
    → name ≡ kept.live.name → number ≡ kept.live.number → board ≡ home → target ≡ cs
    → IsNextOf seen (boards_of left) (record { name = name; number = number; board = board; target = target })
next_of seen history frames left places newest cs target kept home board name held number view same commit are counted next has held_is gone named numbered boarded aimed =
    subst (IsNextOf seen (boards_of left))
    (λ i. record { name = sym named i; number = sym numbered i; board = sym boarded i; target = sym aimed i })
    (next_by seen history frames left places newest cs kept home view same commit are counted next has
    (gone ∙ ap (λ (n : List ℕ). updated n without_board frames) held_is))
