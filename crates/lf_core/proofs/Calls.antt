-- What a state's fields tell of the state as contracts see it.
use Rattle.std.proofs.Common.{◌≡◌, refl, sym, ◌∙◌, ap, subst, suc, ◌+◌, ◌-◌, ◌<◌, ◌≤◌, ℕ, List, [], ◌∷◌, ◌++◌, length, true, is_some, Option, Some, None, arith}
use Rattle.std.specs.Arc.{arc_value}
use Rattle.std.specs.List.{AllByRecursion}
use Rattle.std.specs.Option.{option_map}
use Rattle.std.specs.declared.alloc.Global.{Global}
use Rattle.std.specs.declared.sync.Arc.{Arc}
use Rattle.lf_model.specs.declared.document.Doc.{Doc}
use Rattle.def_contexts.specs.FrameValues.{frame_meaning}
use Rattle.def_histories.specs.declared.live.Live.{Live}
use Rattle.def_histories.specs.declared.operation.Operation.{Operation}
use Rattle.def_histories.specs.declared.operation.Operation.TheVariants.{Publish, Retire}
use Rattle.def_histories.specs.History.{commits, find_frame, live, live_frames, registrations, text_bytes, without}
use Rattle.def_histories.specs.Legal.{IsLegal, IsRegistration, MayPublish, most_frames, most_text_bytes}
use Rattle.def_histories.specs.Replay.{newest_dataset}
use Rattle.def_turns.specs.declared.turned.Given.TheVariants.{IsSuperseded, Publishes}
use Rattle.def_turns.specs.declared.turned.Turned.TheVariants as t
use Rattle.def_turns.specs.Turns.{given_to, kind_of}
use Rattle.lf_frames.specs.FrameTexts.{is_frame}
use Rattle.lf_versions.specs.declared.commit.Commit as versions
use Rattle.lf_versions.specs.Commits.{dataset}
use Rattle.lf_board.specs.Boards as shown
use Rattle.lf_board.specs.Boards.{MayTurn, Shown}
use Rattle.lf_core.specs.declared.frames.Kept.{Kept}
use Rattle.lf_core.specs.declared.ready.NewFrame.{NewFrame}
use Rattle.lf_core.specs.Entries.{commits_in, committing}
use Rattle.lf_core.specs.Kept.{AreKept, IsHome, IsKept, IsMeant, find_kept, live_of, lives, number_of, updated, with_board, with_document, without_kept}
use Rattle.lf_core.specs.Held.{AreHeld, HasNewBoard, Held, Seen, boards_of, held_by, held_of, of_others}
use Rattle.lf_core.specs.Prepared.{IsNew, registering}
use Rattle.lf_core.specs.Replayed.{IsReplayed}
use Rattle.lf_core.specs.Seat.{MeansLive}
use Rattle.lf_core.specs.Taken.{FitsHistory, HasHome, IsStillLive, Taken, given_job}
use Rattle.lf_core.proofs.Boards.{boards_end, boards_without, each_is_found}
use Rattle.lf_core.proofs.Each.{each_both}
use Rattle.lf_core.proofs.Few.{few_bytes, few_registrations}
use Rattle.lf_core.proofs.Giving.{IsPublication, given_published, given_superseded}
use Rattle.lf_core.proofs.Homecoming.{IsFound, commits_count, has_home, kept_home, kept_of_live, kept_published, reached}
use Rattle.lf_core.proofs.Looking.{newest_is}
use Rattle.lf_core.proofs.Named.{find_lives, found_is, found_live, is_live, none_live, without_lives_length}
use Rattle.lf_core.proofs.Once.{AreOnce, live_once}
use Rattle.lf_core.proofs.Steps.{changed, committed, published, put, retired}

abbrev pub seen_of : List Operation → List Kept → ℕ → Seen
seen_of history frames places = record { history = history; boards = boards_of frames; places = places }

-- ---- what is live

pub live_in : (seen : Seen) (history : List Operation) (frames : List Kept) (places : ℕ) (name : List ℕ) (kept : Kept)
    → seen_of history frames places ≡ seen → lives frames ≡ live_frames history → find_kept name frames ≡ Some kept
    → live seen.history name ≡ Some kept.live
live_in seen history frames places name kept view same found =
    ap (λ (s : Seen). live s.history name) (sym view) ∙ (ap (find_frame name) (sym same) ∙ found_live name frames kept found)

pub none_in : (seen : Seen) (history : List Operation) (frames : List Kept) (places : ℕ) (name : List ℕ)
    → seen_of history frames places ≡ seen → lives frames ≡ live_frames history → find_kept name frames ≡ None
    → live seen.history name ≡ None
none_in seen history frames places name view same found =
    ap (λ (s : Seen). live s.history name) (sym view) ∙ (ap (find_frame name) (sym same) ∙ none_live name frames found)

pub versions_in : (seen : Seen) (history : List Operation) (frames : List Kept) (places : ℕ) (cs : List versions.Commit)
    → seen_of history frames places ≡ seen → cs ≡ commits_in history → length cs ≡ commits seen.history
versions_in seen history frames places cs view same =
    ap length same ∙ (commits_count history ∙ ap (λ (s : Seen). commits s.history) view)

pub newest_in : (seen : Seen) (history : List Operation) (frames : List Kept) (places : ℕ) (cs : List versions.Commit)
    → seen_of history frames places ≡ seen → cs ≡ commits_in history → dataset cs ≡ newest_dataset seen.history
newest_in seen history frames places cs view same =
    newest_is history cs same ∙ ap (λ (s : Seen). newest_dataset s.history) view

pub commits_of_seen : (seen : Seen) (history : List Operation) (frames : List Kept) (places : ℕ) (cs : List versions.Commit)
    → seen_of history frames places ≡ seen → cs ≡ commits_in history → cs ≡ commits_in seen.history
commits_of_seen seen history frames places cs view same = same ∙ ap (λ (s : Seen). commits_in s.history) view

means_by : (o : Option Live) (kept : Kept) (cs : List versions.Commit) → o ≡ Some kept.live → IsKept cs kept
    → MeansLive o (Some (frame_meaning kept.frame))
means_by o kept cs found now = subst (λ (found : Option Live). MeansLive found (Some (frame_meaning kept.frame))) (sym found) now.read

pub means_live : (seen : Seen) (history : List Operation) (frames : List Kept) (places : ℕ) (cs : List versions.Commit) (name : List ℕ) (kept : Kept)
    → seen_of history frames places ≡ seen → lives frames ≡ live_frames history → AreKept cs frames → find_kept name frames ≡ Some kept
    → MeansLive (live seen.history name) (Some (frame_meaning kept.frame))
means_live seen history frames places cs name kept view same now found =
    means_by (live seen.history name) kept cs (live_in seen history frames places name kept view same found) (found_is name cs frames kept now found)

pub means_none : (seen : Seen) (history : List Operation) (frames : List Kept) (places : ℕ) (name : List ℕ)
    → seen_of history frames places ≡ seen → lives frames ≡ live_frames history → find_kept name frames ≡ None
    → MeansLive (live seen.history name) None
means_none seen history frames places name view same found =
    subst (λ (o : Option Live). MeansLive o None) (sym (none_in seen history frames places name view same found)) tt

-- ---- the boards at home are those of live texts

all-append : (history : List Operation) (one two : List Held) → AreHeld history one → AreHeld history two → AreHeld history (one ++ two)
all-append history [] two held more = more
all-append history (first ∷ rest) two held more = (held.0, all-append history rest two held.1 more)

held_at : (history : List Operation) (cs : List versions.Commit) (kept : Kept) (board : Option Shown) → cs ≡ commits_in history
    → live history kept.live.name ≡ Some kept.live → IsHome cs kept.live.text board → AreHeld history (held_by kept.live board)
held_at history cs kept None same is_live home = tt
held_at history cs kept (Some board) same is_live home = (
  record { frame = kept.live; live = is_live; number = refl; read = home.0; begun = subst (MayTurn board) same home.1 },
  tt,
)

all_held : (history : List Operation) (frames : List Kept) → AllByRecursion (λ (kept : Kept). AreHeld history (held_of kept)) frames
    → AreHeld history (boards_of frames)
all_held history [] all = tt
all_held history (kept ∷ rest) all = all-append history (held_of kept) (boards_of rest) all.0 (all_held history rest all.1)

pub boards_held : (seen : Seen) (history : List Operation) (frames : List Kept) (places : ℕ) (cs : List versions.Commit)
    → seen_of history frames places ≡ seen → lives frames ≡ live_frames history → cs ≡ commits_in history → AreKept cs frames
    → AreHeld seen.history seen.boards
boards_held seen history frames places cs view same commit now =
    subst (λ (s : Seen). AreHeld s.history s.boards) view
    (all_held history frames
    (each_both (λ (kept : Kept). find_kept kept.live.name frames ≡ Some kept) (IsKept cs) (λ (kept : Kept). AreHeld history (held_of kept)) frames
    (λ kept found is.
    held_at history cs kept kept.board commit
    (ap (find_frame kept.live.name) (sym same) ∙ found_live kept.live.name frames kept found) is.home)
    (each_is_found frames (subst AreOnce (sym same) (live_once history))) now))

-- ---- boards that come home

still_live : (seen : Seen) (history : List Operation) (frames : List Kept) (places : ℕ) (job : Taken) → seen_of history frames places ≡ seen
    → IsStillLive seen.history job → IsStillLive history job
still_live seen history frames places job view is = subst (λ (s : Seen). IsStillLive s.history job) (sym view) is

fits_here : (seen : Seen) (history : List Operation) (frames : List Kept) (places : ℕ) (job : Taken) → seen_of history frames places ≡ seen
    → FitsHistory seen.history job → FitsHistory history job
fits_here seen history frames places job view fits = subst (λ (s : Seen). FitsHistory s.history job) (sym view) fits

pub came_home : (seen : Seen) (history : List Operation) (cs : List versions.Commit) (frames after : List Kept) (texts bytes places room seats more : ℕ)
    (job : Taken) (name : List ℕ) (board : Shown)
    → seen_of history frames places ≡ seen → IsReplayed history cs frames texts bytes places room seats
    → FitsHistory seen.history job → IsStillLive seen.history job → name ≡ job.name → board ≡ job.board
    → after ≡ updated name (with_board board) frames → more ≡ seats → IsReplayed history cs after texts bytes places room more
came_home seen history cs frames after texts bytes places room seats more job name board view now fits is_live named boarded put same =
    rw put (rw named (rw boarded (rw same
    (changed history cs frames texts bytes places room seats job.name (with_board job.board) found.kept now found.found (λ one. refl)
    (kept_home history cs job found.kept here.frame now.same_commits (fits_here seen history frames places job view fits) here.live here.number found.live
    (found_is job.name cs frames found.kept now.are_kept found.found))))))
  where
    here : IsStillLive history job
    here = still_live seen history frames places job view is_live

    found : IsFound job.name frames here.frame
    found = kept_of_live history frames job.name here.frame now.same_frames here.live

pub home_boards : (seen : Seen) (history : List Operation) (frames after : List Kept) (places : ℕ) (job : Taken) (name : List ℕ) (board : Shown)
    → seen_of history frames places ≡ seen → lives frames ≡ live_frames history → IsStillLive seen.history job → name ≡ job.name → board ≡ job.board
    → after ≡ updated name (with_board board) frames → HasHome seen.boards job (boards_of after)
home_boards seen history frames after places job name board view same is_live named boarded put =
    subst (λ (s : Seen). HasHome s.boards job (boards_of after)) view
    (rw put (rw named (rw boarded
    (has_home history frames job found.kept here.frame (with_board job.board) same here.live here.number found.found found.live (λ one. refl) (λ one. refl)))))
  where
    here : IsStillLive history job
    here = still_live seen history frames places job view is_live

    found : IsFound job.name frames here.frame
    found = kept_of_live history frames job.name here.frame same here.live

-- a board that is published

publication : (seen : Seen) (history : List Operation) (frames : List Kept) (places : ℕ) (job : Taken) (version : ℕ)
    → seen_of history frames places ≡ seen → kind_of (given_job seen.history job) ≡ Publishes → shown.number job.board ≡ Some version
    → IsPublication (live history job.name) job.name job.number version
publication seen history frames places job version view kind counted =
    given_published (live history job.name) job.name job.number version
    (ap (λ (o : Option ℕ). kind_of (given_to (live history job.name) job.name job.number o)) (sym counted)
    ∙ (ap (λ (s : Seen). kind_of (given_job s.history job)) view ∙ kind))

pub came_published : (seen : Seen) (history grown : List Operation) (cs : List versions.Commit) (frames after : List Kept)
    (texts bytes places room seats larger more : ℕ) (job : Taken) (name entry_name : List ℕ) (version : ℕ) (doc : Option (Arc Doc Global)) (board : Shown)
    → seen_of history frames places ≡ seen → IsReplayed history cs frames texts bytes places room seats
    → FitsHistory seen.history job → kind_of (given_job seen.history job) ≡ Publishes → 1 ≤ seen.places
    → shown.number job.board ≡ Some version → option_map arc_value doc ≡ shown.document job.board
    → name ≡ job.name → entry_name ≡ job.name → board ≡ job.board
    → after ≡ updated name (with_document version doc board) frames → grown ≡ history ++ Publish entry_name version ∷ []
    → room ≤ larger → more ≡ seats
    → IsReplayed grown cs after texts bytes (places - 1) larger more
came_published seen history grown cs frames after texts bytes places room seats larger more job name entry_name version doc board view now fits kind one counted handled named entry_named boarded put entered roomy same =
    rw put (rw entered (rw named (rw entry_named (rw boarded (rw same
    (published history cs frames texts bytes places room seats larger job.name version (with_document version doc job.board) found.kept now
    (reached history job version here_fits counted, subst (MayPublish version) (sym is.live) is.newer) found.found (λ one. refl)
    (kept_published history cs job found.kept is.frame version doc now.same_commits here_fits is.live is.number found.live
    (found_is job.name cs frames found.kept now.are_kept found.found) counted handled)
    (subst (λ (s : Seen). 1 ≤ s.places) (sym view) one) roomy))))))
  where
    here_fits : FitsHistory history job
    here_fits = fits_here seen history frames places job view fits

    is : IsPublication (live history job.name) job.name job.number version
    is = publication seen history frames places job version view kind counted

    found : IsFound job.name frames is.frame
    found = kept_of_live history frames job.name is.frame now.same_frames is.live

pub published_boards : (seen : Seen) (history : List Operation) (frames after : List Kept) (places : ℕ) (job : Taken) (name : List ℕ) (version : ℕ)
    (doc : Option (Arc Doc Global)) (board : Shown)
    → seen_of history frames places ≡ seen → lives frames ≡ live_frames history → kind_of (given_job seen.history job) ≡ Publishes
    → shown.number job.board ≡ Some version → name ≡ job.name → board ≡ job.board
    → after ≡ updated name (with_document version doc board) frames → HasHome seen.boards job (boards_of after)
published_boards seen history frames after places job name version doc board view same kind counted named boarded put =
    subst (λ (s : Seen). HasHome s.boards job (boards_of after)) view
    (rw put (rw named (rw boarded
    (has_home history frames job found.kept is.frame (with_document version doc job.board) same is.live is.number found.found found.live (λ one. refl)
    (λ one. refl)))))
  where
    is : IsPublication (live history job.name) job.name job.number version
    is = publication seen history frames places job version view kind counted

    found : IsFound job.name frames is.frame
    found = kept_of_live history frames job.name is.frame same is.live

pub published_answer : (seen : Seen) (history : List Operation) (frames : List Kept) (places : ℕ) (job : Taken) (name : List ℕ) (version : ℕ)
    → seen_of history frames places ≡ seen → kind_of (given_job seen.history job) ≡ Publishes
    → shown.number job.board ≡ Some version → name ≡ job.name → t.Published name version ≡ given_job seen.history job
published_answer seen history frames places job name version view kind counted named =
    ap (λ (n : List ℕ). t.Published n version) named
    ∙ (sym is.is
    ∙ (ap (λ (o : Option ℕ). given_to (live history job.name) job.name job.number o) (sym counted)
    ∙ ap (λ (s : Seen). given_job s.history job) view))
  where
    is : IsPublication (live history job.name) job.name job.number version
    is = publication seen history frames places job version view kind counted

-- a board that is superseded

numbered_by : (o : Option Kept) → option_map number_of o ≡ option_map (λ (frame : Live). frame.number) (option_map live_of o)
numbered_by None = refl
numbered_by (Some kept) = refl

pub superseded_answer : (seen : Seen) (history : List Operation) (frames : List Kept) (places : ℕ) (job : Taken) (name : List ℕ) (number : ℕ)
    (now : Option ℕ)
    → seen_of history frames places ≡ seen → lives frames ≡ live_frames history → kind_of (given_job seen.history job) ≡ IsSuperseded
    → name ≡ job.name → number ≡ job.number → now ≡ option_map number_of (find_kept name frames)
    → t.Superseded name number now ≡ given_job seen.history job
superseded_answer seen history frames places job name number now view same kind named numbered told =
    (λ i. t.Superseded (named i) (numbered i) (told_now i))
    ∙ sym (given_superseded (live seen.history job.name) job.name job.number (shown.number job.board) kind)
  where
    told_now : now ≡ option_map (λ (frame : Live). frame.number) (live seen.history job.name)
    told_now =
        told
        ∙ (numbered_by (find_kept name frames)
        ∙ ap (option_map (λ (frame : Live). frame.number))
        (find_lives name frames
        ∙ (ap (find_frame name) same ∙ (ap (live history) named ∙ ap (λ (s : Seen). live s.history job.name) view))))

-- ---- commits

may_commit : (seen : Seen) (commit : versions.Commit) → IsLegal is_frame (seen.history ++ committing commit ∷ [])
    → text_bytes seen.history + commit.patch.bytes ≤ most_text_bytes
may_commit seen commit legal = (legal seen.history (committing commit) [] refl).sized

pub commit_fits : (seen : Seen) (history : List Operation) (frames : List Kept) (places bytes : ℕ) (commit other : versions.Commit)
    → seen_of history frames places ≡ seen → bytes ≡ text_bytes history → IsLegal is_frame (seen.history ++ committing commit ∷ []) → other ≡ commit
    → bytes + other.patch.bytes ≤ 268435456
commit_fits seen history frames places bytes commit other view counted legal same =
    subst (λ (n : ℕ). n + other.patch.bytes ≤ 268435456) (sym (counted ∙ ap (λ (s : Seen). text_bytes s.history) view))
    (subst (λ (one : versions.Commit). text_bytes seen.history + one.patch.bytes ≤ 268435456) (sym same)
    (few_bytes (text_bytes seen.history + commit.patch.bytes) (may_commit seen commit legal)))

pub committed_in : (seen : Seen) (history grown : List Operation) (cs version : List versions.Commit) (frames : List Kept)
    (texts bytes places room seats more : ℕ) (commit other : versions.Commit)
    → seen_of history frames places ≡ seen → IsReplayed history cs frames texts bytes places room seats
    → IsLegal is_frame (seen.history ++ committing commit ∷ []) → version ≡ commits_in (seen.history ++ committing commit ∷ []) → 1 ≤ seen.places
    → other ≡ commit → grown ≡ history ++ committing commit ∷ [] → room ≤ more
    → IsReplayed grown version frames texts (bytes + other.patch.bytes) (places - 1) more seats
committed_in seen history grown cs version frames texts bytes places room seats more commit other view now legal is one same entered roomy =
    rw entered (rw same
    (committed history cs version frames texts bytes places room seats more commit now
    (subst (λ (s : Seen). IsLegal is_frame (s.history ++ committing commit ∷ [])) (sym view) legal)
    (is ∙ ap (λ (s : Seen). commits_in (s.history ++ committing commit ∷ [])) (sym view))
    (subst (λ (s : Seen). 1 ≤ s.places) (sym view) one) roomy))

-- ---- registrations

may_register : (seen : Seen) (history : List Operation) (frames : List Kept) (places : ℕ) (new : NewFrame) → seen_of history frames places ≡ seen
    → IsLegal is_frame (seen.history ++ registering new ∷ []) → IsRegistration is_frame history new.name new.text
may_register seen history frames places new view legal =
    subst (λ (s : Seen). IsLegal is_frame (s.history ++ registering new ∷ [])) (sym view) legal history (registering new) [] refl

pub number_fits : (seen : Seen) (history : List Operation) (frames : List Kept) (places texts : ℕ) (new : NewFrame)
    → seen_of history frames places ≡ seen → texts ≡ registrations history → IsLegal is_frame (seen.history ++ registering new ∷ [])
    → texts + 1 ≤ 65536
number_fits seen history frames places texts new view counted legal =
    let low : registrations history < 65536 =
    few_registrations (registrations history) (may_register seen history frames places new view legal).counted in
    omega (arith, low, counted)

pub text_fits : (seen : Seen) (history : List Operation) (frames : List Kept) (places bytes : ℕ) (new : NewFrame) (text : List ℕ)
    → seen_of history frames places ≡ seen → bytes ≡ text_bytes history → IsLegal is_frame (seen.history ++ registering new ∷ []) → text ≡ new.text
    → bytes + length text ≤ 268435456
text_fits seen history frames places bytes new text view counted legal same =
    let low : text_bytes history + length new.text ≤ 268435456 =
    few_bytes (text_bytes history + length new.text) (may_register seen history frames places new view legal).sized in
    omega (arith, low, counted, ap length same)

pub seat_fits : (seen : Seen) (history : List Operation) (frames left : List Kept) (places seats kept_seats : ℕ) (new : NewFrame) (name : List ℕ)
    → seen_of history frames places ≡ seen → lives frames ≡ live_frames history → most_frames ≤ seats
    → IsLegal is_frame (seen.history ++ registering new ∷ []) → name ≡ new.name → left ≡ without_kept name frames → kept_seats ≡ seats
    → length left < kept_seats
seat_fits seen history frames left places seats kept_seats new name view same seated legal named gone kept =
    let placed : length (without new.name (live_frames history)) < most_frames = (may_register seen history frames places new view legal).placed in
    let counted : length left ≡ length (without new.name (live_frames history)) =
    ap length (gone ∙ ap (λ (n : List ℕ). without_kept n frames) named)
    ∙ (without_lives_length new.name frames ∙ ap (λ (w : List Live). length (without new.name w)) same) in
    omega (arith, placed, counted, seated, kept)

-- the frame as it is registered
abbrev pub new_kept : NewFrame → ℕ → Kept
new_kept new number =
    record {
      live = record { name = new.live_name; number = number; text = new.live_text; published = None };
      frame = new.frame;
      board = Some new.board;
      doc = None;
    }

new_is_kept : (cs : List versions.Commit) (new : NewFrame) (number : ℕ) → IsNew new → IsKept cs (new_kept new number)
new_is_kept cs new number is = record {
  read = subst (λ (text : List ℕ). IsMeant text new.frame) (sym is.text) is.read;
  home =
      subst (λ (board : Shown). IsHome cs new.live_text (Some board)) (sym is.board)
      (subst (λ (text : List ℕ). IsMeant text new.frame) (sym is.text) is.read, tt);
  shown = tt;
}

pub registered_in : (seen : Seen) (history grown : List Operation) (cs : List versions.Commit) (frames left after : List Kept)
    (texts bytes places room seats more kept_seats grown_seats : ℕ) (new : NewFrame) (name text : List ℕ)
    → seen_of history frames places ≡ seen → IsReplayed history cs frames texts bytes places room seats → IsNew new
    → IsLegal is_frame (seen.history ++ registering new ∷ []) → 1 ≤ seen.places → name ≡ new.name → text ≡ new.text
    → left ≡ without_kept name frames → length left ≤ length frames → after ≡ left ++ new_kept new (texts + 1) ∷ []
    → grown ≡ history ++ registering new ∷ [] → room ≤ more → kept_seats ≡ seats → kept_seats ≤ grown_seats
    → IsReplayed grown cs after (texts + 1) (bytes + length text) (places - 1) more grown_seats
registered_in seen history grown cs frames left after texts bytes places room seats more kept_seats grown_seats new name text view now is legal one named told gone shorter joined entered roomy kept seated =
    rw entered (rw joined (rw gone (rw named (rw told
    (put history cs frames texts bytes places room seats more grown_seats new.seat new.name new.text (new_kept new (texts + 1)) now
    (subst (λ (s : Seen). IsLegal is_frame (s.history ++ registering new ∷ [])) (sym view) legal)
    (λ i. record { name = is.name i; number = texts + 1; text = is.text i; published = None })
    (new_is_kept cs new (texts + 1) is)
    (subst (λ (w : List Kept). length w ≤ length frames) (gone ∙ ap (λ (n : List ℕ). without_kept n frames) named) shorter)
    (subst (λ (s : Seen). 1 ≤ s.places) (sym view) one) roomy (subst (λ (n : ℕ). n ≤ grown_seats) kept seated))))))

pub new_board : (seen : Seen) (history : List Operation) (frames left after : List Kept) (places texts : ℕ) (new : NewFrame) (name : List ℕ)
    → seen_of history frames places ≡ seen → texts ≡ registrations history → IsNew new → name ≡ new.name
    → left ≡ without_kept name frames → after ≡ left ++ new_kept new (texts + 1) ∷ [] → HasNewBoard seen new.name new.text (boards_of after)
new_board seen history frames left after places texts new name view counted is named gone joined = record {
  frame = new.frame;
  read = is.read;
  put =
      ap boards_of joined
      ∙ (boards_end left (new_kept new (texts + 1))
      ∙ (λ i. others i ++ record { name = is.name i; number = numbered i; board = is.board i } ∷ []));
}
  where
    others : boards_of left ≡ of_others new.name seen.boards
    others =
        ap boards_of gone
        ∙ (boards_without name frames ∙ (λ i. of_others (named i) (boards_in i)))
      where
        boards_in : boards_of frames ≡ seen.boards
        boards_in = ap (λ (s : Seen). s.boards) view

    numbered : texts + 1 ≡ suc (registrations seen.history)
    numbered = one_more texts ∙ ap suc (counted ∙ ap (λ (s : Seen). registrations s.history) view)
      where
        one_more : (n : ℕ) → n + 1 ≡ suc n
        one_more n = omega arith

-- ---- retirements

pub retired_in : (history grown : List Operation) (cs : List versions.Commit) (frames left : List Kept)
    (texts bytes places room seats more kept_seats seat : ℕ) (name taken : List ℕ)
    → IsReplayed history cs frames texts bytes places room seats → is_some (find_kept name frames) ≡ true → taken ≡ name
    → grown ≡ history ++ Retire seat taken ∷ [] → left ≡ without_kept name frames → length left < length frames → room ≤ more → kept_seats ≡ seats
    → IsReplayed grown cs left texts bytes places more kept_seats
retired_in history grown cs frames left texts bytes places room seats more kept_seats seat name taken now found same entered gone shorter roomy kept =
    rw entered (rw same (rw gone (rw kept
    (retired history cs frames texts bytes places room seats more seat name now found
    (subst (λ (w : List Kept). length w < length frames) gone shorter) roomy))))

pub stays_in : (history : List Operation) (cs : List versions.Commit) (frames left : List Kept) (texts bytes places room seats kept_seats : ℕ)
    → IsReplayed history cs frames texts bytes places room seats → left ≡ frames → kept_seats ≡ seats
    → IsReplayed history cs left texts bytes places room kept_seats
stays_in history cs frames left texts bytes places room seats kept_seats now same kept = rw same (rw kept now)

pub is_live_in : (seen : Seen) (history : List Operation) (frames : List Kept) (places : ℕ) (name : List ℕ)
    → seen_of history frames places ≡ seen → lives frames ≡ live_frames history → is_some (find_kept name frames) ≡ is_some (live seen.history name)
is_live_in seen history frames places name view same =
    is_live name frames
    ∙ (ap (λ (w : List Live). is_some (find_frame name w)) same ∙ ap (λ (s : Seen). is_some (live s.history name)) view)

pub others_in : (seen : Seen) (history : List Operation) (frames left : List Kept) (places : ℕ) (name : List ℕ)
    → seen_of history frames places ≡ seen → left ≡ without_kept name frames → boards_of left ≡ of_others name seen.boards
others_in seen history frames left places name view gone =
    ap boards_of gone ∙ (boards_without name frames ∙ ap (λ (s : Seen). of_others name s.boards) view)

pub same_boards : (seen : Seen) (history : List Operation) (frames left : List Kept) (places : ℕ) → seen_of history frames places ≡ seen → left ≡ frames
    → boards_of left ≡ seen.boards
same_boards seen history frames left places view same = ap boards_of same ∙ ap (λ (s : Seen). s.boards) view
