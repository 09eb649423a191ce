-- A job that fits comes home: its board is one of the live text, and its document may be published.
use Rattle.std.proofs.Common.{◌≡◌, refl, sym, ◌∙◌, ap, subst, ◌+◌, ◌≤◌, ℕ, List, [], ◌∷◌, length, length-append, take, Option, Some, None, is_some, arith}
use Rattle.std.proofs.lemmas.Bool.{false≢true}
use Rattle.std.proofs.lemmas.List.{length-map, take-append-le}
use Rattle.std.specs.Arc.{arc_value}
use Rattle.std.specs.Option.{option_map}
use Rattle.std.specs.declared.alloc.Global.{Global}
use Rattle.std.specs.declared.sync.Arc.{Arc}
use Rattle.lf_rdf.specs.declared.quad.Signed.{Signed}
use Rattle.lf_model.specs.declared.document.Doc.{Doc}
use Rattle.lf_model.specs.declared.frame.Frame.{Frame}
use Rattle.def_datasets.specs.Dataset.{after_all, at_version}
use Rattle.def_scratch.specs.Scratch.{scratch_frame}
use Rattle.def_histories.specs.declared.live.Live.{Live}
use Rattle.def_histories.specs.declared.operation.Operation.{Operation}
use Rattle.def_histories.specs.declared.operation.Operation.TheVariants.{Commit, Register, Retire, Publish}
use Rattle.def_histories.specs.History.{commits, find_frame, live, live_frames, patches}
use Rattle.def_histories.specs.Jobs.{IsPrefix, IsPrefixIfSome}
use Rattle.def_histories.proofs.JobProofs.{prefix_of_prefix}
use Rattle.lf_frames.specs.FrameTexts.{document}
use Rattle.lf_frames.proofs.Accepting.{read_frames_give_documents}
use Rattle.lf_desk.proofs.Found.{found_named}
use Rattle.lf_versions.specs.declared.commit.Commit as versions
use Rattle.lf_versions.specs.Commits.{dataset, lines_of}
use Rattle.lf_board.specs.Boards as boards
use Rattle.lf_board.specs.Boards.{MayTurn, Shown, number, patches_by}
use Rattle.lf_core.specs.declared.frames.Kept.{Kept}
use Rattle.lf_core.specs.Entries.{commits_in}
use Rattle.lf_core.specs.Kept.{IsKept, IsMeant, IsShown, find_kept, live_of, lives, updated, with_board, with_document}
use Rattle.lf_core.specs.Held.{boards_of, held_of, of_other_texts}
use Rattle.lf_core.specs.Taken.{FitsHistory, HasHome, Taken, home_of}
use Rattle.lf_core.proofs.Boards.{holding, home_found, others_stay}
use Rattle.lf_core.proofs.Named.{find_lives}
use Rattle.lf_core.proofs.Once.{AreOnce, live_once, live_text_is}

-- the lines of a history's commits are its patches
pub lines_in : (history : List Operation) → lines_of (commits_in history) ≡ patches history
lines_in [] = refl
lines_in (Commit seat patch ∷ rest) = ap (λ (w : List (List Signed)). patch.lines ∷ w) (lines_in rest)
lines_in (Register seat name text ∷ rest) = lines_in rest
lines_in (Retire seat name ∷ rest) = lines_in rest
lines_in (Publish name version ∷ rest) = lines_in rest

pub commits_count : (history : List Operation) → length (commits_in history) ≡ commits history
commits_count history =
    sym (length-map (commits_in history) (λ (commit : versions.Commit). commit.patch.lines)) ∙ ap length (lines_in history)

-- ---- the frame that is live

pub record IsFound (name : List ℕ) (frames : List Kept) (frame : Live) : Type 0 where
  pub kept : Kept
  pub found : find_kept name frames ≡ Some kept
  pub live : kept.live ≡ frame

found_by : (name : List ℕ) (frames : List Kept) (frame : Live) (o : Option Kept) → find_kept name frames ≡ o → option_map live_of o ≡ Some frame
    → IsFound name frames frame
found_by name frames frame None found e = absurd (false≢true (ap is_some e))
found_by name frames frame (Some kept) found e = record { kept = kept; found = found; live = cc }

pub kept_of_live : (history : List Operation) (frames : List Kept) (name : List ℕ) (frame : Live) → lives frames ≡ live_frames history
    → live history name ≡ Some frame → IsFound name frames frame
kept_of_live history frames name frame same is_live =
    found_by name frames frame (find_kept name frames) refl (find_lives name frames ∙ (ap (find_frame name) same ∙ is_live))

-- ---- the board is that of its text

begins : (first : Option (List (List Signed))) (between all : List (List Signed)) → IsPrefixIfSome first between → IsPrefix between all
    → IsPrefixIfSome first all
begins None between all begun rest = tt
begins (Some first) between all begun rest = prefix_of_prefix first between all begun rest

pub begins_history : (history : List Operation) (job : Taken) → FitsHistory history job → MayTurn job.board (commits_in history)
begins_history history job fits =
    subst (IsPrefixIfSome (patches_by job.board.version)) (sym (lines_in history))
    (begins (patches_by job.board.version) (lines_of job.target) (patches history) fits.board fits.target)

pub meant : (history : List Operation) (job : Taken) (frame : Live) → FitsHistory history job → live history job.name ≡ Some frame
    → job.number ≡ frame.number → IsMeant frame.text job.board.frame
meant history job frame fits is_live same =
    subst (λ (text : List ℕ). IsMeant text job.board.frame)
    (sym (live_text_is history job.name frame job.number job.name fits.text is_live same fits.registered).1) fits.gives

-- what is kept of the frame with the board at home
pub kept_home : (history : List Operation) (cs : List versions.Commit) (job : Taken) (kept : Kept) (frame : Live) → cs ≡ commits_in history
    → FitsHistory history job → live history job.name ≡ Some frame → job.number ≡ frame.number → kept.live ≡ frame → IsKept cs kept
    → IsKept cs (with_board job.board kept)
kept_home history cs job kept frame same fits is_live numbered is now = record {
  read = now.read;
  home = (
    subst (λ (one : Live). IsMeant one.text job.board.frame) (sym is) (meant history job frame fits is_live numbered),
    subst (MayTurn job.board) (sym same) (begins_history history job fits),
  );
  shown = now.shown;
}

-- ---- its document

-- the dataset of a version that begins others is that of its number
version_is : (first all : List versions.Commit) → IsPrefix (lines_of first) (lines_of all)
    → (length first ≤ length all) × (dataset first ≡ at_version (lines_of all) (length first))
version_is first all (rest, is) =
    let counted : length (lines_of first) ≡ length first = length-map first (λ (commit : versions.Commit). commit.patch.lines) in
    let longer : length all ≡ length first + length rest =
    sym (length-map all (λ (commit : versions.Commit). commit.patch.lines)) ∙ (ap length is ∙ (length-append (lines_of first) rest ∙ ap (λ (n : ℕ). n + length rest) counted)) in (
      omega (arith, longer),
      ap (after_all [])
          (sym (take-append-le (length first) (lines_of first) rest (omega (arith, counted)))
          ∙ ap (take (length first)) (sym is)),
    )

shown_by : (cs : List versions.Commit) (text : List ℕ) (frame : Frame) (own : List versions.Commit) (doc : Option (Arc Doc Global))
    → IsMeant text frame → IsPrefix (lines_of own) (lines_of cs) → option_map arc_value doc ≡ Some (scratch_frame frame (dataset own))
    → IsShown cs text (Some (length own)) doc
shown_by cs text frame own None read begun e = absurd (false≢true (ap is_some e))
shown_by cs text frame own (Some doc) read begun e =
    let told = version_is own cs begun in (
      told.0,
      is_doc ∙ (read_frames_give_documents text frame (dataset own) read ∙ ap (document text) told.1),
    )
  where
    is_doc : arc_value doc ≡ scratch_frame frame (dataset own)
    is_doc = cc

shown_at : (cs : List versions.Commit) (text : List ℕ) (frame : Frame) (own : Option (List versions.Commit)) (doc : Option (Arc Doc Global)) (version : ℕ)
    → IsMeant text frame → IsPrefixIfSome (patches_by own) (lines_of cs) → boards.number_by own ≡ Some version
    → option_map arc_value doc ≡ boards.document_by frame own → IsShown cs text (Some version) doc
shown_at cs text frame None doc version read begun counted e = absurd (false≢true (ap is_some counted))
shown_at cs text frame (Some own) doc version read begun counted e =
    subst (λ (n : ℕ). IsShown cs text (Some n) doc) (number_is (length own) version counted) (shown_by cs text frame own doc read begun e)
  where
    number_is : (one two : ℕ) → Some one ≡ Some two → one ≡ two
    number_is one two same = cc

pub kept_published : (history : List Operation) (cs : List versions.Commit) (job : Taken) (kept : Kept) (frame : Live) (version : ℕ)
    (doc : Option (Arc Doc Global)) → cs ≡ commits_in history
    → FitsHistory history job → live history job.name ≡ Some frame → job.number ≡ frame.number → kept.live ≡ frame → IsKept cs kept
    → number job.board ≡ Some version → option_map arc_value doc ≡ boards.document job.board
    → IsKept cs (with_document version doc job.board kept)
kept_published history cs job kept frame version doc same fits is_live numbered is now counted handled = record {
  read = now.read;
  home = (read, begun);
  shown = shown_at cs kept.live.text job.board.frame job.board.version doc version read begun counted handled;
}
  where
    read : IsMeant kept.live.text job.board.frame
    read = subst (λ (one : Live). IsMeant one.text job.board.frame) (sym is) (meant history job frame fits is_live numbered)

    begun : MayTurn job.board cs
    begun = subst (MayTurn job.board) (sym same) (begins_history history job fits)

-- its version was committed
pub reached : (history : List Operation) (job : Taken) (version : ℕ) → FitsHistory history job → number job.board ≡ Some version → version ≤ commits history
reached history job version fits counted = by job.board.version counted (begins_history history job fits)
  where
    by : (own : Option (List versions.Commit)) → boards.number_by own ≡ Some version → IsPrefixIfSome (patches_by own) (lines_of (commits_in history))
        → version ≤ commits history
    by None e begun = absurd (false≢true (ap is_some e))
    by (Some own) e begun =
        let is : length own ≡ version = cc in
        let low : length own ≤ length (commits_in history) = (version_is own (commits_in history) begun).0 in
        omega (arith, is, low, commits_count history)

-- ---- the boards at home

pub has_home : (history : List Operation) (frames : List Kept) (job : Taken) (kept : Kept) (frame : Live) (change : Kept → Kept)
    → lives frames ≡ live_frames history → live history job.name ≡ Some frame → job.number ≡ frame.number
    → find_kept job.name frames ≡ Some kept → kept.live ≡ frame
    → ((one : Kept) → held_of (change one) ≡ holding one job.board ∷ []) → ((one : Kept) → (change one).live.number ≡ one.live.number)
    → HasHome (boards_of frames) job (boards_of (updated job.name change frames))
has_home history frames job kept frame change same is_live numbered found is held keeps = record {
  home =
      ap (λ (n : ℕ). home_of n (boards_of (updated job.name change frames))) job_number
      ∙ (home_found job.name change job.board frames kept held (subst AreOnce (sym same) (live_once history)) found
      ∙ (λ i. Some (record { name = kept_name i; number = sym job_number i; board = job.board })));
  others =
      (λ i. of_other_texts (job_number i) (boards_of (updated job.name change frames)))
      ∙ (others_stay job.name change frames kept keeps found
      ∙ (λ i. of_other_texts (sym job_number i) (boards_of frames)));
}
  where
    job_number : job.number ≡ kept.live.number
    job_number = numbered ∙ ap (λ (one : Live). one.number) (sym is)

    kept_name : kept.live.name ≡ job.name
    kept_name = ap (λ (one : Live). one.name) is ∙ found_named job.name (live_frames history) frame is_live
