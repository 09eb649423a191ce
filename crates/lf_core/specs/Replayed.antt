-- What a state holds is what replaying its history gives.
use Rattle.std.specs.Prelude.{◌≡◌, ◌≤◌, List, ℕ, ◌+◌, length}
use Rattle.lf_frames.specs.FrameTexts.{is_frame}
use Rattle.lf_versions.specs.declared.commit.Commit.{Commit}
use Rattle.def_histories.specs.declared.operation.Operation.{Operation}
use Rattle.def_histories.specs.History.{registrations, text_bytes, live_frames}
use Rattle.def_histories.specs.Legal.{IsLegal, most_frames, most_text_bytes}
use Rattle.lf_core.specs.declared.frames.Kept.{Kept}
use Rattle.lf_core.specs.Entries.{commits_in}
use Rattle.lf_core.specs.Kept.{AreKept, lives}

-- The commits, the live frames with what is kept of them, and the counts of a legal history. The
-- history has room for the retirement of each live frame, and for each place an entry and one
-- retirement more; the frames have seats for all that may be live.
pub record IsReplayed (history : List Operation) (commits : List Commit) (frames : List Kept)
    (texts bytes places room seats : ℕ) : Type 0 where
  pub legal : IsLegal is_frame history
  pub same_commits : commits ≡ commits_in history
  pub same_frames : lives frames ≡ live_frames history
  pub are_kept : AreKept commits frames
  pub counts_texts : texts ≡ registrations history
  pub counts_bytes : bytes ≡ text_bytes history
  pub few_bytes : text_bytes history ≤ most_text_bytes
  pub has_places : length history + (length frames + (places + places)) ≤ room
  pub has_seats : most_frames ≤ seats
