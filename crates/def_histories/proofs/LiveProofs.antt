-- Versions, text numbers and live names, with one more entry.
use Rattle.std.proofs.Common.{◌≡◌, refl, sym, ◌∙◌, ap, suc, ◌+◌, ℕ, List, [], ◌∷◌, ◌++◌, length, Bool, true, false, not, cond, Option, Some, None, arith}
use Rattle.std.proofs.lemmas.List.{append-nil}
use Rattle.std.proofs.lemmas.Bool.{false≢true}
use Rattle.std.specs.Cmp.Lexicographic.{bytes_decides}
use Rattle.lf_rdf.specs.declared.quad.Signed.{Signed}
use Rattle.lf_rdf.specs.Equality.{text_eq}
use Rattle.def_datasets.specs.Dataset.{at_version}
use Rattle.def_datasets.proofs.VersionProofs.{next_version, versions_stay, versions_are_datasets, lines_in_any_order}
use Rattle.def_histories.specs.declared.live.Live.{Live}
use Rattle.def_histories.specs.declared.operation.Operation.TheVariants.{Commit, Register, Retire}
use Rattle.def_histories.specs.History.{patches, commits, registrations, live_step, without, registered, find_frame, live_frames}
use Rattle.def_histories.specs.Replay.{newest_dataset}
use Rattle.def_histories.specs.HistoryLaws.{DatasetsStay, CommitMakesVersion, PatchLinesInAnyOrder, OnlyCommitsMakeVersions, TextNumbersRise, LiveFramesStep, LiveOnceRegistered, GoneOnceRetired, OthersStayLive}
use Rattle.def_histories.proofs.Appended.{patches-append, commits-append, registrations-append, live_from-append}

pub datasets_stay : DatasetsStay
datasets_stay history later version low =
    ap (λ (w : List (List Signed)). at_version w version) (patches-append history later)
    ∙ versions_stay (patches history) (patches later) version low

pub commit_makes_version : CommitMakesVersion
commit_makes_version history seat patch = (
  counted,
  (λ i. at_version (patches-append history (Commit seat patch ∷ []) i) (counted i))
      ∙ next_version (patches history) patch.lines,
)
  where
    counted : commits (history ++ Commit seat patch ∷ []) ≡ suc (commits history)
    counted = commits-append history (Commit seat patch ∷ []) ∙ omega arith

pub patch_lines_in_any_order : PatchLinesInAnyOrder
patch_lines_in_any_order history seat seat2 one two alike =
    (commit_makes_version history seat one).1
    ∙ (lines_in_any_order (newest_dataset history) one.lines two.lines (versions_are_datasets (patches history) (commits history)) alike
    ∙ sym ((commit_makes_version history seat2 two).1))

pub text_numbers_rise : TextNumbersRise
text_numbers_rise history between seat name text =
    rw (registrations-append history (Register seat name text ∷ between)) (omega arith)

pub live_frames_step : LiveFramesStep
live_frames_step history entry =
    live_from-append 0 [] history entry ∙ ap (λ (n : ℕ). live_step n (live_frames history) entry) counted
  where
    counted : 0 + registrations history ≡ registrations history
    counted = omega arith

-- ---- what is found under a name

pub text_is : (a : List ℕ) → text_eq a a ≡ true
text_is a = (bytes_decides a a).1 refl

-- no frame is found under a name that is taken out
left_out : (name : List ℕ) (frame : Live) (rest : List Live) (b : Bool) → text_eq name frame.name ≡ b
    → find_frame name (without name rest) ≡ None
    → find_frame name (cond (not b) (frame ∷ without name rest) (without name rest)) ≡ None
left_out name frame rest true e ih = ih
left_out name frame rest false e ih = rw e ih

pub found_without : (name : List ℕ) (frames : List Live) → find_frame name (without name frames) ≡ None
found_without name [] = refl
found_without name (frame ∷ rest) = left_out name frame rest (text_eq name frame.name) refl (found_without name rest)

-- what is found behind frames among which the name isn't
behind : (name : List ℕ) (frame : Live) (rest later : List Live) (b : Bool)
    → (find_frame name rest ≡ None → find_frame name (rest ++ later) ≡ find_frame name later)
    → cond b (Some frame) (find_frame name rest) ≡ None
    → cond b (Some frame) (find_frame name (rest ++ later)) ≡ find_frame name later
behind name frame rest later true ih e = absurd (some_none e)
  where
    is_here : Option Live → Bool
    is_here None = false
    is_here (Some _) = true

    some_none : Some frame ≡ None → ⊥
    some_none same = false≢true (sym (ap is_here same))
behind name frame rest later false ih e = ih e

pub found_behind : (name : List ℕ) (frames later : List Live) → find_frame name frames ≡ None
    → find_frame name (frames ++ later) ≡ find_frame name later
found_behind name [] later e = refl
found_behind name (frame ∷ rest) later e =
    behind name frame rest later (text_eq name frame.name) (found_behind name rest later) e

-- another name's frames may be taken out
others : (name other : List ℕ) (frame : Live) (rest : List Live) (b : Bool) → text_eq name other ≡ false
    → text_eq other frame.name ≡ b
    → find_frame name (without other rest) ≡ find_frame name rest
    → find_frame name (cond (not b) (frame ∷ without other rest) (without other rest))
    ≡ cond (text_eq name frame.name) (Some frame) (find_frame name rest)
others name other frame rest true apart e ih = rw passed ih
  where
    passed : text_eq name frame.name ≡ false
    passed = ap (text_eq name) (sym ((bytes_decides other frame.name).0 e)) ∙ apart
others name other frame rest false apart e ih = ap (λ (w : Option Live). cond (text_eq name frame.name) (Some frame) w) ih

pub found_others : (name other : List ℕ) (frames : List Live) → text_eq name other ≡ false
    → find_frame name (without other frames) ≡ find_frame name frames
found_others name other [] apart = refl
found_others name other (frame ∷ rest) apart =
    others name other frame rest (text_eq other frame.name) apart refl (found_others name other rest apart)

-- another name's frame may follow
pub found_before : (name : List ℕ) (frames : List Live) (frame : Live) → text_eq name frame.name ≡ false
    → find_frame name (frames ++ frame ∷ []) ≡ find_frame name frames
found_before name [] frame apart = rw apart refl
found_before name (first ∷ rest) frame apart =
    ap (λ (w : Option Live). cond (text_eq name first.name) (Some first) w) (found_before name rest frame apart)

pub live_once_registered : LiveOnceRegistered
live_once_registered history seat name text =
    ap (find_frame name) (live_frames_step history (Register seat name text))
    ∙ (found_behind name (without name (live_frames history)) (frame ∷ []) (found_without name (live_frames history))
    ∙ here)
  where
    frame : Live
    frame = registered name (suc (registrations history)) text

    here : find_frame name (frame ∷ []) ≡ Some frame
    here = rw (text_is name) refl

pub gone_once_retired : GoneOnceRetired
gone_once_retired history seat name =
    ap (find_frame name) (live_frames_step history (Retire seat name)) ∙ found_without name (live_frames history)

pub others_stay_live : OthersStayLive
others_stay_live history seat name other text patch apart = (
  ap (find_frame name) (live_frames_step history (Register seat other text))
      ∙ (found_before name (without other (live_frames history)) (registered other (suc (registrations history)) text) apart
      ∙ found_others name other (live_frames history) apart),
  ap (find_frame name) (live_frames_step history (Retire seat other)) ∙ found_others name other (live_frames history) apart,
  ap (find_frame name) (live_frames_step history (Commit seat patch)),
)

-- ---- entries that make no version

-- an entry that commits nothing leaves the newest dataset
pub no_version : OnlyCommitsMakeVersions
no_version history entry none =
    (ap length same, λ i. at_version (same i) (length (same i)))
  where
    same : patches (history ++ entry ∷ []) ≡ patches history
    same = patches-append history (entry ∷ []) ∙ (ap (λ (w : List (List Signed)). patches history ++ w) none ∙ append-nil (patches history))
