-- What holds of all histories.
use Rattle.std.specs.Prelude.{◌≡◌, ◌≢◌, ◌≤◌, ◌<◌, List, [], ◌∷◌, ◌++◌, ℕ, suc, map, Bool, true, false, not, IsTrue, Option, Some, None}
use Rattle.std.specs.List.{filter, list_all}
use Rattle.lf_rdf.specs.declared.quad.Signed.{Signed}
use Rattle.lf_rdf.specs.declared.quad.Patch.{Patch}
use Rattle.lf_rdf.specs.Equality.{text_eq}
use Rattle.def_patch_texts.specs.PatchText.{lines_of, IsPatchText}
use Rattle.def_datasets.specs.Sorted.{has}
use Rattle.def_datasets.specs.Dataset.{after}
use Rattle.def_datasets.specs.VersionLaws.{has_line}
use Rattle.lf_model.specs.declared.desk.Notice.{Notice}
use Rattle.def_histories.specs.declared.live.Live.{Live}
use Rattle.def_histories.specs.declared.operation.Operation.{Operation}
use Rattle.def_histories.specs.declared.operation.Operation.TheVariants.{Commit, Register, Retire, Publish}
use Rattle.def_histories.specs.History.{patches, commits, registrations, live_frames, live_step, live, registered}
use Rattle.def_histories.specs.Legal.{is_frame_name, IsAllowed, IsLegal}
use Rattle.def_histories.specs.Replay.{dataset_at, newest_dataset, notices}

-- what a legal history begins with is legal
abbrev pub PrefixIsLegal : Type 0
PrefixIsLegal =
    (accepts : List ℕ → Bool) (history later : List Operation) →
    IsLegal accepts (history ++ later) → IsLegal accepts history

-- a legal history with an allowed entry is legal
abbrev pub AllowedIsLegal : Type 0
AllowedIsLegal =
    (accepts : List ℕ → Bool) (history : List Operation) (entry : Operation)
    → IsLegal accepts history → IsAllowed accepts history entry →
    IsLegal accepts (history ++ entry ∷ [])

-- what follows a version doesn't change its dataset
abbrev pub DatasetsStay : Type 0
DatasetsStay =
    (history later : List Operation) (version : ℕ) → version ≤ commits history
    → dataset_at (history ++ later) version ≡ dataset_at history version

-- a commit makes one version, of the dataset after its patch, also where that is the dataset before
-- it
abbrev pub CommitMakesVersion : Type 0
CommitMakesVersion =
    (history : List Operation) (seat : ℕ) (patch : Patch)
    → (commits (history ++ Commit seat patch ∷ []) ≡ suc (commits history))
    × (newest_dataset (history ++ Commit seat patch ∷ [])
    ≡ after (newest_dataset history) patch.lines)

-- two patches with the same lines, in whatever order and however often, make the same version
abbrev pub PatchLinesInAnyOrder : Type 0
PatchLinesInAnyOrder =
    (history : List Operation) (seat seat2 : ℕ) (one two : Patch)
    → ((s : Signed) → has_line one.lines s ≡ has_line two.lines s)
    →
    newest_dataset (history ++ Commit seat one ∷ [])
    ≡ newest_dataset (history ++ Commit seat2 two ∷ [])

-- two patch texts with the same lines, in whatever order and however often, make the same version;
-- empty lines don't count
abbrev pub PatchTextsInAnyOrder : Type 0
PatchTextsInAnyOrder =
    (history : List Operation) (seat seat2 : ℕ) (one two : Patch) (text text2 : List ℕ)
    → IsPatchText text one.lines → IsPatchText text2 two.lines
    →
    ((line : List ℕ) → line ≢ [] →
    has text_eq (lines_of text) line ≡ has text_eq (lines_of text2) line)
    →
    newest_dataset (history ++ Commit seat one ∷ [])
    ≡ newest_dataset (history ++ Commit seat2 two ∷ [])

-- an entry that commits no patch makes no version
abbrev pub OnlyCommitsMakeVersions : Type 0
OnlyCommitsMakeVersions =
    (history : List Operation) (entry : Operation) → patches (entry ∷ []) ≡ []
    → (commits (history ++ entry ∷ []) ≡ commits history)
    × (newest_dataset (history ++ entry ∷ []) ≡ newest_dataset history)

-- the text number of a registration after this history
abbrev pub text_number : List Operation → ℕ
text_number history = suc (registrations history)

-- a later registration has a greater text number
abbrev pub TextNumbersRise : Type 0
TextNumbersRise =
    (history between : List Operation) (seat : ℕ) (name text : List ℕ)
    → text_number history < text_number (history ++ Register seat name text ∷ between)

-- the live frames after one more entry
abbrev pub LiveFramesStep : Type 0
LiveFramesStep =
    (history : List Operation) (entry : Operation)
    →
    live_frames (history ++ entry ∷ [])
    ≡ live_step (registrations history) (live_frames history) entry

-- a name is live from its registration on
abbrev pub LiveOnceRegistered : Type 0
LiveOnceRegistered =
    (history : List Operation) (seat : ℕ) (name text : List ℕ)
    →
    live (history ++ Register seat name text ∷ []) name
    ≡ Some (registered name (text_number history) text)

-- and no longer once it is retired
abbrev pub GoneOnceRetired : Type 0
GoneOnceRetired =
    (history : List Operation) (seat : ℕ) (name : List ℕ) →
    live (history ++ Retire seat name ∷ []) name ≡ None

-- registrations and retirements of other names don't count, nor do commits
abbrev pub OthersStayLive : Type 0
OthersStayLive =
    (history : List Operation) (seat : ℕ) (name other text : List ℕ) (patch : Patch) →
    text_eq name other ≡ false
    → (live (history ++ Register seat other text ∷ []) name ≡ live history name)
    × (live (history ++ Retire seat other ∷ []) name ≡ live history name)
    × (live (history ++ Commit seat patch ∷ []) name ≡ live history name)

-- an entry registers the name
abbrev pub registers : List ℕ → Operation → Bool
registers name (Commit seat patch) = false
registers name (Register seat other text) = text_eq name other
registers name (Retire seat other) = false
registers name (Publish other version) = false

-- a name that isn't live, as none is before all entries, isn't live until it is registered
abbrev pub AbsentUntilRegistered : Type 0
AbsentUntilRegistered =
    (history later : List Operation) (name : List ℕ) → live history name ≡ None
    → IsTrue (list_all (λ entry. not (registers name entry)) later) →
    live (history ++ later) name ≡ None

-- what is published of a live frame is of a version that was committed
abbrev pub PublishedWasCommitted : Type 0
PublishedWasCommitted =
    (accepts : List ℕ → Bool) (history : List Operation) (name : List ℕ) (frame : Live)
    (version : ℕ)
    → IsLegal accepts history → live history name ≡ Some frame → frame.published ≡ Some version →
    version ≤ commits history

-- a frame that is live under a name has that name, which is one of a frame
abbrev pub LiveIsNamed : Type 0
LiveIsNamed =
    (accepts : List ℕ → Bool) (history : List Operation) (name : List ℕ) (frame : Live)
    → IsLegal accepts history → live history name ≡ Some frame →
    (frame.name ≡ name) × IsTrue (is_frame_name name)

-- an entry neither registers the name anew nor retires it
abbrev pub keeps : List ℕ → Operation → Bool
keeps name (Commit seat patch) = true
keeps name (Register seat other text) = not (text_eq name other)
keeps name (Retire seat other) = not (text_eq name other)
keeps name (Publish other version) = true

-- the versions that entries publish under a name, in order
abbrev pub versions_under : List ℕ → List Operation → List ℕ
versions_under name entries =
    map (λ (notice : Notice). notice.version)
    (filter (λ (notice : Notice). text_eq notice.frame name) (notices entries))

-- the last of some versions, and where there is none the one before them
abbrev pub last_after : Option ℕ → List ℕ → Option ℕ
last_after before [] = before
last_after before (version ∷ rest) = last_after (Some version) rest

-- a registered frame, of which this version is published
abbrev pub with_published : Live → Option ℕ → Live
with_published frame version =
    record { name = frame.name; number = frame.number; text = frame.text; published = version }

-- what is published under a live name is its last publication after its registration
abbrev pub PublishedIsLast : Type 0
PublishedIsLast =
    (history later : List Operation) (seat : ℕ) (name text : List ℕ) →
    IsTrue (list_all (keeps name) later)
    → live (history ++ Register seat name text ∷ later) name
    ≡ Some (with_published (registered name (text_number history) text)
    (last_after None (versions_under name later)))
