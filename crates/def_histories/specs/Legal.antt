-- Legal histories: each entry is allowed after the entries before it. Which texts are accepted as
-- frames is a test that is given.
use Rattle.std.specs.Prelude.{◌≡◌, ◌≢◌, ◌≤◌, ◌<◌, List, ◌∷◌, ◌++◌, ℕ, nat_eq, nat_le, ◌+◌, length, Bool, ◌&&◌, ◌||◌, IsTrue, IsSome, Option, Some, None}
use Rattle.std.specs.List.{list_all}
use Rattle.lf_base.specs.Ascii as ch
use Rattle.def_datasets.specs.Dataset.{after}
use Rattle.def_histories.specs.declared.live.Live.{Live}
use Rattle.def_histories.specs.declared.operation.Operation.{Operation}
use Rattle.def_histories.specs.declared.operation.Operation.TheVariants.{Commit, Register, Retire, Publish}
use Rattle.def_histories.specs.History.{commits, registrations, text_bytes, live_frames, without, live}
use Rattle.def_histories.specs.Replay.{newest_dataset}

-- the most quads of a version
unfoldable pub most_quads : ℕ
most_quads = 400000

-- the most commits of a history
unfoldable pub most_commits : ℕ
most_commits = 65536

-- the most registrations of a history
unfoldable pub most_registrations : ℕ
most_registrations = 65536

-- the most bytes of the texts of a history
unfoldable pub most_text_bytes : ℕ
most_text_bytes = 268435456

-- the most bytes of a frame's text
unfoldable pub most_frame_bytes : ℕ
most_frame_bytes = 65536

-- the most live frames
unfoldable pub most_frames : ℕ
most_frames = 16

-- the most characters of a frame's name
unfoldable pub most_name : ℕ
most_name = 64

-- a letter, a digit, `_` or `-`, in ASCII
abbrev pub is_name_byte : ℕ → Bool
is_name_byte b =
    (nat_le 65 b && nat_le b 90) || (nat_le 97 b && nat_le b 122) || (nat_le 48 b && nat_le b 57)
    || nat_eq b ch.underscore || nat_eq b ch.hyphen

-- the name of a frame
abbrev pub is_frame_name : List ℕ → Bool
is_frame_name name =
    nat_le 1 (length name) && nat_le (length name) most_name && list_all is_name_byte name

-- the text that is live under a name
abbrev pub text_of : Option Live → Option (List ℕ)
text_of None = None
text_of (Some frame) = Some frame.text

abbrev pub live_text : List Operation → List ℕ → Option (List ℕ)
live_text history name = text_of (live history name)

-- a version is newer than the published one, where there is one
abbrev pub IsNewer : ℕ → Option ℕ → Type 0
IsNewer version None = Unit
IsNewer version (Some published) = published < version

-- a version may be published of what is live under a name
abbrev pub MayPublish : ℕ → Option Live → Type 0
MayPublish version None = ⊥
MayPublish version (Some frame) = IsNewer version frame.published

-- a patch of these bytes, which makes this dataset, may be committed after the history
pub record IsCommit (history : List Operation) (bytes : ℕ) (quads : ℕ) : Type 0 where
  pub counted : commits history < most_commits
  pub sized : text_bytes history + bytes ≤ most_text_bytes
  pub held : quads ≤ most_quads

-- a text may be registered under a name after the history
pub record IsRegistration (accepts : List ℕ → Bool) (history : List Operation) (name text : List ℕ)
    : Type 0 where
  pub named : IsTrue (is_frame_name name)
  pub short : length text ≤ most_frame_bytes
  pub framed : IsTrue (accepts text)
  pub other : live_text history name ≢ Some text
  pub placed : length (without name (live_frames history)) < most_frames
  pub counted : registrations history < most_registrations
  pub sized : text_bytes history + length text ≤ most_text_bytes

-- an entry may follow the history
abbrev pub IsAllowed : (List ℕ → Bool) → List Operation → Operation → Type 0
IsAllowed accepts history (Commit seat patch) =
    IsCommit history patch.bytes (length (after (newest_dataset history) patch.lines))
IsAllowed accepts history (Register seat name text) = IsRegistration accepts history name text
IsAllowed accepts history (Retire seat name) = IsSome (live history name)
IsAllowed accepts history (Publish name version) =
    (version ≤ commits history) × MayPublish version (live history name)

-- each entry is allowed after those before it
abbrev pub IsLegal : (List ℕ → Bool) → List Operation → Type 0
IsLegal accepts history =
    (before : List Operation) (entry : Operation) (rest : List Operation)
    → history ≡ before ++ entry ∷ rest → IsAllowed accepts before entry
