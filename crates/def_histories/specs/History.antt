-- A history is a list of operations. What it tells: the patches, the texts and their bytes, and the
-- frames that are live.
use Rattle.std.specs.Prelude.{List, [], ◌∷◌, ◌++◌, ℕ, suc, ◌+◌, length, map, not, if◌then◌else◌, Option, Some, None}
use Rattle.std.specs.List.{filter, find}
use Rattle.lf_rdf.specs.declared.quad.Signed.{Signed}
use Rattle.lf_rdf.specs.Equality.{text_eq}
use Rattle.def_histories.specs.declared.live.Live.{Live}
use Rattle.def_histories.specs.declared.operation.Operation.{Operation}
use Rattle.def_histories.specs.declared.operation.Operation.TheVariants.{Commit, Register, Retire, Publish}

-- the lines of the patches that were committed, in order
abbrev pub patches : List Operation → List (List Signed)
patches [] = []
patches (Commit seat patch ∷ rest) = patch.lines ∷ patches rest
patches (Register seat name text ∷ rest) = patches rest
patches (Retire seat name ∷ rest) = patches rest
patches (Publish name version ∷ rest) = patches rest

-- how many commits there are: the number of the newest version
abbrev pub commits : List Operation → ℕ
commits history = length (patches history)

-- how many registrations there are: the text number of the last one, counted from 1
abbrev pub registrations : List Operation → ℕ
registrations [] = 0
registrations (Commit seat patch ∷ rest) = registrations rest
registrations (Register seat name text ∷ rest) = suc (registrations rest)
registrations (Retire seat name ∷ rest) = registrations rest
registrations (Publish name version ∷ rest) = registrations rest

-- the bytes of all patch texts and frame texts
abbrev pub text_bytes : List Operation → ℕ
text_bytes [] = 0
text_bytes (Commit seat patch ∷ rest) = patch.bytes + text_bytes rest
text_bytes (Register seat name text ∷ rest) = length text + text_bytes rest
text_bytes (Retire seat name ∷ rest) = text_bytes rest
text_bytes (Publish name version ∷ rest) = text_bytes rest

-- the frames without that of a name
abbrev pub without : List ℕ → List Live → List Live
without name frames = filter (λ frame. not (text_eq name frame.name)) frames

-- a registered frame, of which nothing is published
abbrev pub registered : List ℕ → ℕ → List ℕ → Live
registered name number text = record { name = name; number = number; text = text; published = None }

-- a frame whose document was published, if it is that of the name
abbrev pub publish : List ℕ → ℕ → Live → Live
publish name version frame =
    if text_eq name frame.name
    then record
    { name = frame.name; number = frame.number; text = frame.text; published = Some version }
    else frame

-- the live frames after one more entry, where this many registrations were before it
abbrev pub live_step : ℕ → List Live → Operation → List Live
live_step count frames (Commit seat patch) = frames
live_step count frames (Register seat name text) =
    without name frames ++ registered name (suc count) text ∷ []
live_step count frames (Retire seat name) = without name frames
live_step count frames (Publish name version) = map (publish name version) frames

-- the live frames, in order of their registrations, after entries that follow others
abbrev pub live_from : ℕ → List Live → List Operation → List Live
live_from count frames [] = frames
live_from count frames (entry ∷ rest) =
    live_from (count + registrations (entry ∷ [])) (live_step count frames entry) rest

abbrev pub live_frames : List Operation → List Live
live_frames history = live_from 0 [] history

-- the first frame of a name
abbrev pub find_frame : List ℕ → List Live → Option Live
find_frame name frames = find (λ frame. text_eq name frame.name) frames

-- what is live under a name
abbrev pub live : List Operation → List ℕ → Option Live
live history name = find_frame name (live_frames history)
