-- What the files of the words hold, and the history that data files make.
use Rattle.std.specs.Prelude.{◌≡◌, ◌≤◌, ◌<◌, List, [], ◌∷◌, ◌++◌, ℕ, length, Option, IsTrue, Ok}
use Rattle.lf_rdf.specs.declared.quad.Patch.{Patch}
use Rattle.def_patch_texts.specs.declared.kind.LineKind.{LineKind}
use Rattle.def_patch_texts.specs.PatchText.{IsPatchText}
use Rattle.def_patch_texts.specs.BadLine.{IsBadLine}
use Rattle.def_histories.specs.declared.operation.Operation.{Operation}
use Rattle.def_histories.specs.declared.operation.Operation.TheVariants.{Commit}
use Rattle.def_histories.specs.Legal.{most_frame_bytes}
use Rattle.lf_nquads.specs.Patches.{text_limit}
use Rattle.lf_io.specs.Files.{Files, MayHold}
use Rattle.lf_frames.specs.FrameTexts.{is_frame}
use Rattle.lf_desk.specs.CommitAnswer.{commit_answer}

-- the number of the seat that commits data files and serves the stream of `session`
abbrev pub session_seat : ℕ
session_seat = 0

-- The file may hold the text of a frame, no longer than a frame may be.
pub record HoldsFrame (files : Option Files) (name text : List ℕ) : Type 0 where
  pub held : MayHold files name text
  pub within : length text ≤ most_frame_bytes
  pub accepted : IsTrue (is_frame text)

-- The file may hold more bytes than this.
abbrev pub HoldsMore : Option Files → List ℕ → ℕ → Type 0
HoldsMore files name most = (bytes : List ℕ) × MayHold files name bytes × (most < length bytes)

-- The file may hold a patch text that states these lines, no longer than a patch text may be.
pub record HoldsPatch (files : Option Files) (name : List ℕ) (patch : Patch) : Type 0 where
  pub bytes : List ℕ
  pub held : MayHold files name bytes
  pub within : length bytes ≤ text_limit
  pub states : IsPatchText bytes patch.lines
  pub sized : patch.bytes ≡ length bytes

-- The file may hold a text whose first bad line has this number and kind.
pub record HoldsBadLine (files : Option Files) (name : List ℕ) (line : ℕ) (kind : LineKind) :
    Type 0 where
  pub bytes : List ℕ
  pub held : MayHold files name bytes
  pub within : length bytes ≤ text_limit
  pub bad : IsBadLine bytes line kind

-- The patch of the file is committed as the next version.
pub record IsCommitted (files : Option Files) (name : List ℕ) (before after : List Operation) :
    Type 0 where
  pub patch : Patch
  pub version : ℕ
  pub holds : HoldsPatch files name patch
  pub accepted : commit_answer before patch ≡ Ok version
  pub follows : after ≡ before ++ Commit session_seat patch ∷ []

-- The files are committed in order.
abbrev pub AreCommitted : Option Files → List (List ℕ) → List Operation → List Operation → Type 0
AreCommitted files [] before after = after ≡ before
AreCommitted files (name ∷ names) before after =
    (middle : List Operation) × IsCommitted files name before middle
    × AreCommitted files names middle after
