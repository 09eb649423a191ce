-- A board holds a frame and, once it was turned, a version: what the frame gives for each term of
-- that version's dataset, and its document (JSON-LD 1.1 Framing, section 4).
use Rattle.std.specs.Prelude.{◌≡◌, List, ℕ, length, map, Option, None, Some}
use Rattle.std.specs.Arc.{arc_value}
use Rattle.lf_rdf.specs.declared.quad.Signed.{Signed}
use Rattle.lf_model.specs.declared.document.Doc.{Doc}
use Rattle.lf_model.specs.declared.frame.Frame.{Frame}
use Rattle.def_datasets.specs.Terms.{terms}
use Rattle.def_framing.specs.Outcome.{outcome}
use Rattle.def_framing.specs.OutcomeBridge.{outcome_data}
use Rattle.def_framing.specs.Views.{of_dataset}
use Rattle.def_histories.specs.Jobs.{IsPrefixIfSome}
use Rattle.def_scratch.specs.Scratch.{scratch_frame}
use Rattle.lf_versions.specs.declared.commit.Commit.{Commit}
use Rattle.lf_versions.specs.Commits.{dataset, lines_of}
use Rattle.lf_board.specs.declared.evaluated.Evaluated.{Evaluated}

-- what contracts see of a board
pub record Shown : Type 0 where
  pub frame : Frame
  pub version : Option (List Commit)

-- a board that wasn't turned yet
abbrev pub unturned : Frame → Shown
unturned frame = record { frame = frame; version = None }

-- a board that was turned to the version that commits made
abbrev pub turned : Frame → List Commit → Shown
turned frame commits = record { frame = frame; version = Some commits }

-- the document of a board: that of its frame over its version's dataset, from scratch
abbrev pub document_by : Frame → Option (List Commit) → Option Doc
document_by frame None = None
document_by frame (Some commits) = Some (scratch_frame frame (dataset commits))

abbrev pub document : Shown → Option Doc
document shown = document_by shown.frame shown.version

-- the number of a board's version
abbrev pub number_by : Option (List Commit) → Option ℕ
number_by None = None
number_by (Some commits) = Some (length commits)

abbrev pub number : Shown → Option ℕ
number shown = number_by shown.version

-- the patches of a board's version
abbrev pub patches_by : Option (List Commit) → Option (List (List Signed))
patches_by None = None
patches_by (Some commits) = Some (lines_of commits)

-- a board may be turned to a version: its own commits come first there
abbrev pub MayTurn : Shown → List Commit → Type 0
MayTurn shown commits = IsPrefixIfSome (patches_by shown.version) (lines_of commits)

-- one outcome for each term of a version's dataset, in order, and the document of these
pub record IsOf (frame : Frame) (made : Evaluated) : Type 0 where
  pub outcomes :
      map outcome_data made.outcomes
      ≡ map (outcome (of_dataset (dataset made.version)) frame) (terms (dataset made.version))
  pub doc : arc_value made.doc ≡ scratch_frame frame (dataset made.version)

abbrev pub IsOfIfSome : Frame → Option Evaluated → Type 0
IsOfIfSome frame None = Unit {0}
IsOfIfSome frame (Some made) = IsOf frame made

abbrev pub version_of : Option Evaluated → Option (List Commit)
version_of None = None
version_of (Some made) = Some made.version
