-- The live frames of a state, each beside the frame that its text means, its board where that is at
-- home, and its published document.
use Rattle.std.specs.Prelude.{◌≡◌, ◌≤◌, List, [], ◌∷◌, ℕ, length, Bool, ◌&&◌, not, if◌then◌else◌, map, Option, None, Some, is_some}
use Rattle.std.specs.Arc.{arc_value}
use Rattle.std.specs.List.{filter, find, fold, AllByRecursion}
use Rattle.std.specs.declared.alloc.Global.{Global}
use Rattle.std.specs.declared.sync.Arc.{Arc}
use Rattle.lf_rdf.specs.Equality.{text_eq}
use Rattle.lf_model.specs.declared.document.Doc.{Doc}
use Rattle.lf_model.specs.declared.frame.Frame.{Frame}
use Rattle.def_contexts.specs.FrameValues.{frame_meaning}
use Rattle.def_datasets.specs.Dataset.{at_version}
use Rattle.def_histories.specs.declared.live.Live.{Live}
use Rattle.def_histories.specs.HistoryLaws.{with_published}
use Rattle.def_turns.specs.Turns.{is_before, is_older}
use Rattle.lf_frames.specs.FrameTexts.{accepted, document, frame_text}
use Rattle.lf_versions.specs.declared.commit.Commit.{Commit}
use Rattle.lf_versions.specs.Commits.{lines_of}
use Rattle.lf_board.specs.Boards as boards
use Rattle.lf_board.specs.Boards.{MayTurn, Shown}
use Rattle.lf_core.specs.declared.frames.Kept.{Kept}

abbrev pub live_of : Kept → Live
live_of kept = kept.live

abbrev pub lives : List Kept → List Live
lives frames = map live_of frames

abbrev pub number_of : Kept → ℕ
number_of kept = kept.live.number

-- a frame has the name
abbrev pub has_name : List ℕ → Kept → Bool
has_name name kept = text_eq name kept.live.name

abbrev pub find_kept : List ℕ → List Kept → Option Kept
find_kept name frames = find (has_name name) frames

abbrev pub without_kept : List ℕ → List Kept → List Kept
without_kept name frames = filter (λ kept. not (has_name name kept)) frames

-- a frame is what a text means
abbrev pub IsMeant : List ℕ → Frame → Type 0
IsMeant text frame = frame_text text ≡ accepted (frame_meaning frame)

-- a board at home is of the text's frame, and its version begins the commits
abbrev pub IsHome : List Commit → List ℕ → Option Shown → Type 0
IsHome commits text None = Unit {0}
IsHome commits text (Some board) = IsMeant text board.frame × MayTurn board commits

-- the document of the published version, from scratch
abbrev pub IsShown : List Commit → List ℕ → Option ℕ → Option (Arc Doc Global) → Type 0
IsShown commits text None None = Unit {0}
IsShown commits text (Some version) (Some doc) =
    (version ≤ length commits)
    × (arc_value doc ≡ document text (at_version (lines_of commits) version))
IsShown commits text None (Some doc) = ⊥
IsShown commits text (Some version) None = ⊥

-- what a state keeps of a live frame over its commits
pub record IsKept (commits : List Commit) (kept : Kept) : Type 0 where
  pub read : IsMeant kept.live.text kept.frame
  pub home : IsHome commits kept.live.text kept.board
  pub shown : IsShown commits kept.live.text kept.live.published kept.doc

abbrev pub AreKept : List Commit → List Kept → Type 0
AreKept commits frames = AllByRecursion (IsKept commits) frames

-- the frame has its board at home and waits for a turn
abbrev pub waits_home : ℕ → Kept → Bool
waits_home newest kept = is_some kept.board && is_older newest kept.live.published

-- the first so far of the frames that wait, and one more frame
abbrev pub first_kept : Option Kept → Kept → Option Kept
first_kept None kept = Some kept
first_kept (Some best) kept = if is_before kept.live best.live then Some kept else Some best

abbrev pub better_kept : ℕ → Option Kept → Kept → Option Kept
better_kept newest best kept = if waits_home newest kept then first_kept best kept else best

-- the frame whose turn is next
abbrev pub next_kept : ℕ → List Kept → Option Kept
next_kept newest frames = fold (better_kept newest) None frames

-- ---- what changes in the frame of a name

abbrev pub updated : List ℕ → (Kept → Kept) → List Kept → List Kept
updated name change [] = []
updated name change (kept ∷ rest) =
    if has_name name kept then change kept ∷ rest else kept ∷ updated name change rest

-- its board goes out
abbrev pub without_board : Kept → Kept
without_board kept = record { live = kept.live; frame = kept.frame; board = None; doc = kept.doc }

-- a board comes home
abbrev pub with_board : Shown → Kept → Kept
with_board board kept =
    record { live = kept.live; frame = kept.frame; board = Some board; doc = kept.doc }

-- a board comes home, and its document is published
abbrev pub with_document : ℕ → Option (Arc Doc Global) → Shown → Kept → Kept
with_document version doc board kept =
    record {
      live = with_published kept.live (Some version);
      frame = kept.frame;
      board = Some board;
      doc = doc;
    }

-- a handle is that of a board's document, where there is a board
abbrev pub HandlesBoard : Option Shown → Option Doc → Type 0
HandlesBoard None doc = Unit {0}
HandlesBoard (Some board) doc = doc ≡ boards.document board

-- the board of a frame that was found
abbrev pub board_of : Option Kept → Option Shown
board_of None = None
board_of (Some kept) = kept.board
