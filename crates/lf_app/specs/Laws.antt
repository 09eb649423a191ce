-- What words come to over told files.
use Rattle.std.specs.Prelude.{◌≡◌, List, ℕ, Some, None}
use Rattle.lf_io.specs.Files.{Files}
use Rattle.lf_app.specs.Answers.{Answer, cannot_read, no_memory, Comes}

-- Neither is no memory found, nor can a file that is there not be read.
abbrev pub IsCaused : Files → Answer → Type 0
IsCaused files (cannot_read file) = files file ≡ None
IsCaused files no_memory = ⊥
IsCaused files _ = Unit {0}

-- Where the files are told, words come to one answer. So each answer comes exactly where its
-- condition holds.
abbrev pub EachRunSaysOneThing : Type 0
EachRunSaysOneThing =
    (files : Files) (words : List (List ℕ)) (one two : Answer)
    → Comes (Some files) words one → Comes (Some files) words two → IsCaused files one →
    IsCaused files two → one ≡ two
