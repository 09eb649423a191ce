-- What the words of the command line ask for.
use Rattle.std.specs.Prelude.{List, [], ◌∷◌, ℕ, nat_eq, Bool, false, if◌then◌else◌, Option, Some, None, codes, map, string_bytes}
use Rattle.std.specs.List.{list_any}
use Rattle.std.specs.Cmp.Lexicographic.{pointwise}
use Rattle.lf_base.specs.Ascii as ch
use Rattle.lf_app.specs.declared.words.Command.{Command as ReadCommand}
use Rattle.lf_app.specs.declared.words.Command.TheVariants as read

-- A frame file and one or more data files are framed, a frame file is checked, or one stream is
-- served. Files go by their words.
pub data Command : Type 0 where
  frame : List ℕ → List (List ℕ) → Command
  check : List ℕ → Command
  session : Command

-- a word that begins with `-` is refused wherever it stands
abbrev pub begins_with_dash : List ℕ → Bool
begins_with_dash [] = false
begins_with_dash (byte ∷ rest) = nat_eq byte ch.hyphen

abbrev pub is_word : List ℕ → List ℕ → Bool
is_word word name = pointwise nat_eq word name

-- the words behind each command's name
abbrev pub frame_words : List (List ℕ) → Option Command
frame_words [] = None
frame_words (file ∷ []) = None
frame_words (file ∷ data_file ∷ more) = Some (frame file (data_file ∷ more))

abbrev pub check_words : List (List ℕ) → Option Command
check_words [] = None
check_words (file ∷ []) = Some (check file)
check_words (file ∷ more ∷ words) = None

abbrev pub session_words : List (List ℕ) → Option Command
session_words [] = Some session
session_words (more ∷ words) = None

abbrev pub command_named : List ℕ → List (List ℕ) → Option Command
command_named name words =
    if is_word name (codes "frame") then frame_words words
    else if is_word name (codes "check") then check_words words
    else if is_word name (codes "session") then session_words words
    else None

abbrev pub first_command : List (List ℕ) → Option Command
first_command [] = None
first_command (name ∷ words) = command_named name words

-- what the words ask for; all other words are refused
abbrev pub command_of : List (List ℕ) → Option Command
command_of words = if list_any begins_with_dash words then None else first_command words

-- what the program read stands for
abbrev pub command_read : ReadCommand → Command
command_read (read.Frame file files) = frame file.now (map string_bytes files.now)
command_read (read.Check file) = check file.now
command_read read.Session = session
