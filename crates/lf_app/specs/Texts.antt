-- The exit status of each answer, and the text that it prints.
use Rattle.std.specs.Prelude.{List, [], ◌∷◌, ◌++◌, ℕ, codes, decimal}
use Rattle.lf_model.specs.ErrorName.{name_of}
use Rattle.def_histories.specs.Legal.{most_frame_bytes, most_commits, most_text_bytes, most_quads}
use Rattle.lf_nquads.specs.Patches.{text_limit}
use Rattle.lf_names.specs.Names.{kind_name, limit_name, limit_number}
use Rattle.lf_app.specs.declared.answer.Fault.{Fault}
use Rattle.lf_app.specs.declared.answer.Fault.TheVariants as fault
use Rattle.lf_app.specs.declared.answer.Passed.{Passed}
use Rattle.lf_app.specs.declared.answer.Passed.TheVariants as passed
use Rattle.lf_app.specs.Answers.{Answer, usage, cannot_read, bad_line, bad_frame, over, accepted, document, no_memory}

abbrev pub status_said : Answer → ℕ
status_said accepted = 0
status_said (document text) = 0
status_said usage = 2
status_said (cannot_read file) = 5
status_said (bad_line file line kind) = 6
status_said (bad_frame file why) = 7
status_said (over limit) = 8
status_said no_memory = 9

-- the line that names the words that there are
unfoldable pub usage_line : List ℕ
usage_line =
    codes "usage: ldframes frame FRAME DATA.. or check FRAME or load SEED N or session [NAME=PATH].. or serve PORT WORKERS [NAME=PATH].."

-- what is wrong with a frame
unfoldable pub fault_name : Fault → List ℕ
fault_name fault.NotJson = codes "not JSON"
fault_name fault.Fractional = codes "fractional number"
fault_name (fault.Ld error) = name_of error

-- a limit, and its number
unfoldable pub passed_name : Passed → List ℕ
passed_name passed.FrameText = codes "frame text"
passed_name passed.PatchText = codes "patch text"
passed_name passed.Commits = codes "commits"
passed_name passed.HistoryBytes = codes "history bytes"
passed_name passed.Quads = codes "quads"
passed_name (passed.Document limit) = limit_name limit

unfoldable pub passed_number : Passed → ℕ
passed_number passed.FrameText = most_frame_bytes
passed_number passed.PatchText = text_limit
passed_number passed.Commits = most_commits
passed_number passed.HistoryBytes = most_text_bytes
passed_number passed.Quads = most_quads
passed_number (passed.Document limit) = limit_number limit

-- the texts that are printed in a row
abbrev pub texts_of : Answer → List (List ℕ)
texts_of usage = usage_line ∷ codes "\n" ∷ []
texts_of (cannot_read file) = codes "cannot read " ∷ file ∷ codes "\n" ∷ []
texts_of (bad_line file line kind) =
    file ∷ codes " line " ∷ decimal line ∷ codes ": " ∷ kind_name kind ∷ codes "\n" ∷ []
texts_of (bad_frame file why) = file ∷ codes ": " ∷ fault_name why ∷ codes "\n" ∷ []
texts_of (over limit) =
    codes "limit: " ∷ passed_name limit ∷ codes " " ∷ decimal (passed_number limit) ∷ codes "\n"
    ∷ []
texts_of accepted = codes "ok" ∷ codes "\n" ∷ []
texts_of (document text) = text ∷ codes "\n" ∷ []
texts_of no_memory = []

-- texts in a row
abbrev pub in_row : List (List ℕ) → List ℕ
in_row [] = []
in_row (text ∷ texts) = text ++ in_row texts

abbrev pub six_texts : List ℕ → List ℕ → List ℕ → List ℕ → List ℕ → List ℕ → List (List ℕ)
six_texts one two three four five six = one ∷ two ∷ three ∷ four ∷ five ∷ six ∷ []

-- the text that an answer prints
abbrev pub text_said : Answer → List ℕ
text_said answer = in_row (texts_of answer)
