-- Worked answers, which compute.
use Rattle.std.specs.Prelude.{◌≡◌, refl, List, [], ◌∷◌, ℕ, true, false, Ok, Err, codes}
use Rattle.lf_rdf.specs.declared.quad.Patch.{Patch}
use Rattle.lf_model.specs.declared.desk.Counted.TheVariants as counted
use Rattle.lf_model.specs.declared.error.LdError.TheVariants.{InvalidFrame}
use Rattle.lf_frames.specs.Worked.{texts_open}
use Rattle.def_histories.specs.declared.operation.Operation.{Operation}
use Rattle.def_histories.specs.declared.operation.Operation.TheVariants.{Commit, Register}
use Rattle.def_histories.specs.Legal.{most_commits, most_frame_bytes, most_frames, most_name, most_quads, most_registrations, most_text_bytes}
use Rattle.lf_desk.specs.declared.refusals.CommitErr.TheVariants as c
use Rattle.lf_desk.specs.declared.refusals.RegisterErr.TheVariants as r
use Rattle.lf_desk.specs.CommitAnswer.{commit_answer}
use Rattle.lf_desk.specs.RegisterAnswer.{register_answer}

abbrev pub all : List ℕ
all = codes "{}"

abbrev pub typed : List ℕ
typed = codes "{\"@type\":\"http://e/T\"}"

-- 16 frames are live
abbrev pub sixteen : List Operation
sixteen =
    Register 1 (codes "a") all ∷ Register 1 (codes "b") all ∷ Register 1 (codes "c") all
    ∷ Register 1 (codes "d") all
    ∷ Register 1 (codes "e") all ∷ Register 1 (codes "f") all ∷ Register 1 (codes "g") all
    ∷ Register 1 (codes "h") all
    ∷ Register 1 (codes "i") all ∷ Register 1 (codes "j") all ∷ Register 1 (codes "k") all
    ∷ Register 1 (codes "l") all
    ∷ Register 1 (codes "m") all ∷ Register 1 (codes "n") all ∷ Register 1 (codes "o") all
    ∷ Register 1 (codes "p") all
    ∷ []

-- a 17th name is refused
pub seventeenth : register_answer sixteen (codes "q") all ≡ Err (r.TooManyFrames 16 17)
unfolding most_name most_frame_bytes texts_open most_frames most_registrations most_text_bytes
seventeenth = refl

-- the text that is live is no new operation, and another text under a live name is one, also among
-- 16 frames
pub same_again : register_answer sixteen (codes "p") all ≡ Ok false
unfolding most_name most_frame_bytes
same_again = refl

pub other_text : register_answer sixteen (codes "p") typed ≡ Ok true
unfolding most_name most_frame_bytes texts_open most_frames most_registrations most_text_bytes
other_text = refl

-- the name is tried before the text
pub bad_name : register_answer [] [] (codes "{") ≡ Err r.BadName
unfolding most_name
bad_name = refl

pub not_json : register_answer [] (codes "a") (codes "{") ≡ Err r.NotJson
unfolding most_name most_frame_bytes texts_open
not_json = refl

pub no_frame : register_answer [] (codes "a") (codes "[[]]") ≡ Err (r.Ld InvalidFrame)
unfolding most_name most_frame_bytes texts_open
no_frame = refl

-- a patch without lines, of so many bytes
abbrev pub idle : ℕ → Patch
idle bytes = record { lines = []; bytes = bytes }

-- all texts have at most 268,435,456 bytes
pub longest : commit_answer [] (idle 268435456) ≡ Ok 1
unfolding most_commits most_text_bytes most_quads
longest = refl

pub too_long : commit_answer [] (idle 268435457) ≡ Err (c.HistoryFull counted.Bytes 0 268435456)
unfolding most_commits most_text_bytes
too_long = refl

pub full :
    commit_answer (Commit 1 (idle 268435456) ∷ []) (idle 1)
    ≡ Err (c.HistoryFull counted.Bytes 268435456 268435456)
unfolding most_commits most_text_bytes
full = refl

pub no_longer : commit_answer (Commit 1 (idle 268435456) ∷ []) (idle 0) ≡ Ok 2
unfolding most_commits most_text_bytes most_quads
no_longer = refl
