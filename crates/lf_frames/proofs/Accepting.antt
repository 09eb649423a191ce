-- A text is accepted exactly where it states a value that means a frame.
use Rattle.std.proofs.Common.{◌≡◌, refl, sym, ◌∙◌, ap, ℕ, List, Bool, true, false, Option, Some, None, Result, Ok, Err}
use Rattle.std.specs.Str.{is_utf8}
use Rattle.std.proofs.lemmas.Bool.{false≢true}
use Rattle.std.proofs.lemmas.Str.{IsUtf8-from_is_utf8}
use Rattle.serde_json.specs.Data.{Data}
use Rattle.serde_json.specs.Read.{read}
use Rattle.lf_model.specs.declared.error.LdError.{LdError}
use Rattle.def_contexts.specs.Frames.{FrameMeaning, frame_of}
use Rattle.def_scratch.specs.Scratch.{scratch_by}
use Rattle.lf_json.specs.Reading.{json_of, fraction_in}
use Rattle.lf_json.specs.Answers.{States}
use Rattle.lf_frames.specs.FrameTexts.{FrameText, not_json, fractional, refused, accepted, of_meaning, of_value, of_read, of_text, frame_text, is_accepted, document_of}
use Rattle.lf_frames.specs.Laws.{Means, AcceptsFrames, DocumentsAreScratch, ReadFramesGiveDocuments}
use Rattle.lf_frames.proofs.Told.{states_value}

not_accepted : {told : FrameText} {meaning : FrameMeaning} → is_accepted told ≡ false → told ≡ accepted meaning → ⊥
not_accepted unlike same = false≢true (sym unlike ∙ ap is_accepted same)

meaning_in : FrameMeaning → FrameText → FrameMeaning
meaning_in other (accepted meaning) = meaning
meaning_in other not_json = other
meaning_in other (fractional path) = other
meaning_in other (refused error) = other

same_meaning : (one two : FrameMeaning) → accepted one ≡ accepted two → one ≡ two
unfolding meaning_in
same_meaning one two same = ap (meaning_in one) same

-- what is accepted of what a value comes to
of_frame : (result : Result FrameMeaning LdError) (meaning : FrameMeaning) → of_meaning result ≡ accepted meaning → result ≡ Ok meaning
of_frame (Ok own) meaning same = ap Ok (same_meaning own meaning same)
of_frame (Err error) meaning same = absurd (not_accepted refl same)

with_value : (text : List ℕ) (meaning : FrameMeaning) (value : Data) (path : Option (List ℕ)) → States text value
    → fraction_in false value ≡ path → of_value value path ≡ accepted meaning → Means text meaning
with_value text meaning value (Some path) states found same = absurd (not_accepted refl same)
with_value text meaning value None states whole same =
    record { value = value; states = states; whole = whole; means = of_frame (frame_of (json_of value)) meaning same }

with_read : (text : List ℕ) (meaning : FrameMeaning) (found : Option Data) → is_utf8 text ≡ true → read text ≡ found
    → of_read found ≡ accepted meaning → Means text meaning
with_read text meaning None utf8 reads same = absurd (not_accepted refl same)
with_read text meaning (Some value) utf8 reads same =
    with_value text meaning value (fraction_in false value) (IsUtf8-from_is_utf8 text utf8, reads) refl same

with_text : (text : List ℕ) (meaning : FrameMeaning) (utf8 : Bool) → is_utf8 text ≡ utf8 → of_text utf8 text ≡ accepted meaning
    → Means text meaning
with_text text meaning false e same = absurd (not_accepted refl same)
with_text text meaning true e same = with_read text meaning (read text) e refl same

pub means_accepted : (text : List ℕ) (meaning : FrameMeaning) → Means text meaning → frame_text text ≡ accepted meaning
means_accepted text meaning m =
    states_value text m.value m.states ∙ (ap (of_value m.value) m.whole ∙ ap of_meaning m.means)

accepted_means : (text : List ℕ) (meaning : FrameMeaning) → frame_text text ≡ accepted meaning → Means text meaning
unfolding frame_text
accepted_means text meaning same = with_text text meaning (is_utf8 text) refl same

pub accepts_frames : AcceptsFrames
accepts_frames text meaning = (accepted_means text meaning, means_accepted text meaning)

pub documents_are_scratch : DocumentsAreScratch
documents_are_scratch text meaning m dataset =
    ap (λ (result : Result FrameMeaning LdError). scratch_by result dataset) m.means
    ∙ ap (λ (told : FrameText). Ok (document_of told dataset)) (sym (means_accepted text meaning m))

pub read_frames_give_documents : ReadFramesGiveDocuments
read_frames_give_documents text frame dataset same =
    ap (λ (told : FrameText). document_of told dataset) (sym same)
