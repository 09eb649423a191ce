-- What a text comes to, by what `serde_json` reads.
use Rattle.std.proofs.Common.{◌≡◌, refl, ◌∙◌, ap, ℕ, List, Bool, true, false, Some, None, IsUtf8}
use Rattle.std.specs.Str.{is_utf8}
use Rattle.std.proofs.lemmas.Str.{is_utf8-from_IsUtf8, IsUtf8-from_is_utf8}
use Rattle.serde_json.specs.Data.{Data}
use Rattle.serde_json.specs.Read.{read}
use Rattle.lf_json.specs.Reading.{fraction_in}
use Rattle.lf_json.specs.Answers.{States}
use Rattle.lf_frames.specs.FrameTexts.{not_json, fractional, of_value, of_read, of_text, frame_text}

-- a text that states a value comes to what the value comes to
pub states_value : (text : List ℕ) (value : Data) → States text value → frame_text text ≡ of_value value (fraction_in false value)
unfolding frame_text
states_value text value (utf8, reads) =
    ap (λ (b : Bool). of_text b text) (is_utf8-from_IsUtf8 text utf8) ∙ ap of_read reads

pub told_fractional : (text path : List ℕ) (value : Data) → States text value → fraction_in false value ≡ Some path
    → frame_text text ≡ fractional path
told_fractional text path value states found = states_value text value states ∙ ap (of_value value) found

pub told_not_json : (text : List ℕ) → (IsUtf8 text → read text ≡ None) → frame_text text ≡ not_json
unfolding frame_text
told_not_json text none = go (is_utf8 text) refl
  where
    go : (b : Bool) → is_utf8 text ≡ b → of_text b text ≡ not_json
    go false e = refl
    go true e = ap of_read (none (IsUtf8-from_is_utf8 text e))

pub told_value : (text : List ℕ) (value : Data) → States text value → fraction_in false value ≡ None
    → frame_text text ≡ of_value value None
told_value text value states whole = states_value text value states ∙ ap (of_value value) whole
