-- Worked texts of frames, which compute.
use Rattle.std.specs.Prelude.{◌≡◌, refl, true, codes}
use Rattle.std.specs.Char.{encode_utf8}
use Rattle.std.specs.Str.{is_utf8, chars}
use Rattle.json.specs.Json.{value}
use Rattle.json.specs.Lex.{punctuate, lex}
use Rattle.json.specs.Text.{content}
use Rattle.json.specs.Word.{word, after_number}
use Rattle.serde_json.specs.Read.{number_of}
use Rattle.lf_model.specs.declared.error.LdError.TheVariants.{InvalidEmbedValue}
use Rattle.def_scratch.specs.RowWords.{rows_open}
use Rattle.lf_frames.specs.FrameTexts.{not_json, refused, frame_text, is_frame}

-- a proof that unfolds this computes what a text comes to
unfoldable pub texts_open : Unit {0}
unfolding rows_open encode_utf8 is_utf8 chars value punctuate lex content word after_number
    number_of frame_text
texts_open = tt

pub no_json : frame_text (codes "{") ≡ not_json
unfolding texts_open
no_json = refl

pub embeds_links : frame_text (codes "{\"@embed\":\"@link\"}") ≡ refused InvalidEmbedValue
unfolding texts_open
embeds_links = refl

pub empty_frame : is_frame (codes "{}") ≡ true
unfolding texts_open
empty_frame = refl
