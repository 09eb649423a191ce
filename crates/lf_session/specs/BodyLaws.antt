-- Each body is the JSON text of a map, its members in order of their names (RFC 8259, section 4).
use Rattle.std.specs.Prelude.{◌≡◌, List, [], ◌∷◌, ℕ, nat_eq, nat_lt, Bool, ◌||◌, not, Option, IsTrue, codes, decimal}
use Rattle.std.specs.List.{list_all}
use Rattle.lf_base.specs.Ascii as ch
use Rattle.def_printed.specs.JsonText.{json_string, json_member, json_object}
use Rattle.def_patch_texts.specs.declared.kind.LineKind.{LineKind}
use Rattle.lf_model.specs.ErrorName.{name_of}
use Rattle.lf_model.specs.declared.desk.Counted.{Counted}
use Rattle.lf_model.specs.declared.document.Limit.{Limit}
use Rattle.lf_model.specs.declared.error.LdError.{LdError}
use Rattle.def_histories.specs.Legal.{is_frame_name}
use Rattle.lf_session.specs.Bodies.{error_body, frame_body, version_body, number_or_null, pending_body, bad_line_body, frame_too_long_body, too_many_body, history_full_body, fractional_body, limit_body, idle_body, published_body, home_body, superseded_body}
use Rattle.lf_names.specs.Names.{kind_name, counted_name, limit_name, limit_number}

-- a byte that stands in a JSON string as it is
abbrev pub is_unescaped : ℕ → Bool
is_unescaped b = not (nat_eq b ch.quote || nat_eq b ch.backslash || nat_lt b ch.space)

-- a text member, and a number
abbrev pub text_member : List ℕ → List ℕ → List ℕ
text_member name text = json_member name (json_string text)

abbrev pub number_member : List ℕ → ℕ → List ℕ
number_member name number = json_member name (decimal number)

pub record BodiesAreJson : Type 0 where
  pub error : (text : List ℕ) → IsTrue (list_all is_unescaped text)
      → error_body text ≡ json_object (text_member (codes "error") text ∷ [])
  pub named :
      (e : LdError) →
      error_body (name_of e) ≡ json_object (text_member (codes "error") (name_of e) ∷ [])
  pub frame : (name : List ℕ) → IsTrue (is_frame_name name)
      → frame_body name ≡ json_object (text_member (codes "frame") name ∷ [])
  pub version :
      (version : ℕ) →
      version_body version ≡ json_object (number_member (codes "version") version ∷ [])
  pub pending : (have : Option ℕ) (need : ℕ)
      → pending_body have need
      ≡ json_object (json_member (codes "have") (number_or_null have)
      ∷ number_member (codes "need") need ∷ [])
  pub too_long : (size : ℕ)
      → frame_too_long_body size
      ≡ json_object (text_member (codes "error") (codes "frame too long")
      ∷ number_member (codes "length") size ∷ [])
  pub bad_line : (kind : LineKind) (line : ℕ)
      → bad_line_body kind line
      ≡ json_object
      (text_member (codes "error") (kind_name kind) ∷ number_member (codes "line") line ∷ [])
  pub quads : (have would : ℕ)
      → too_many_body (codes "quads") have would
      ≡ json_object (text_member (codes "error") (codes "too many quads")
      ∷ number_member (codes "have") have ∷ number_member (codes "would") would ∷ [])
  pub frames : (have would : ℕ)
      → too_many_body (codes "frames") have would
      ≡ json_object (text_member (codes "error") (codes "too many frames")
      ∷ number_member (codes "have") have ∷ number_member (codes "would") would ∷ [])
  pub full : (of : Counted) (have most : ℕ)
      → history_full_body of have most
      ≡ json_object (text_member (codes "error") (codes "history full")
      ∷ number_member (codes "have") have ∷ number_member (codes "limit") most
      ∷ text_member (codes "of") (counted_name of) ∷ [])
  pub fractional : (path : List ℕ)
      → fractional_body path
      ≡ json_object (text_member (codes "error") (codes "fractional number")
      ∷ text_member (codes "path") path ∷ [])
  pub over : (limit : Limit)
      → limit_body limit
      ≡ json_object (text_member (codes "error") (codes "document limit")
      ∷ text_member (codes "limit") (limit_name limit)
      ∷ number_member (codes "number") (limit_number limit) ∷ [])
  pub idle : idle_body ≡ json_object (text_member (codes "turn") (codes "idle") ∷ [])
  pub published : (name : List ℕ) (version : ℕ) → IsTrue (is_frame_name name)
      → published_body name version
      ≡ json_object (text_member (codes "frame") name
      ∷ text_member (codes "turn") (codes "published")
      ∷ number_member (codes "version") version ∷ [])
  pub home : (name : List ℕ) → IsTrue (is_frame_name name)
      →
      home_body name
      ≡ json_object
      (text_member (codes "frame") name ∷ text_member (codes "turn") (codes "home") ∷ [])
  pub superseded : (name : List ℕ) (was : ℕ) (now : Option ℕ) → IsTrue (is_frame_name name)
      → superseded_body name was now
      ≡ json_object (text_member (codes "frame") name
      ∷ json_member (codes "now") (number_or_null now) ∷ number_member (codes "then") was
      ∷ text_member (codes "turn") (codes "superseded") ∷ [])
