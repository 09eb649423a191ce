-- Bodies of replies as JSON texts.
use Rattle.std.proofs.Common.{◌≡◌, refl, sym, ◌∙◌, ap, arith, ◌<◌, List, [], ◌∷◌, ◌++◌, ℕ, nat_eq, nat_lt, nat_le, true, false, ◌||◌, ◌&&◌, Option, IsTrue, append_assoc, codes, decimal, length}
use Rattle.std.specs.List.{list_all, flat_map}
use Rattle.std.proofs.lemmas.Bool.{and_parts, false≢true, not-true, or_parts, or_from, false_from_ne_true, not_from_false, lt-leb, ltb-true, ltb-false, eqb-true, ne_eqb}
use Rattle.def_printed.specs.JsonText.{json_byte, json_string, json_member, json_object}
use Rattle.def_patch_texts.specs.declared.kind.LineKind.{LineKind}
use Rattle.def_patch_texts.specs.declared.kind.LineKind.TheVariants as kinds
use Rattle.lf_model.specs.ErrorName.{name_of}
use Rattle.lf_model.specs.declared.desk.Counted.{Counted}
use Rattle.lf_model.specs.declared.desk.Counted.TheVariants as counted
use Rattle.lf_model.specs.declared.document.Limit.{Limit}
use Rattle.lf_model.specs.declared.document.Limit.TheVariants as limits
use Rattle.lf_model.specs.declared.error.LdError.{LdError}
use Rattle.lf_model.specs.declared.error.LdError.TheVariants.{CollidingKeywords, CyclicIriMapping, InvalidEmbedValue, InvalidIdValue, InvalidReverseValue, InvalidVersionValue, InvalidContainerMapping, InvalidDefaultLanguage, InvalidFrame, InvalidIriMapping, InvalidKeywordAlias, InvalidLanguageMapping, InvalidLocalContext, InvalidPrefixValue, InvalidReverseProperty, InvalidTermDefinition, InvalidTypeMapping, InvalidTypeValue, InvalidValueObject, InvalidVocabMapping, KeywordRedefinition, LoadingRemoteContextFailed, IriConfusedWithPrefix}
use Rattle.def_documents.specs.Document.{most_items, most_bytes}
use Rattle.def_histories.specs.Legal.{is_frame_name, is_name_byte, most_name}
use Rattle.lf_session.specs.Bodies.{error_body, frame_body, version_body, number_or_null, pending_body, bad_line_body, frame_too_long_body, too_many_body, history_full_body, fractional_body, limit_body, idle_body, published_body, home_body, superseded_body}
use Rattle.lf_names.specs.Names.{kind_name, counted_name, limit_name, limit_number}
use Rattle.lf_session.specs.BodyLaws.{is_unescaped, text_member, number_member, BodiesAreJson}

-- ---- texts that need no escape

unescaped-parts : (b : ℕ) → is_unescaped b ≡ true → (nat_eq b 34 ≡ false) × (nat_eq b 92 ≡ false) × (nat_lt b 32 ≡ false)
unescaped-parts b is =
    let none = not-true (nat_eq b 34 || nat_eq b 92 || nat_lt b 32) is in
    let first = or_parts (nat_eq b 34 || nat_eq b 92) (nat_lt b 32) none in
    let both = or_parts (nat_eq b 34) (nat_eq b 92) first.0 in
    (both.0, both.1, first.1)

not_low : (b low : ℕ) → nat_lt b 32 ≡ false → low < 32 → nat_eq b low ≡ false
not_low b low high small = ne_eqb b low (λ same. let least = ltb-false b 32 high in omega (arith, same))

byte-as_is : (b : ℕ) → is_unescaped b ≡ true → json_byte b ≡ b ∷ []
byte-as_is b is =
    let parts = unescaped-parts b is in
    rw (
      parts.0,
      parts.1,
      not_low b 8 parts.2 (omega arith),
      not_low b 9 parts.2 (omega arith),
      not_low b 10 parts.2 (omega arith),
      not_low b 12 parts.2 (omega arith),
      not_low b 13 parts.2 (omega arith),
      parts.2,
    ) refl

as_is : (text : List ℕ) → list_all is_unescaped text ≡ true → flat_map json_byte text ≡ text
as_is [] all = refl
as_is (b ∷ text) all =
    let parts = and_parts (is_unescaped b) (list_all is_unescaped text) all in
    (λ i. byte-as_is b parts.0 i ++ flat_map json_byte text) ∙ ap (λ (w : List ℕ). b ∷ w) (as_is text parts.1)

string-as_is : (text : List ℕ) → list_all is_unescaped text ≡ true → json_string text ≡ 34 ∷ text ++ 34 ∷ []
string-as_is text all = ap (λ (w : List ℕ). 34 ∷ w ++ 34 ∷ []) (as_is text all)

-- ---- names

name-byte : (b : ℕ) → is_name_byte b ≡ true → is_unescaped b ≡ true
name-byte b is =
    not_from_false (nat_eq b 34 || nat_eq b 92 || nat_lt b 32)
    (or_from (nat_eq b 34 || nat_eq b 92) (nat_lt b 32)
    (or_from (nat_eq b 34) (nat_eq b 92)
    (false_from_ne_true (nat_eq b 34) (λ e. false≢true (ap is_name_byte (sym (eqb-true b 34 e)) ∙ is)))
    (false_from_ne_true (nat_eq b 92) (λ e. false≢true (ap is_name_byte (sym (eqb-true b 92 e)) ∙ is))))
    (false_from_ne_true (nat_lt b 32) (λ e. low (ltb-true b 32 e))))
  where
    low : b < 32 → ⊥
    low small = false≢true (sym (other small) ∙ is)
      where
        other : b < 32 → is_name_byte b ≡ false
        other less =
            rw (
              lt-leb 65 b (omega arith),
              lt-leb 97 b (omega arith),
              lt-leb 48 b (omega arith),
              ne_eqb b 95 (λ same. omega (arith, same)),
              ne_eqb b 45 (λ same. omega (arith, same)),
            ) refl

name-bytes : (name : List ℕ) → list_all is_name_byte name ≡ true → list_all is_unescaped name ≡ true
name-bytes [] all = refl
name-bytes (b ∷ name) all =
    let parts = and_parts (is_name_byte b) (list_all is_name_byte name) all in
    rw (name-byte b parts.0) (name-bytes name parts.1)

frame-name : (name : List ℕ) → is_frame_name name ≡ true → list_all is_unescaped name ≡ true
frame-name name is =
    name-bytes name (and_parts (nat_le 1 (length name) && nat_le (length name) most_name) (list_all is_name_byte name) is).1

named-plain : (e : LdError) → list_all is_unescaped (name_of e) ≡ true
named-plain CollidingKeywords = refl
named-plain CyclicIriMapping = refl
named-plain InvalidEmbedValue = refl
named-plain InvalidIdValue = refl
named-plain InvalidReverseValue = refl
named-plain InvalidVersionValue = refl
named-plain InvalidContainerMapping = refl
named-plain InvalidDefaultLanguage = refl
named-plain InvalidFrame = refl
named-plain InvalidIriMapping = refl
named-plain InvalidKeywordAlias = refl
named-plain InvalidLanguageMapping = refl
named-plain InvalidLocalContext = refl
named-plain InvalidPrefixValue = refl
named-plain InvalidReverseProperty = refl
named-plain InvalidTermDefinition = refl
named-plain InvalidTypeMapping = refl
named-plain InvalidTypeValue = refl
named-plain InvalidValueObject = refl
named-plain InvalidVocabMapping = refl
named-plain KeywordRedefinition = refl
named-plain LoadingRemoteContextFailed = refl
named-plain IriConfusedWithPrefix = refl

-- ---- each body

-- a text in quotes, and the end of the map
quoted : (text : List ℕ) → text ++ 34 ∷ 125 ∷ [] ≡ (text ++ 34 ∷ []) ++ 125 ∷ []
quoted text = sym (append_assoc text (34 ∷ []) (125 ∷ []))

-- two values with what stands between them, and the end of the map
two : (one between other end : List ℕ) → one ++ between ++ other ++ end ≡ (one ++ (between ++ other)) ++ end
two one between other end = ap (λ (w : List ℕ). w ++ end) (append_assoc one between other)

-- two values and a text
three : (one between other next text quote end : List ℕ)
    → one ++ between ++ other ++ next ++ text ++ (quote ++ end) ≡ (one ++ (between ++ (other ++ (next ++ (text ++ quote))))) ++ end
three one between other next text quote end = simp append_assoc refl

error-json : (text : List ℕ) → IsTrue (list_all is_unescaped text)
    → error_body text ≡ json_object (text_member (codes "error") text ∷ [])
unfolding error_body
error-json text plain =
    ap (λ (w : List ℕ). codes "{\"error\":\"" ++ w) (quoted text)
    ∙ ap (λ (w : List ℕ). json_object ((codes "\"error\":\"" ++ (w ++ 34 ∷ [])) ∷ [])) (sym (as_is text plain))

frame-json : (name : List ℕ) → IsTrue (is_frame_name name)
    → frame_body name ≡ json_object (text_member (codes "frame") name ∷ [])
unfolding frame_body
frame-json name is =
    ap (λ (w : List ℕ). codes "{\"frame\":\"" ++ w) (quoted name)
    ∙ ap (λ (w : List ℕ). json_object ((codes "\"frame\":\"" ++ (w ++ 34 ∷ [])) ∷ [])) (sym (as_is name (frame-name name is)))

version-json : (version : ℕ) → version_body version ≡ json_object (number_member (codes "version") version ∷ [])
unfolding version_body
version-json version = refl

pending-json : (have : Option ℕ) (need : ℕ)
    → pending_body have need ≡ json_object (json_member (codes "have") (number_or_null have) ∷ number_member (codes "need") need ∷ [])
unfolding pending_body
pending-json have need =
    ap (λ (w : List ℕ). codes "{\"have\":" ++ w) (two (number_or_null have) (codes ",\"need\":") (decimal need) (codes "}"))

too_long-json : (size : ℕ)
    → frame_too_long_body size
    ≡ json_object (text_member (codes "error") (codes "frame too long") ∷ number_member (codes "length") size ∷ [])
unfolding frame_too_long_body
too_long-json size = refl

bad_line-json : (kind : LineKind) (line : ℕ)
    → bad_line_body kind line
    ≡ json_object (text_member (codes "error") (kind_name kind) ∷ number_member (codes "line") line ∷ [])
unfolding bad_line_body kind_name
bad_line-json kinds.Syntax line = refl
bad_line-json kinds.RelativeIri line = refl
bad_line-json kinds.BadEscape line = refl
bad_line-json kinds.NotUtf8 line = refl
bad_line-json kinds.LineTooLong line = refl

quads-json : (have would : ℕ)
    → too_many_body (codes "quads") have would
    ≡ json_object (text_member (codes "error") (codes "too many quads") ∷ number_member (codes "have") have ∷ number_member (codes "would") would ∷ [])
unfolding too_many_body
quads-json have would =
    ap (λ (w : List ℕ). codes "{\"error\":\"too many quads\",\"have\":" ++ w) (two (decimal have) (codes ",\"would\":") (decimal would) (codes "}"))

frames-json : (have would : ℕ)
    → too_many_body (codes "frames") have would
    ≡ json_object (text_member (codes "error") (codes "too many frames") ∷ number_member (codes "have") have ∷ number_member (codes "would") would ∷ [])
unfolding too_many_body
frames-json have would =
    ap (λ (w : List ℕ). codes "{\"error\":\"too many frames\",\"have\":" ++ w) (two (decimal have) (codes ",\"would\":") (decimal would) (codes "}"))

full-json : (of : Counted) (have most : ℕ)
    → history_full_body of have most
    ≡ json_object (text_member (codes "error") (codes "history full") ∷ number_member (codes "have") have ∷ number_member (codes "limit") most ∷ text_member (codes "of") (counted_name of) ∷ [])
unfolding history_full_body counted_name
full-json counted.Commits have most =
    ap (λ (w : List ℕ). codes "{\"error\":\"history full\",\"have\":" ++ w)
    (three (decimal have) (codes ",\"limit\":") (decimal most) (codes ",\"of\":\"") (codes "commits") (34 ∷ []) (125 ∷ []))
full-json counted.Registrations have most =
    ap (λ (w : List ℕ). codes "{\"error\":\"history full\",\"have\":" ++ w)
    (three (decimal have) (codes ",\"limit\":") (decimal most) (codes ",\"of\":\"") (codes "registrations") (34 ∷ []) (125 ∷ []))
full-json counted.Bytes have most =
    ap (λ (w : List ℕ). codes "{\"error\":\"history full\",\"have\":" ++ w)
    (three (decimal have) (codes ",\"limit\":") (decimal most) (codes ",\"of\":\"") (codes "bytes") (34 ∷ []) (125 ∷ []))

fractional-json : (path : List ℕ)
    → fractional_body path
    ≡ json_object (text_member (codes "error") (codes "fractional number") ∷ text_member (codes "path") path ∷ [])
unfolding fractional_body
fractional-json path = refl

over-json : (limit : Limit)
    → limit_body limit
    ≡ json_object (text_member (codes "error") (codes "document limit") ∷ text_member (codes "limit") (limit_name limit) ∷ number_member (codes "number") (limit_number limit) ∷ [])
unfolding limit_body limit_name limit_number most_items most_bytes
over-json limits.TreeItems = refl
over-json limits.Depth = refl
over-json limits.DocumentItems = refl
over-json limits.DocumentBytes = refl

-- ---- turns

idle-json : idle_body ≡ json_object (text_member (codes "turn") (codes "idle") ∷ [])
unfolding idle_body
idle-json = refl

name_and_number : (name quote middle number end : List ℕ)
    → name ++ (quote ++ middle) ++ number ++ end ≡ ((name ++ quote) ++ (middle ++ number)) ++ end
name_and_number name quote middle number end = simp append_assoc refl

name_and_text : (name quote middle end : List ℕ) → name ++ (quote ++ (middle ++ end)) ≡ ((name ++ quote) ++ middle) ++ end
name_and_text name quote middle end = simp append_assoc refl

name_and_all : (name quote first one between other last end : List ℕ)
    → name ++ (quote ++ first) ++ one ++ between ++ other ++ (last ++ end)
    ≡ ((name ++ quote) ++ (first ++ (one ++ (between ++ (other ++ last))))) ++ end
name_and_all name quote first one between other last end = simp append_assoc refl

published-json : (name : List ℕ) (version : ℕ) → IsTrue (is_frame_name name)
    → published_body name version
    ≡ json_object (text_member (codes "frame") name ∷ text_member (codes "turn") (codes "published") ∷ number_member (codes "version") version ∷ [])
unfolding published_body
published-json name version is =
    ap (λ (w : List ℕ). codes "{\"frame\":\"" ++ w)
    (name_and_number name (34 ∷ []) (codes ",\"turn\":\"published\",\"version\":") (decimal version) (codes "}"))
    ∙ ap (λ (w : List ℕ). codes "{\"frame\":\"" ++ (((w ++ 34 ∷ []) ++ (codes ",\"turn\":\"published\",\"version\":" ++ decimal version)) ++ codes "}"))
    (sym (as_is name (frame-name name is)))

home-json : (name : List ℕ) → IsTrue (is_frame_name name)
    → home_body name ≡ json_object (text_member (codes "frame") name ∷ text_member (codes "turn") (codes "home") ∷ [])
unfolding home_body
home-json name is =
    ap (λ (w : List ℕ). codes "{\"frame\":\"" ++ w) (name_and_text name (34 ∷ []) (codes ",\"turn\":\"home\"") (codes "}"))
    ∙ ap (λ (w : List ℕ). codes "{\"frame\":\"" ++ (((w ++ 34 ∷ []) ++ codes ",\"turn\":\"home\"") ++ codes "}"))
    (sym (as_is name (frame-name name is)))

superseded-json : (name : List ℕ) (was : ℕ) (now : Option ℕ) → IsTrue (is_frame_name name)
    → superseded_body name was now
    ≡ json_object (text_member (codes "frame") name ∷ json_member (codes "now") (number_or_null now) ∷ number_member (codes "then") was ∷ text_member (codes "turn") (codes "superseded") ∷ [])
unfolding superseded_body
superseded-json name was now is =
    ap (λ (w : List ℕ). codes "{\"frame\":\"" ++ w)
    (name_and_all name (34 ∷ []) (codes ",\"now\":") (number_or_null now) (codes ",\"then\":") (decimal was) (codes ",\"turn\":\"superseded\"") (codes "}"))
    ∙ ap (λ (w : List ℕ). codes "{\"frame\":\"" ++ (((w ++ 34 ∷ []) ++ (codes ",\"now\":" ++ (number_or_null now ++ (codes ",\"then\":" ++ (decimal was ++ codes ",\"turn\":\"superseded\""))))) ++ codes "}"))
    (sym (as_is name (frame-name name is)))

pub bodies_are_json : BodiesAreJson
bodies_are_json = record {
  error = error-json;
  named = λ e. error-json (name_of e) (named-plain e);
  frame = frame-json;
  version = version-json;
  pending = pending-json;
  too_long = too_long-json;
  bad_line = bad_line-json;
  quads = quads-json;
  frames = frames-json;
  full = full-json;
  fractional = fractional-json;
  over = over-json;
  idle = idle-json;
  published = published-json;
  home = home-json;
  superseded = superseded-json;
}
