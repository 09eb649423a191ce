-- What is written of quads reads back.
use Rattle.std.proofs.Common.{◌≡◌, ℕ, ◌+◌, ◌<◌, ◌≤◌, true, false, List, [], ◌∷◌, ◌++◌, length, take, get_or, Result, Ok, Err, Some, None, refl, sym, ap, subst, ◌∙◌, append_assoc, inl, arith}
use Rattle.std.specs.Prelude.{nat_eq, encode_utf8_all, IfOk}
use Rattle.std.specs.List.{list_all, AllByRecursion}
use Rattle.std.proofs.lemmas.Bool.{and_parts, not-true, or_parts}
use Rattle.std.proofs.lemmas.List.{append-nil, take_more}
use Rattle.std.proofs.lemmas.Str.{encodes-append}
use Rattle.lf_rdf.specs.declared.quad.Quad.{Quad}
use Rattle.lf_rdf.specs.Canonical.{line, escaped, escaped_byte}
use Rattle.def_patch_texts.specs.Given.{IsGiven}
use Rattle.def_patch_texts.specs.PatchText.{is_line_end, lines_from, line_limit, IsLine, AreLines, IsPatchText}
use Rattle.def_patch_texts.proofs.Written.{is_plain, bytes_plain, encodes-escaped}
use Rattle.def_patch_texts.proofs.CanonicalLine.{given_line}
use Rattle.lf_nquads.specs.Written.{lines_text, added, all_added}

pub escaped-push : (cs : List ℕ) (c : ℕ) → escaped (cs ++ c ∷ []) ≡ escaped cs ++ escaped_byte c
escaped-push [] c = append-nil (escaped_byte c)
escaped-push (d ∷ cs) c = ap (λ (t : List ℕ). escaped_byte d ++ t) (escaped-push cs c) ∙ sym (append_assoc (escaped_byte d) (escaped cs) (escaped_byte c))

-- one more character, escaped
pub escapes_more : (before now new : List ℕ) (cs : List ℕ) (c : ℕ) → now ≡ before ++ escaped (encode_utf8_all cs)
    → new ≡ now ++ encode_utf8_all (escaped_byte c) → new ≡ before ++ escaped (encode_utf8_all (cs ++ c ∷ []))
escapes_more before now new cs c e more =
    more
    ∙ ap (λ (t : List ℕ). t ++ encode_utf8_all (escaped_byte c)) (e ∙ ap (λ (t : List ℕ). before ++ t) (sym (encodes-escaped cs)))
    ∙ append_assoc before (encode_utf8_all (escaped cs)) (encode_utf8_all (escaped_byte c))
    ∙ ap (λ (t : List ℕ). before ++ t) (sym (encodes-append (escaped cs) (escaped_byte c)) ∙ ap encode_utf8_all (sym (escaped-push cs c)) ∙ encodes-escaped (cs ++ c ∷ []))

pub lines_text-push : (quads : List Quad) (quad : Quad) → lines_text (quads ++ quad ∷ []) ≡ lines_text quads ++ (line quad ++ 10 ∷ [])
lines_text-push [] quad = refl
lines_text-push (other ∷ quads) quad =
    ap (λ (t : List ℕ). line other ++ 10 ∷ t) (lines_text-push quads quad) ∙ sym (append_assoc (line other) (10 ∷ lines_text quads) (line quad ++ 10 ∷ []))

-- one more line
pub writes_more : (quads : List Quad) (i : ℕ) (quad : Quad) (out new : List ℕ) → i < length quads → quad ≡ get_or quads i quad
    → out ≡ lines_text (take i quads) → new ≡ out ++ (line quad ++ 10 ∷ []) → new ≡ lines_text (take (i + 1) quads)
writes_more quads i quad out new within item e more =
    more
    ∙ ap (λ (t : List ℕ). t ++ (line quad ++ 10 ∷ [])) e
    ∙ sym (lines_text-push (take i quads) quad)
    ∙ ap (λ (q : Quad). lines_text (take i quads ++ q ∷ [])) item
    ∙ sym (ap lines_text (take_more quads i quad within))

-- ---- the lines of what is written

cut_line : (bytes rest : List ℕ) → list_all is_plain bytes ≡ true → lines_from false (bytes ++ 10 ∷ rest) ≡ bytes ∷ lines_from false rest
cut_line [] rest h = refl
cut_line (byte ∷ bytes) rest h =
    let parts = and_parts (is_plain byte) (list_all is_plain bytes) h in
    let no_end = or_parts (nat_eq byte 13) (nat_eq byte 10) (not-true (is_line_end byte) parts.0) in
    rw (no_end.0, cut_line bytes rest parts.1, no_end.1) refl

-- the line of a given quad is a line of the grammar, and holds no line end
pub record IsWrittenLine (quad : Quad) : Type 0 where
  pub plain : list_all is_plain (line quad) ≡ true
  pub states : IsLine (line quad) (Some (added quad))

written_line : (quad : Quad) → IsGiven quad → length (line quad) ≤ line_limit → IsWrittenLine quad
written_line quad given short =
    let l = given_line quad given in
    record {
      plain = subst (λ (t : List ℕ). list_all is_plain t ≡ true) l.written.encoded.encoded (bytes_plain l.characters l.written.plain);
      states = (short, l.characters, l.written.encoded, (l.characters, inl refl, l.states));
    }

abbrev AllGiven : List Quad → Type 0
AllGiven quads = AllByRecursion IsGiven quads

abbrev AllShort : List Quad → Type 0
AllShort quads = AllByRecursion (λ quad. length (line quad) ≤ line_limit) quads

pub written_reads_back : (quads : List Quad) → AllGiven quads → AllShort quads → IsPatchText (lines_text quads) (all_added quads)
written_reads_back [] given short =
    (None, [], (omega arith, [], record { scalars = refl; encoded = refl }, inl ([], refl, refl)), refl, refl)
written_reads_back (quad ∷ quads) given short =
    let l = written_line quad given.0 short.0 in
    subst (λ (ls : List (List ℕ)). AreLines ls (all_added (quad ∷ quads))) (sym (cut_line (line quad) (lines_text quads) l.plain))
    (Some (added quad), all_added quads, l.states, written_reads_back quads given.1 short.1, refl)

-- what an `Ok` holds passes on
pub if_ok_passes : {T E : Type 0} (P Q : T → Type 0) (r : Result T E) → ((x : T) → P x → Q x) → IfOk r P → IfOk r Q
if_ok_passes P Q (Ok x) f h = f x h
if_ok_passes P Q (Err e) f h = h
