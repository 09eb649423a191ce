-- Canonical lines: strings, suffixes, objects and whole statements.
use Rattle.std.proofs.Common.{◌≡◌, ℕ, ◌<◌, ◌≤◌, Bool, true, false, cond, List, [], ◌∷◌, ◌++◌, length, Option, Some, None, refl, sym, ap, subst, ◌∙◌, append_assoc, arith, inl, inr}
use Rattle.std.specs.Prelude.{nat_eq, nat_le, ◌||◌, encode_utf8_all}
use Rattle.std.specs.Str.{all_scalars}
use Rattle.std.specs.List.{list_all}
use Rattle.std.specs.Cmp.Lexicographic.{same_text}
use Rattle.std.proofs.lemmas.Bool.{and_parts, and_from, or_cases, eqb-true, leb-true}
use Rattle.std.proofs.lemmas.Option.{same_Some}
use Rattle.std.proofs.lemmas.Str.{encodes_same}
use lib.Utf8.{low_scalar}
use Rattle.lf_rdf.specs.declared.term.Term.{Term}
use Rattle.lf_rdf.specs.declared.term.Term.TheVariants.{Iri, Blank, Literal}
use Rattle.lf_rdf.specs.declared.quad.Quad.{Quad}
use Rattle.lf_rdf.specs.declared.quad.Signed.{Signed}
use Rattle.lf_rdf.specs.Vocabulary.{xsd_string}
use Rattle.lf_rdf.specs.Equality.{text_eq}
use Rattle.lf_rdf.specs.Canonical.{bracketed, quoted, escaped, escaped_byte, suffix_of, term_text, label_text, line}
use Rattle.def_patch_texts.specs.Characters.{is_between, is_letter, is_digit, is_string_char}
use Rattle.def_patch_texts.specs.Terminals.{IsStringPart, IsStringParts, IsString}
use Rattle.def_patch_texts.specs.Statements.{IsNode, IsSuffix, IsObject, IsGraph, IsStatement, IsLineOf}
use Rattle.def_patch_texts.specs.PatchText.{absolute_iris, IsEncoded, IsPatchText, AreLines, line_limit}
use Rattle.def_patch_texts.specs.Given.{IsGivenIri, IsGivenType, IsGivenTerm, IsGivenNode, IsGivenPredicate, IsGivenGraph, IsGiven}
use Rattle.def_patch_texts.proofs.Lines.{one_line}
use Rattle.def_patch_texts.proofs.Written.{plain_by, by_tests, Written, written-nil, written-append, written-cons, written-escaped, one_line_of}
use Rattle.def_patch_texts.proofs.Canonical.{iri_states, iri_written, label_states, label_written, is_tag_char, tag_chars, tag_states}

-- ---- tags

between_small : (low high c : ℕ) → high < 128 → is_between low high c ≡ true → c < 128
between_small low high c limit h = let below : c ≤ high = leb-true c high (and_parts (nat_le low c) (nat_le c high) h).1 in omega arith

tag_char_small : (c : ℕ) → is_tag_char c ≡ true → c < 128
tag_char_small c h =
    elim (or_cases (is_letter c || is_digit c) (nat_eq c 45) h) [
      | inl a ↦
          elim (or_cases (is_letter c) (is_digit c) a) [
            | inl letter ↦
                elim (or_cases (is_between 65 90 c) (is_between 97 122 c) letter) [
                  | inl upper ↦ between_small 65 90 c (omega arith) upper
                  | inr small ↦ between_small 97 122 c (omega arith) small
                ]
            | inr digit ↦ between_small 48 57 c (omega arith) digit
          ]
      | inr dash ↦ let e : c ≡ 45 = eqb-true c 45 dash in omega arith
    ]

small_scalar : (c : ℕ) → c < 128 → all_scalars (c ∷ []) ≡ true
small_scalar c low = and_from _ _ (low_scalar c (omega arith)) refl

tag_written : (tag : List ℕ) → list_all is_tag_char tag ≡ true → Written tag tag
tag_written [] h = written-nil
tag_written (c ∷ tag) h =
    let parts = and_parts (is_tag_char c) (list_all is_tag_char tag) h in
    let low = tag_char_small c parts.0 in
    written-cons c tag tag low (small_scalar c low) (plain_by is_tag_char c refl refl parts.0) (tag_written tag parts.1)

-- ---- strings

string_part_states : (c : ℕ) (rest : List ℕ) (q b l r : Bool) → nat_eq c 34 ≡ q → nat_eq c 92 ≡ b → nat_eq c 10 ≡ l → nat_eq c 13 ≡ r
    → IsStringPart absolute_iris (by_tests c q b l r ++ rest) c rest
string_part_states c rest true b l r hq hb hl hr = inr (inl (34, ap (λ (x : ℕ). Some x) (sym (eqb-true c 34 hq)), refl, refl))
string_part_states c rest false true l r hq hb hl hr = inr (inl (92, ap (λ (x : ℕ). Some x) (sym (eqb-true c 92 hb)), refl, refl))
string_part_states c rest false false true r hq hb hl hr = inr (inl (110, ap (λ (x : ℕ). Some x) (sym (eqb-true c 10 hl)), refl, refl))
string_part_states c rest false false false true hq hb hl hr = inr (inl (114, ap (λ (x : ℕ). Some x) (sym (eqb-true c 13 hr)), refl, refl))
string_part_states c rest false false false false hq hb hl hr = let raw : is_string_char c ≡ true = rw (hq, hb, hl, hr) refl in inl (raw, refl)

string_parts_state : (cs rest : List ℕ) → IsStringParts absolute_iris (escaped cs ++ rest) cs rest
string_parts_state [] rest = refl
string_parts_state (c ∷ cs) rest =
    (escaped cs ++ rest, subst (λ (t : List ℕ). IsStringPart absolute_iris t c (escaped cs ++ rest)) (sym (append_assoc (escaped_byte c) (escaped cs) rest)) (string_part_states c (escaped cs ++ rest) (nat_eq c 34) (nat_eq c 92) (nat_eq c 10) (nat_eq c 13) refl refl refl refl), string_parts_state cs rest)

string_states : (value cs : List ℕ) → encode_utf8_all cs ≡ value → (rest : List ℕ) → IsString absolute_iris ((34 ∷ escaped cs ++ 34 ∷ []) ++ rest) value rest
string_states value cs e rest = record {
  characters = cs;
  inside = escaped cs ++ 34 ∷ rest;
  opened = ap (λ (t : List ℕ). 34 ∷ t) (append_assoc (escaped cs) (34 ∷ []) rest);
  parts = string_parts_state cs (34 ∷ rest);
  encoded = sym e;
}

string_written : (value cs : List ℕ) → IsEncoded value cs → Written (quoted value) (34 ∷ escaped cs ++ 34 ∷ [])
string_written value cs h =
    written-cons 34 (escaped value ++ 34 ∷ []) (escaped cs ++ 34 ∷ []) (omega arith) refl refl
    (written-append (escaped value) (escaped cs) (34 ∷ []) (34 ∷ []) (written-escaped value cs h) (written-cons 34 [] [] (omega arith) refl refl written-nil))

-- ---- suffixes

pub record SuffixStates (text datatype : List ℕ) (language : Option (List ℕ)) : Type 0 where
  pub characters : List ℕ
  pub written : Written text characters
  pub states : (rest : List ℕ) → IsSuffix absolute_iris (characters ++ 32 ∷ rest) datatype language (32 ∷ rest)

typed_states : (datatype : List ℕ) (b : Bool) → text_eq datatype xsd_string ≡ b → IsGivenIri datatype → SuffixStates (cond b [] (94 ∷ 94 ∷ bracketed datatype)) datatype None
typed_states datatype true test g =
    record { characters = []; written = written-nil; states = λ rest. inl (same_text datatype xsd_string (sym test), refl) }
typed_states datatype false test g = record {
  characters = 94 ∷ 94 ∷ 60 ∷ g.characters ++ 62 ∷ [];
  written =
      written-cons 94 (94 ∷ bracketed datatype) (94 ∷ 60 ∷ g.characters ++ 62 ∷ []) (omega arith) refl refl
      (written-cons 94 (bracketed datatype) (60 ∷ g.characters ++ 62 ∷ []) (omega arith) refl refl (iri_written datatype g));
  states = λ rest. inr (record {
    carets = (60 ∷ g.characters ++ 62 ∷ []) ++ 32 ∷ rest;
    iri = (60 ∷ g.characters ++ 62 ∷ []) ++ 32 ∷ rest;
    before = ([], refl, refl);
    between = ([], refl, refl);
    names = iri_states datatype g (32 ∷ rest);
  });
}

suffix_states : (datatype : List ℕ) (language : Option (List ℕ)) → IsGivenType datatype language → SuffixStates (suffix_of datatype language) datatype language
suffix_states datatype None g = typed_states datatype (text_eq datatype xsd_string) refl g
suffix_states datatype (Some language) g = record {
  characters = 64 ∷ language;
  written = written-cons 64 language language (omega arith) refl refl (tag_written language (tag_chars language g.1));
  states = λ rest. (g.0, record { tag = 64 ∷ language ++ 32 ∷ rest; before = ([], refl, refl); names = tag_states language g.1 g.2 rest });
}

-- ---- nodes and objects

pub record NodeStates (node : Term) : Type 0 where
  pub characters : List ℕ
  pub written : Written (term_text node) characters
  pub states : (rest : List ℕ) → IsNode absolute_iris (characters ++ 32 ∷ rest) node (32 ∷ rest)

node_states : (node : Term) → IsGivenNode node → NodeStates node
node_states (Iri iri) g =
    record { characters = 60 ∷ g.characters ++ 62 ∷ []; written = iri_written iri g; states = λ rest. iri_states iri g (32 ∷ rest) }
node_states (Blank label) g =
    record { characters = 95 ∷ 58 ∷ g.characters; written = label_written label g; states = λ rest. label_states label g rest }
node_states (Literal value datatype language) g = absurd g

pub record ObjectStates (object : Term) : Type 0 where
  pub characters : List ℕ
  pub written : Written (term_text object) characters
  pub states : (rest : List ℕ) → IsObject absolute_iris (characters ++ 32 ∷ rest) object (32 ∷ rest)

object_states : (object : Term) → IsGivenTerm object → ObjectStates object
object_states (Iri iri) g =
    record { characters = 60 ∷ g.characters ++ 62 ∷ []; written = iri_written iri g; states = λ rest. iri_states iri g (32 ∷ rest) }
object_states (Blank label) g =
    record { characters = 95 ∷ 58 ∷ g.characters; written = label_written label g; states = λ rest. label_states label g rest }
object_states (Literal value datatype language) g =
    let cs : List ℕ = g.0.0 in
    let fits : IsEncoded value cs = record { scalars = g.0.1.0; encoded = g.0.1.1 } in
    let s = suffix_states datatype language g.1 in
    let string : List ℕ = 34 ∷ escaped cs ++ 34 ∷ [] in
    record {
      characters = string ++ s.characters;
      written = written-append (quoted value) string (suffix_of datatype language) s.characters (string_written value cs fits) s.written;
      states = λ rest. (s.characters ++ 32 ∷ rest, subst (λ (t : List ℕ). IsString absolute_iris t value (s.characters ++ 32 ∷ rest)) (sym (append_assoc string s.characters (32 ∷ rest))) (string_states value cs fits.encoded (s.characters ++ 32 ∷ rest)), s.states rest);
    }

-- ---- graph labels

pub record GraphStates (graph : Option Term) : Type 0 where
  pub characters : List ℕ
  pub written : Written (label_text graph) characters
  pub tail : List ℕ
  pub begins : characters ++ 32 ∷ 46 ∷ [] ≡ 32 ∷ tail
  pub states : IsGraph absolute_iris (characters ++ 32 ∷ 46 ∷ []) graph []

graph_states : (graph : Option Term) → IsGivenGraph graph → GraphStates graph
graph_states None g =
    record { characters = []; written = written-nil; tail = 46 ∷ []; begins = refl; states = (32 ∷ [], refl, refl) }
graph_states (Some name) g =
    let n = node_states name g in
    record {
      characters = 32 ∷ n.characters;
      written = written-cons 32 (term_text name) n.characters (omega arith) refl refl n.written;
      tail = n.characters ++ 32 ∷ 46 ∷ [];
      begins = refl;
      states = (n.characters ++ 32 ∷ 46 ∷ [], 32 ∷ 46 ∷ [], (32 ∷ [], refl, refl), n.states (46 ∷ []), (32 ∷ [], refl, refl));
    }

-- ---- statements

regroup : (a b c d e : List ℕ) → a ++ b ++ c ++ d ++ e ≡ a ++ (b ++ (c ++ (d ++ e)))
regroup a b c d e = simp append_assoc

pub record LineStates (quad : Quad) : Type 0 where
  pub characters : List ℕ
  pub written : Written (line quad) characters
  pub states : IsStatement absolute_iris characters quad

abbrev stated : Term → List ℕ → Term → Option Term → Quad
stated s p o g = record { subject = s; predicate = Iri p; object = o; graph = g }

written_five : (a v b w c x d y e z : List ℕ) → Written a v → Written b w → Written c x → Written d y → Written e z → Written (a ++ b ++ c ++ d ++ e) (v ++ w ++ x ++ y ++ z)
written_five a v b w c x d y e z pa pb pc pd pe =
    written-append (a ++ b ++ c ++ d) (v ++ w ++ x ++ y) e z
    (written-append (a ++ b ++ c) (v ++ w ++ x) d y (written-append (a ++ b) (v ++ w) c x (written-append a v b w pa pb) pc) pd) pe

line_states : (s : Term) (p : List ℕ) (o : Term) (g : Option Term) → IsGivenNode s → IsGivenIri p → IsGivenTerm o → IsGivenGraph g → LineStates (stated s p o g)
line_states s p o g hs hp ho hg =
    let ns = node_states s hs in
    let np : List ℕ = 60 ∷ hp.characters ++ 62 ∷ [] in
    let no = object_states o ho in
    let ng = graph_states g hg in
    let last : List ℕ = 32 ∷ 46 ∷ [] in
    let t3 : List ℕ = ng.characters ++ last in
    let t2 : List ℕ = no.characters ++ t3 in
    let t1 : List ℕ = np ++ 32 ∷ t2 in
    let whole : IsStatement absolute_iris (ns.characters ++ 32 ∷ t1) (stated s p o g) = record {
      subject = ns.characters ++ 32 ∷ t1;
      after_subject = 32 ∷ t1;
      predicate = t1;
      after_predicate = 32 ∷ t2;
      object = t2;
      after_object = t3;
      rest = [];
      iri = p;
      before_subject = ([], refl, refl);
      has_subject = ns.states t1;
      before_predicate = (32 ∷ [], refl, refl);
      has_predicate = iri_states p hp (32 ∷ t2);
      predicate_is = refl;
      before_object = (32 ∷ [], refl, refl);
      has_object = subst (λ (t : List ℕ). IsObject absolute_iris (no.characters ++ t) o t) (sym ng.begins) (no.states ng.tail);
      has_graph = ng.states;
      ends = inl ([], refl, refl);
    } in
    record {
      characters = ns.characters ++ 32 ∷ np ++ 32 ∷ no.characters ++ ng.characters ++ last;
      written =
          written_five (term_text s) ns.characters (32 ∷ bracketed p) (32 ∷ np) (32 ∷ term_text o) (32 ∷ no.characters) (label_text g) ng.characters last last
          ns.written
          (written-cons 32 (bracketed p) np (omega arith) refl refl (iri_written p hp))
          (written-cons 32 (term_text o) no.characters (omega arith) refl refl no.written)
          ng.written
          (written-cons 32 (46 ∷ []) (46 ∷ []) (omega arith) refl refl (written-cons 46 [] [] (omega arith) refl refl written-nil));
      states = subst (λ (t : List ℕ). IsStatement absolute_iris t (stated s p o g)) (sym (regroup ns.characters (32 ∷ np) (32 ∷ no.characters) ng.characters last)) whole;
    }

by_predicate : (s p o : Term) (g : Option Term) → IsGivenNode s → IsGivenPredicate p → IsGivenTerm o → IsGivenGraph g
    → LineStates (record { subject = s; predicate = p; object = o; graph = g })
by_predicate s (Iri p) o g hs hp ho hg = line_states s p o g hs hp ho hg
by_predicate s (Blank p) o g hs hp ho hg = absurd hp
by_predicate s (Literal v d l) o g hs hp ho hg = absurd hp

pub given_line : (quad : Quad) → IsGiven quad → LineStates quad
given_line quad h = by_predicate quad.subject quad.predicate quad.object quad.graph h.subject h.predicate h.object h.graph

-- ---- the laws

abbrev added : Quad → Signed
added quad = record { add = true; quad = quad }

line_of_added : (quad : Quad) (l : LineStates quad) → IsLineOf absolute_iris l.characters (Some (added quad))
line_of_added quad l = (l.characters, inl refl, l.states)

pub canonical_states : (quad : Quad) → IsGiven quad → length (line quad) ≤ line_limit → IsPatchText (line quad) (added quad ∷ [])
canonical_states quad h limit =
    let l = given_line quad h in
    subst (λ (ls : List (List ℕ)). AreLines ls (added quad ∷ [])) (sym (one_line_of (line quad) l.characters l.written))
    (Some (added quad), [], (limit, l.characters, l.written.encoded, line_of_added quad l), refl, refl)

added_is : (one two : Quad) → ◌≡◌ {A = Option Signed} (Some (added one)) (Some (added two)) → one ≡ two
added_is one two e = ap (λ (s : Signed). s.quad) (same_Some (added one) (added two) e)

pub canonical_is_one : (quad other : Quad) → IsGiven quad → IsGiven other → line quad ≡ line other → quad ≡ other
canonical_is_one quad other g h e =
    let a = given_line quad g in
    let b = given_line other h in
    let same : b.characters ≡ a.characters = encodes_same b.characters a.characters (b.written.encoded.encoded ∙ sym e ∙ sym a.written.encoded.encoded) in
    let second : IsLineOf absolute_iris a.characters (Some (added other)) =
    subst (λ (cs : List ℕ). IsLineOf absolute_iris cs (Some (added other))) same (line_of_added other b) in
    added_is quad other (one_line absolute_iris a.characters (Some (added quad)) (Some (added other)) (line_of_added quad a) second)
