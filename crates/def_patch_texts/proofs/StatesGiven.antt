-- What a line states is given: its IRIs are absolute, its labels and tags are such, and its texts are UTF-8.
use Rattle.std.proofs.Common.{◌≡◌, ℕ, ◌+◌, ◌≤◌, Bool, true, false, cond, List, [], ◌∷◌, ◌++◌, Option, Some, None, refl, sym, ap, subst, ◌∙◌, arith, inl, inr}
use Rattle.std.specs.Prelude.{IsUtf8, nat_eq, ◌||◌}
use Rattle.std.specs.Str.{all_scalars}
use Rattle.std.specs.Char.{IsScalar, encode_utf8, to_ascii_lowercase}
use Rattle.std.specs.List.{list_all, AllByRecursion}
use Rattle.std.proofs.lemmas.Bool.{and_parts, and_from, cases_lt, le-leb, lt-leb, ne_eqb}
use Rattle.std.proofs.lemmas.Str.Ascii.{lowercase_is, lowercase-lowercase}
use lib.Utf8.{scalar}
use Rattle.lf_rdf.specs.declared.term.Term.{Term}
use Rattle.lf_rdf.specs.declared.term.Term.TheVariants.{Iri, Blank, Literal}
use Rattle.lf_rdf.specs.declared.quad.Quad.{Quad}
use Rattle.lf_rdf.specs.declared.quad.Signed.{Signed}
use Rattle.lf_rdf.specs.Vocabulary.{xsd_string}
use Rattle.def_patch_texts.specs.Characters.{is_letter, is_digit, is_iri_char, short_escape, is_tag, is_tag_rest, lower}
use Rattle.def_patch_texts.specs.Terminals.{Allowed, IsSpace, IsNumbered, IsUnicodeEscape, IsIriPart, IsIriParts, IsIri, IsBlank, IsStringPart, IsStringParts, IsString, IsTag}
use Rattle.def_patch_texts.specs.Statements.{IsNode, IsSuffix, IsObject, IsGraph, IsStatement, IsSign}
use Rattle.def_patch_texts.specs.PatchText.{absolute_iris, IsLine, with_stated, AreLines, IsPatchText, lines_of}
use Rattle.def_patch_texts.specs.Given.{IsGivenIri, IsGivenLabel, IsGivenType, IsGivenTerm, IsGivenNode, IsGivenPredicate, IsGivenGraph, IsGiven}
use Rattle.def_patch_texts.proofs.Takes.{found_is}

-- ---- scalar values, of a text and of what stands in it and behind it

abbrev AreScalars : List ℕ → Type 0
AreScalars cs = all_scalars cs ≡ true

scalars_parts : (xs ys : List ℕ) → AreScalars (xs ++ ys) → AreScalars xs × AreScalars ys
scalars_parts [] ys h = (refl, h)
scalars_parts (x ∷ xs) ys h =
    let outer = and_parts (scalar x) (all_scalars (xs ++ ys)) h in
    let inner = scalars_parts xs ys outer.1 in (and_from (scalar x) (all_scalars xs) outer.0 inner.0, inner.1)

at_first : (c : ℕ) (text rest : List ℕ) → AreScalars text → text ≡ c ∷ rest → IsScalar c × AreScalars rest
at_first c text rest h e =
    let here : AreScalars (c ∷ rest) = subst AreScalars e h in let parts = and_parts _ _ here in (parts.0, parts.1)

behind_space : (text rest : List ℕ) → IsSpace text rest → AreScalars text → AreScalars rest
behind_space text rest h s = (scalars_parts h.0 rest (subst AreScalars h.2 s)).1

-- ---- escapes

numbered : (text : List ℕ) (letter count c : ℕ) (rest : List ℕ) → IsNumbered text letter count c rest → AreScalars text → IsScalar c × AreScalars rest
numbered text letter count c rest h s =
    (h.scalar, (scalars_parts (92 ∷ letter ∷ h.digits) rest (subst AreScalars h.spelled s)).1)

unicode : (text : List ℕ) (c : ℕ) (rest : List ℕ) → IsUnicodeEscape text c rest → AreScalars text → IsScalar c × AreScalars rest
unicode text c rest h s =
    elim h [ inl four ↦ numbered text 117 4 c rest four s | inr eight ↦ numbered text 85 8 c rest eight s ]

-- ---- IRIs

iri_part : (allowed : Allowed) (text : List ℕ) (c : ℕ) (rest : List ℕ) → IsIriPart allowed text c rest → AreScalars text → IsScalar c × AreScalars rest
iri_part allowed text c rest h s =
    elim h.1 [ inl raw ↦ at_first c text rest s raw | inr escaped ↦ unicode text c rest escaped.0 s ]

iri_parts : (allowed : Allowed) (text cs rest : List ℕ) → IsIriParts allowed text cs rest → AreScalars text
    → AreScalars cs × (list_all is_iri_char cs ≡ true) × AreScalars rest
iri_parts allowed text [] rest h s = (refl, refl, subst AreScalars h s)
iri_parts allowed text (c ∷ cs) rest h s =
    let first = iri_part allowed text c h.0 h.1 s in
    let others = iri_parts allowed h.0 cs rest h.2 first.1 in
    (and_from _ _ first.0 others.0, and_from (is_iri_char c) (list_all is_iri_char cs) h.1.0 others.1, others.2)

iri_given : (text iri rest : List ℕ) → IsIri absolute_iris text iri rest → AreScalars text → IsGivenIri iri × AreScalars rest
iri_given text iri rest h s =
    let inside = (at_first 60 text h.inside s h.opened).1 in
    let parts = iri_parts absolute_iris h.inside h.characters (62 ∷ rest) h.parts inside in
    (record { characters = h.characters; encoded = record { scalars = parts.0; encoded = sym h.encoded }; raw = parts.1; absolute = h.is_allowed }, (at_first 62 (62 ∷ rest) rest parts.2 refl).1)

-- ---- labels

label_given : (text label rest : List ℕ) → IsBlank text label rest → AreScalars text → IsGivenLabel label × AreScalars rest
label_given text label rest h s =
    let parts = scalars_parts (95 ∷ 58 ∷ h.characters) rest (subst AreScalars h.spelled s) in
    let first = at_first 95 (95 ∷ 58 ∷ h.characters) (58 ∷ h.characters) parts.0 refl in
    let second = at_first 58 (58 ∷ h.characters) h.characters first.1 refl in
    (record { characters = h.characters; encoded = record { scalars = second.1; encoded = sym h.encoded }; fits = h.fits }, parts.1)

-- ---- strings

-- a short escape stands for a scalar value, where its letter is one
short_scalar : (letter c : ℕ) → IsScalar letter → short_escape letter ≡ Some c → IsScalar c
short_scalar letter c h e =
    first (nat_eq letter 116) 9 _ refl
    (first (nat_eq letter 98) 8 _ refl
    (first (nat_eq letter 110) 10 _ refl
    (first (nat_eq letter 114) 13 _ refl
    (first (nat_eq letter 102) 12 _ refl (first (nat_eq letter 34 || nat_eq letter 39 || nat_eq letter 92) letter None h (λ none. absurd cc)))))) e
  where
    first : (b : Bool) (n : ℕ) (others : Option ℕ) → IsScalar n → (others ≡ Some c → IsScalar c) → cond b (Some n) others ≡ Some c → IsScalar c
    first true n others is next e = subst IsScalar (found_is n c e) is
    first false n others is next e = next e

string_part : (allowed : Allowed) (text : List ℕ) (c : ℕ) (rest : List ℕ) → IsStringPart allowed text c rest → AreScalars text → IsScalar c × AreScalars rest
string_part allowed text c rest h s =
    elim h [
      | inl raw ↦ at_first c text rest s raw.1
      | inr escaped ↦
          elim escaped [
            | inl short ↦
                let behind = at_first 92 text (short.0 ∷ rest) s short.2 in
                let letter = at_first short.0 (short.0 ∷ rest) rest behind.1 refl in
                (short_scalar short.0 c letter.0 short.1, letter.1)
            | inr named ↦ unicode text c rest named.0 s
          ]
    ]

string_parts : (allowed : Allowed) (text cs rest : List ℕ) → IsStringParts allowed text cs rest → AreScalars text → AreScalars cs × AreScalars rest
string_parts allowed text [] rest h s = (refl, subst AreScalars h s)
string_parts allowed text (c ∷ cs) rest h s =
    let first = string_part allowed text c h.0 h.1 s in
    let others = string_parts allowed h.0 cs rest h.2 first.1 in (and_from _ _ first.0 others.0, others.1)

string_given : (text value rest : List ℕ) → IsString absolute_iris text value rest → AreScalars text → IsUtf8 value × AreScalars rest
string_given text value rest h s =
    let inside = (at_first 34 text h.inside s h.opened).1 in
    let parts = string_parts absolute_iris h.inside h.characters (34 ∷ rest) h.parts inside in
    ((h.characters, (parts.0, sym h.encoded)), (at_first 34 (34 ∷ rest) rest parts.1 refl).1)

-- ---- tags

-- a character and its lower case are of one class
record SameClass (c d : ℕ) : Type 0 where
  letter : is_letter d ≡ is_letter c
  digit : is_digit d ≡ is_digit c
  dash : nat_eq d 45 ≡ nat_eq c 45

one_class : (c d : ℕ) → d ≡ c → SameClass c d
one_class c d e = record { letter = ap is_letter e; digit = ap is_digit e; dash = ap (λ (x : ℕ). nat_eq x 45) e }

capital_class : (c d : ℕ) → 65 ≤ c → c ≤ 90 → d ≡ c + 32 → SameClass c d
capital_class c d low high e =
    let is_capital : is_letter c ≡ true = rw (le-leb 65 c low, le-leb c 90 high) refl in
    let is_small : is_letter d ≡ true = rw (lt-leb d 90 (omega (arith, low, e)), le-leb 97 d (omega (arith, low, e)), le-leb d 122 (omega (arith, high, e)), le-leb 65 d (omega (arith, low, e))) refl in
    let no_digit : is_digit c ≡ false = rw (lt-leb c 57 (omega (arith, low)), le-leb 48 c (omega (arith, low))) refl in
    let none_either : is_digit d ≡ false = rw (lt-leb d 57 (omega (arith, low, e)), le-leb 48 d (omega (arith, low, e))) refl in
    let no_dash : nat_eq c 45 ≡ false = ne_eqb c 45 (λ same. omega (arith, low, same)) in
    let no_dash_either : nat_eq d 45 ≡ false = ne_eqb d 45 (λ same. omega (arith, low, e, same)) in
    record { letter = is_small ∙ sym is_capital; digit = none_either ∙ sym no_digit; dash = no_dash_either ∙ sym no_dash }

lower_class : (c : ℕ) → SameClass c (to_ascii_lowercase c)
lower_class c =
    elim (cases_lt c 65) [
      | inl below ↦ one_class c (to_ascii_lowercase c) ((lowercase_is c).1 below)
      | inr low ↦
          elim (cases_lt 90 c) [
            | inl above ↦ one_class c (to_ascii_lowercase c) ((lowercase_is c).2 above)
            | inr high ↦ capital_class c (to_ascii_lowercase c) low high ((lowercase_is c).0 (low, high))
          ]
    ]

tag_rest_lower : (needed digits : Bool) (tag : List ℕ) → is_tag_rest needed digits (lower tag) ≡ is_tag_rest needed digits tag
tag_rest_lower needed digits [] = refl
tag_rest_lower needed digits (c ∷ tag) =
    let same = lower_class c in
    rw (same.letter, same.digit, same.dash, tag_rest_lower (nat_eq c 45) (digits || nat_eq c 45) tag) refl

lower-lower : (tag : List ℕ) → lower (lower tag) ≡ lower tag
lower-lower [] = refl
lower-lower (c ∷ tag) = rw (lowercase-lowercase c, lower-lower tag) refl

abbrev IsGivenLanguage : List ℕ → Type 0
IsGivenLanguage language = (is_tag language ≡ true) × (lower language ≡ language)

tag_given : (text language rest : List ℕ) → IsTag text language rest → AreScalars text → IsGivenLanguage language × AreScalars rest
tag_given text language rest h s =
    let behind = (at_first 64 text (h.tag ++ rest) s h.spelled).1 in
    (subst IsGivenLanguage (sym h.lowered) (tag_rest_lower true false h.tag ∙ h.fits, lower-lower h.tag), (scalars_parts h.tag rest behind).1)

-- ---- terms

string_type : IsGivenIri xsd_string
unfolding xsd_string encode_utf8
string_type = record { characters = xsd_string; encoded = record { scalars = refl; encoded = refl }; raw = refl; absolute = refl }

suffix_given : (text datatype : List ℕ) (language : Option (List ℕ)) (rest : List ℕ) → IsSuffix absolute_iris text datatype language rest → AreScalars text → IsGivenType datatype language × AreScalars rest
suffix_given text datatype None rest h s =
    elim h [
      | inl plain ↦ (subst IsGivenIri (sym plain.0) string_type, subst AreScalars plain.1 s)
      | inr typed ↦
          let carets = behind_space text (94 ∷ 94 ∷ typed.carets) typed.before s in
          let second = at_first 94 (94 ∷ 94 ∷ typed.carets) (94 ∷ typed.carets) carets refl in
          let behind = at_first 94 (94 ∷ typed.carets) typed.carets second.1 refl in
          iri_given typed.iri datatype rest typed.names (behind_space typed.carets typed.iri typed.between behind.1)
    ]
suffix_given text datatype (Some language) rest h s =
    let tag = tag_given h.1.tag language rest h.1.names (behind_space text h.1.tag h.1.before s) in ((h.0, tag.0.0, tag.0.1), tag.1)

node_given : (text : List ℕ) (node : Term) (rest : List ℕ) → IsNode absolute_iris text node rest → AreScalars text → IsGivenNode node × AreScalars rest
node_given text (Iri iri) rest h s = iri_given text iri rest h s
node_given text (Blank label) rest h s = label_given text label rest h s
node_given text (Literal value datatype language) rest h s = absurd h

object_given : (text : List ℕ) (object : Term) (rest : List ℕ) → IsObject absolute_iris text object rest → AreScalars text → IsGivenTerm object × AreScalars rest
object_given text (Iri iri) rest h s = iri_given text iri rest h s
object_given text (Blank label) rest h s = label_given text label rest h s
object_given text (Literal value datatype language) rest h s =
    let value_is = string_given text value h.0 h.1 s in
    let type_is = suffix_given h.0 datatype language rest h.2 value_is.1 in ((value_is.0, type_is.0), type_is.1)

graph_given : (text : List ℕ) (graph : Option Term) (rest : List ℕ) → IsGraph absolute_iris text graph rest → AreScalars text → IsGivenGraph graph
graph_given text None rest h s = tt
graph_given text (Some name) rest h s = (node_given h.0 name h.1 h.3 (behind_space text h.0 h.2 s)).0

-- ---- lines and texts

statement_given : (text : List ℕ) (quad : Quad) → IsStatement absolute_iris text quad → AreScalars text → IsGiven quad
statement_given text quad h s =
    let subject = node_given h.subject quad.subject h.after_subject h.has_subject (behind_space text h.subject h.before_subject s) in
    let predicate = iri_given h.predicate h.iri h.after_predicate h.has_predicate (behind_space h.after_subject h.predicate h.before_predicate subject.1) in
    let object = object_given h.object quad.object h.after_object h.has_object (behind_space h.after_predicate h.object h.before_object predicate.1) in
    record { subject = subject.0; predicate = subst IsGivenPredicate (sym h.predicate_is) predicate.0; object = object.0; graph = graph_given h.after_object quad.graph h.rest h.has_graph object.1 }

behind_sign : (text : List ℕ) (add : Bool) (rest : List ℕ) → IsSign text add rest → AreScalars text → AreScalars rest
behind_sign text true rest h s =
    elim h [
      | inl same ↦ subst AreScalars same s
      | inr plus ↦ (at_first 32 (32 ∷ rest) rest (at_first 43 text (32 ∷ rest) s plus).1 refl).1
    ]
behind_sign text false rest h s = (at_first 32 (32 ∷ rest) rest (at_first 45 text (32 ∷ rest) s h).1 refl).1

pub line_states_given : (bytes : List ℕ) (signed : Signed) → IsLine bytes (Some signed) → IsGiven signed.quad
line_states_given bytes signed h =
    statement_given h.3.0 signed.quad h.3.2 (behind_sign h.1 signed.add h.3.0 h.3.1 h.2.scalars)

abbrev AllGiven : List Signed → Type 0
AllGiven signed = AllByRecursion (λ line. IsGiven line.quad) signed

with_line : (bytes : List ℕ) (stated : Option Signed) (others : List Signed) → IsLine bytes stated → AllGiven others → AllGiven (with_stated stated others)
with_line bytes None others h given = given
with_line bytes (Some signed) others h given = (line_states_given bytes signed h, given)

lines_state_given : (lines : List (List ℕ)) (signed : List Signed) → AreLines lines signed → AllGiven signed
lines_state_given [] signed h = subst AllGiven (sym h) tt
lines_state_given (line ∷ lines) signed h =
    subst AllGiven (sym h.4) (with_line line h.0 h.1 h.2 (lines_state_given lines h.1 h.3))

pub states_given : (text : List ℕ) (signed : List Signed) → IsPatchText text signed → AllGiven signed
states_given text signed h = lines_state_given (lines_of text) signed h
