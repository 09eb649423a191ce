-- Worked cases of bad lines, one of each kind at least.
use Rattle.std.proofs.Common.{◌≡◌, ℕ, ◌+◌, ◌*◌, ◌<◌, ◌≤◌, Bool, true, false, List, [], ◌∷◌, ◌++◌, length, Option, Some, None, refl, sym, ap, subst, ◌∙◌, arith, inl, inr}
use Rattle.std.specs.Prelude.{codes, nat_lt, nat_le, ◌||◌, IsUtf8}
use Rattle.std.specs.Char.{encode_utf8}
use Rattle.std.specs.Str.{is_utf8, chars}
use Rattle.std.specs.List.{list_all}
use Rattle.std.proofs.lemmas.Bool.{and_parts, and_right, le-ltb, leb-true, eqb-false, false≢true}
use Rattle.std.proofs.lemmas.Str.{is_utf8-from_IsUtf8}
use lib.Utf8.{scalar_cases}
use Rattle.lf_rdf.specs.declared.term.Term.TheVariants.{Iri, Literal}
use Rattle.lf_rdf.specs.declared.quad.Quad.{Quad}
use Rattle.lf_rdf.specs.declared.quad.Signed.{Signed}
use Rattle.lf_rdf.specs.Vocabulary.{xsd_string}
use Rattle.def_patch_texts.specs.declared.kind.LineKind.TheVariants.{Syntax, RelativeIri, BadEscape, NotUtf8, LineTooLong}
use Rattle.def_patch_texts.specs.Characters.{is_iri_char, is_digit, is_between, is_hex_digit, hex_digit, hex_number}
use Rattle.def_patch_texts.specs.Terminals.{IsNumbered, IsUnicodeEscape}
use Rattle.def_patch_texts.specs.PatchText.{absolute_iris, lines_of, line_limit, IsEncoded}
use Rattle.def_patch_texts.specs.BadLine.{any_iris, absolute_before, whole_before, HasRelativeIri, IsGood, IsBadLine}
use Rattle.def_patch_texts.specs.Reading.{◌>>=◌, after_char, skip, iri_part_at, iri_parts_at, iri_at, longest_front, front_at, blank_at, tag_at, unicode_at, string_escape_at, string_part_at, string_parts_at, string_at, node_at, typed_at, suffix_at, object_at, named_at, graph_at, statement_at, sign_at, signed_at, line_at}
use Rattle.def_patch_texts.specs.WorkedCases.{reading_open, adds, relative_quad, relative_refused, relative_allowed, good_line, relative_line, third_line_relative, escaped_space, escaped_surrogate, relative_before_escape, literal_predicate, no_utf8}
use Rattle.def_patch_texts.proofs.Takes.{unicode_takes}
use Rattle.def_patch_texts.proofs.TakesLine.{line_takes}
use Rattle.def_patch_texts.proofs.Faults.{begins_by, begins_not, StopsAt, not_good, first_alone, bad_behind, straddles}

abbrev stating : Quad → Option Signed
stating quad = Some (record { add = true; quad = quad })

-- a quad of these three IRIs, and of two and the text `x`
abbrev of_iris : List ℕ → List ℕ → List ℕ → Quad
of_iris s p o = record { subject = Iri s; predicate = Iri p; object = Iri o; graph = None }

abbrev of_text : List ℕ → List ℕ → List ℕ → Quad
of_text s p text = record { subject = Iri s; predicate = Iri p; object = Literal text xsd_string None; graph = None }

-- ---- a third line with a relative IRI

good_read : line_at absolute_iris good_line ≡ adds (of_text (codes "http://e/a") (codes "http://e/p") (codes "x"))
unfolding reading_open
good_read = refl

good_encoded : IsEncoded good_line good_line
unfolding encode_utf8
good_encoded = record { scalars = refl; encoded = refl }

relative_encoded : IsEncoded relative_line relative_line
unfolding encode_utf8
relative_encoded = record { scalars = refl; encoded = refl }

is_good : IsGood good_line
is_good = (stating (of_text (codes "http://e/a") (codes "http://e/p") (codes "x")), (omega arith, good_line, good_encoded, line_takes absolute_iris good_line _ good_read))

-- however the line goes on, its second IRI ends before what follows, and is relative
relative_fails : (more : List ℕ) → line_at (absolute_before (length more)) (relative_line ++ more) ≡ None
unfolding reading_open
relative_fails more =
    let before : nat_lt (length (codes " \"x\" ." ++ more)) (length more) ≡ false = le-ltb _ _ (omega arith) in
    rw before refl

has_relative : HasRelativeIri relative_line
has_relative = begins_not absolute_before relative_line relative_fails

pub third_line_is_bad : IsBadLine third_line_relative 3 RelativeIri
third_line_is_bad = (
  relative_line,
  record {
    before = good_line ∷ good_line ∷ [];
    after = [];
    cut = refl;
    counted = refl;
    good_before = (is_good, (is_good, tt));
    is_bad = not_good relative_line relative_line relative_encoded relative_refused;
  },
  (
    omega arith,
    (
      relative_line,
      relative_encoded,
      (
        length relative_line,
        record {
          within = omega arith;
          begins = begins_by (λ more. any_iris) relative_line [] (stating relative_quad) relative_allowed;
          longest = λ longer le b. le;
        },
        has_relative,
      ),
    ),
  ),
)

-- ---- escapes

bind_none : {A B : Type 0} (o : Option A) (f : A → Option B) → ((x : A) → o ≡ Some x → f x ≡ None) → (o >>= f) ≡ None
bind_none None f h = refl
bind_none (Some x) f h = h x refl

-- an escape that isn't ended in a front takes a character behind it
iri_part_fails : (shown more : List ℕ) → length shown < 4 → iri_part_at (whole_before (length more)) (92 ∷ 117 ∷ shown ++ more) ≡ None
unfolding iri_part_at
iri_part_fails shown more few =
    bind_none (unicode_at (117 ∷ shown ++ more)) _ (λ named e.
    let over = straddles 117 shown more few named.0 named.1 (unicode_takes (117 ∷ shown ++ more) named e) in
    rw (over, and_right (is_iri_char named.0) false refl) refl)

string_part_fails : (shown more : List ℕ) → length shown < 4 → string_part_at (whole_before (length more)) (92 ∷ 117 ∷ shown ++ more) ≡ None
unfolding string_part_at string_escape_at
string_part_fails shown more few =
    bind_none (unicode_at (117 ∷ shown ++ more)) _ (λ named e.
    let over = straddles 117 shown more few named.0 named.1 (unicode_takes (117 ∷ shown ++ more) named e) in
    rw over refl)

-- ---- an escape of a space in an IRI

abbrev space_front : List ℕ
space_front = codes "<http://e/\\u002"

abbrev exclamation : Option Signed
exclamation = stating (of_text (codes "http://e/!") (codes "http://e/p") (codes "x"))

space_begins : line_at any_iris (space_front ++ codes "1> <http://e/p> \"x\" .") ≡ Some exclamation
unfolding reading_open
space_begins = refl

space_absolute : line_at (absolute_before (length (codes "1> <http://e/p> \"x\" ."))) (space_front ++ codes "1> <http://e/p> \"x\" .") ≡ Some exclamation
unfolding reading_open
space_absolute = refl

space_stops : StopsAt space_front 48
unfolding reading_open
space_stops more = refl

space_refused : line_at absolute_iris escaped_space ≡ None
unfolding reading_open
space_refused = refl

space_encoded : IsEncoded escaped_space escaped_space
unfolding encode_utf8
space_encoded = record { scalars = refl; encoded = refl }

space_inside : (more : List ℕ) → line_at (whole_before (length more)) (space_front ++ more) ≡ None
unfolding after_char skip iri_part_at iri_parts_at iri_at longest_front front_at blank_at tag_at string_parts_at string_at node_at typed_at suffix_at object_at named_at graph_at statement_at sign_at signed_at line_at
space_inside more = rw (iri_part_fails (codes "002") more (omega arith)) refl

pub escape_is_bad : IsBadLine escaped_space 1 BadEscape
escape_is_bad =
    bad_behind space_front 48 (codes "> <http://e/p> \"x\" .") BadEscape (omega arith) space_encoded refl space_refused
    (begins_by (λ more. any_iris) space_front (codes "1> <http://e/p> \"x\" .") exclamation space_begins) space_stops
    ((λ h. h (begins_by absolute_before space_front (codes "1> <http://e/p> \"x\" .") exclamation space_absolute)), begins_not whole_before space_front space_inside)

-- ---- an escape of a surrogate in a string

between_parts : (low high c : ℕ) → is_between low high c ≡ true → (low ≤ c) × (c ≤ high)
between_parts low high c h =
    let parts = and_parts (nat_le low c) (nat_le c high) h in (leb-true low c parts.0, leb-true c high parts.1)

last_of : (a b c : Bool) → a ≡ false → b ≡ false → (a || b || c) ≡ true → c ≡ true
last_of true b c x y h = absurd (false≢true (sym x))
last_of false true c x y h = absurd (false≢true (sym y))
last_of false false c x y h = h

hex_small : (c : ℕ) → is_hex_digit c ≡ true → hex_digit c < 16
hex_small c h = by (is_digit c) (is_between 65 70 c) refl refl
  where
    by : (d u : Bool) → is_digit c ≡ d → is_between 65 70 c ≡ u → hex_digit c < 16
    by true u is upper = let range = between_parts 48 57 c is in rw is (omega (arith, range.0, range.1))
    by false true is upper = let range = between_parts 65 70 c upper in rw (is, upper) (omega (arith, range.0, range.1))
    by false false is upper =
        let small : is_between 97 102 c ≡ true = last_of (is_digit c) (is_between 65 70 c) (is_between 97 102 c) is upper h in
        let range = between_parts 97 102 c small in rw (is, upper) (omega (arith, range.0, range.1))

-- the digits begin as what is shown
begin_so : (digits rest more : List ℕ) → length digits ≡ 4 → 68 ∷ 56 ∷ more ≡ digits ++ rest → (x : ℕ) × (y : ℕ) × (digits ≡ 68 ∷ 56 ∷ x ∷ y ∷ [])
begin_so [] rest more many e = absurd (omega (arith, many))
begin_so (a ∷ []) rest more many e = absurd (omega (arith, many))
begin_so (a ∷ b ∷ []) rest more many e = absurd (omega (arith, many))
begin_so (a ∷ b ∷ x ∷ []) rest more many e = absurd (omega (arith, many))
begin_so (a ∷ b ∷ x ∷ y ∷ []) rest more many e = (x, y, cc)
begin_so (a ∷ b ∷ x ∷ y ∷ z ∷ digits) rest more many e = absurd (omega (arith, many))

no_surrogate : (more : List ℕ) (c : ℕ) (rest : List ℕ) → IsUnicodeEscape (92 ∷ 117 ∷ 68 ∷ 56 ∷ more) c rest → ⊥
no_surrogate more c rest h = elim h [ inl four ↦ by_four four | inr eight ↦ eqb-false 117 85 refl cc ]
  where
    by_four : IsNumbered (92 ∷ 117 ∷ 68 ∷ 56 ∷ more) 117 4 c rest → ⊥
    by_four u =
        let shown = begin_so u.digits rest more u.many cc in
        let hex : list_all is_hex_digit (68 ∷ 56 ∷ shown.0 ∷ shown.1 ∷ []) ≡ true = subst (λ (t : List ℕ). list_all is_hex_digit t ≡ true) shown.2 u.hexadecimal in
        let third = and_parts (is_hex_digit shown.0) (list_all is_hex_digit (shown.1 ∷ [])) hex in
        let fourth = and_parts (is_hex_digit shown.1) true third.1 in
        let x : hex_digit shown.0 < 16 = hex_small shown.0 third.0 in
        let y : hex_digit shown.1 < 16 = hex_small shown.1 fourth.0 in
        let value : c ≡ (3456 + hex_digit shown.0) * 16 + hex_digit shown.1 = sym u.names ∙ ap (hex_number 0) shown.2 in
        elim (scalar_cases c u.scalar) [ inl low ↦ omega (arith, x, y, value, low) | inr high ↦ omega (arith, x, y, value, high.0) ]

abbrev surrogate_front : List ℕ
surrogate_front = codes "<http://e/a> <http://e/p> \"\\uD"

abbrev no_surrogate_text : Option Signed
no_surrogate_text = stating (of_text (codes "http://e/a") (codes "http://e/p") (0xED ∷ 0x9E ∷ 0x80 ∷ []))

surrogate_begins : line_at any_iris (surrogate_front ++ codes "780\" .") ≡ Some no_surrogate_text
unfolding reading_open
surrogate_begins = refl

surrogate_absolute : line_at (absolute_before (length (codes "780\" ."))) (surrogate_front ++ codes "780\" .") ≡ Some no_surrogate_text
unfolding reading_open
surrogate_absolute = refl

part_stops : (more : List ℕ) → string_part_at any_iris (92 ∷ 117 ∷ 68 ∷ 56 ∷ more) ≡ None
unfolding string_part_at string_escape_at
part_stops more =
    bind_none (unicode_at (117 ∷ 68 ∷ 56 ∷ more)) _ (λ named e.
    absurd (no_surrogate more named.0 named.1 (unicode_takes (117 ∷ 68 ∷ 56 ∷ more) named e)))

surrogate_stops : StopsAt surrogate_front 56
unfolding after_char skip iri_part_at iri_parts_at iri_at longest_front front_at blank_at tag_at string_parts_at string_at node_at typed_at suffix_at object_at named_at graph_at statement_at sign_at signed_at line_at
surrogate_stops more = rw (part_stops more) refl

surrogate_refused : line_at absolute_iris escaped_surrogate ≡ None
unfolding reading_open
surrogate_refused = refl

surrogate_encoded : IsEncoded escaped_surrogate escaped_surrogate
unfolding encode_utf8
surrogate_encoded = record { scalars = refl; encoded = refl }

surrogate_inside : (more : List ℕ) → line_at (whole_before (length more)) (surrogate_front ++ more) ≡ None
unfolding after_char skip iri_part_at iri_parts_at iri_at longest_front front_at blank_at tag_at string_parts_at string_at node_at typed_at suffix_at object_at named_at graph_at statement_at sign_at signed_at line_at
surrogate_inside more = rw (string_part_fails (codes "D") more (omega arith)) refl

pub surrogate_is_bad : IsBadLine escaped_surrogate 1 BadEscape
surrogate_is_bad =
    bad_behind surrogate_front 56 (codes "00\" .") BadEscape (omega arith) surrogate_encoded refl surrogate_refused
    (begins_by (λ more. any_iris) surrogate_front (codes "780\" .") no_surrogate_text surrogate_begins) surrogate_stops
    ((λ h. h (begins_by absolute_before surrogate_front (codes "780\" .") no_surrogate_text surrogate_absolute)), begins_not whole_before surrogate_front surrogate_inside)

-- ---- a relative IRI before a bad escape

abbrev mixed_front : List ℕ
mixed_front = codes "<a> <http://e/\\u002"

abbrev mixed_quad : Option Signed
mixed_quad = stating (of_text (codes "a") (codes "http://e/!") (codes "x"))

mixed_begins : line_at any_iris (mixed_front ++ codes "1> \"x\" .") ≡ Some mixed_quad
unfolding reading_open
mixed_begins = refl

mixed_stops : StopsAt mixed_front 48
unfolding reading_open
mixed_stops more = refl

mixed_refused : line_at absolute_iris relative_before_escape ≡ None
unfolding reading_open
mixed_refused = refl

mixed_encoded : IsEncoded relative_before_escape relative_before_escape
unfolding encode_utf8
mixed_encoded = record { scalars = refl; encoded = refl }

mixed_relative : (more : List ℕ) → line_at (absolute_before (length more)) (mixed_front ++ more) ≡ None
unfolding reading_open
mixed_relative more =
    let before : nat_lt (length (codes " <http://e/\\u002" ++ more)) (length more) ≡ false = le-ltb _ _ (omega arith) in
    rw before refl

pub relative_comes_first : IsBadLine relative_before_escape 1 RelativeIri
relative_comes_first =
    bad_behind mixed_front 48 (codes "> \"x\" .") RelativeIri (omega arith) mixed_encoded refl mixed_refused
    (begins_by (λ more. any_iris) mixed_front (codes "1> \"x\" .") mixed_quad mixed_begins) mixed_stops (begins_not absolute_before mixed_front mixed_relative)

-- ---- a literal in place of the predicate

abbrev predicate_front : List ℕ
predicate_front = codes "<http://e/a> "

abbrev predicate_quad : Option Signed
predicate_quad = stating (of_iris (codes "http://e/a") (codes "b:") (codes "c:"))

predicate_begins : line_at any_iris (predicate_front ++ codes "<b:><c:>.") ≡ Some predicate_quad
unfolding reading_open
predicate_begins = refl

predicate_absolute : line_at (absolute_before (length (codes "<b:><c:>."))) (predicate_front ++ codes "<b:><c:>.") ≡ Some predicate_quad
unfolding reading_open
predicate_absolute = refl

predicate_whole : line_at (whole_before (length (codes "<b:><c:>."))) (predicate_front ++ codes "<b:><c:>.") ≡ Some predicate_quad
unfolding reading_open
predicate_whole = refl

predicate_stops : StopsAt predicate_front 34
unfolding reading_open
predicate_stops more = refl

predicate_refused : line_at absolute_iris literal_predicate ≡ None
unfolding reading_open
predicate_refused = refl

predicate_encoded : IsEncoded literal_predicate literal_predicate
unfolding encode_utf8
predicate_encoded = record { scalars = refl; encoded = refl }

pub predicate_is_bad : IsBadLine literal_predicate 1 Syntax
predicate_is_bad =
    bad_behind predicate_front 34 (codes "p\" \"x\" .") Syntax (omega arith) predicate_encoded refl predicate_refused
    (begins_by (λ more. any_iris) predicate_front (codes "<b:><c:>.") predicate_quad predicate_begins) predicate_stops
    ((λ h. h (begins_by absolute_before predicate_front (codes "<b:><c:>.") predicate_quad predicate_absolute)), (λ h. h (begins_by whole_before predicate_front (codes "<b:><c:>.") predicate_quad predicate_whole)))

-- ---- bytes alone

not_utf8 : is_utf8 no_utf8 ≡ false
unfolding is_utf8 chars encode_utf8
not_utf8 = refl

utf8_is_lacking : IsUtf8 no_utf8 → ⊥
utf8_is_lacking u = false≢true (sym not_utf8 ∙ is_utf8-from_IsUtf8 no_utf8 u)

pub no_utf8_is_bad : IsBadLine no_utf8 1 NotUtf8
no_utf8_is_bad = (no_utf8, first_alone no_utf8 refl (λ g. utf8_is_lacking (g.1.1, (g.1.2.scalars, g.1.2.encoded))), (omega arith, utf8_is_lacking))

pub too_long_is_bad : (line : List ℕ) → lines_of line ≡ line ∷ [] → line_limit < length line → IsBadLine line 1 LineTooLong
too_long_is_bad line alone long =
    (line, first_alone line alone (λ g. let short : length line ≤ line_limit = g.1.0 in omega arith), long)
