-- What the grammar relates to a line is what reading it gives.
use Rattle.std.proofs.Common.{◌≡◌, ℕ, zero, suc, ◌<◌, ◌≤◌, true, false, List, [], ◌∷◌, ◌++◌, length, Some, None, refl, sym, ap, subst, ◌∙◌, arith, inl, inr}
use Rattle.std.specs.Prelude.{nat_eq, not, ◌&&◌}
use Rattle.std.specs.Str.{all_scalars}
use Rattle.std.specs.List.{prefix_len, list_all}
use Rattle.std.proofs.lemmas.Bool.{and_parts, and_from, eqb-true, eq-eqb, not-true, false_from_ne_true, false≢true}
use Rattle.std.proofs.lemmas.List.{length-append, take_at, drop_at}
use Rattle.lf_rdf.specs.declared.term.Term.{Term}
use Rattle.lf_rdf.specs.declared.term.Term.TheVariants.{Iri, Blank, Literal}
use Rattle.def_patch_texts.specs.Characters.{is_blank, is_iri_char, is_label, is_tag, is_string_char, short_escape, is_hex_digit, hex_number}
use Rattle.def_patch_texts.specs.Terminals.{Allowed, IsNumbered, IsUnicodeEscape, IsIriPart, IsIriParts, IsIri, IsBlank, IsStringPart, IsStringParts, IsString, IsTag}
use Rattle.def_patch_texts.specs.Statements.{IsNode}
use Rattle.def_patch_texts.specs.Reading.{starts, after_char, numbered_at, unicode_at, iri_part_at, iri_parts_at, iri_at, blank_at, tag_at, string_escape_at, string_part_at, string_parts_at, string_at, node_at, is_comment}
use Rattle.def_patch_texts.proofs.Fronts.{front_again}

-- ---- escapes

numbered_again : (count : ℕ) (digits : List ℕ) (c : ℕ) (rest : List ℕ) → length digits ≡ count → list_all is_hex_digit digits ≡ true → hex_number 0 digits ≡ c → all_scalars (c ∷ []) ≡ true
    → numbered_at count (digits ++ rest) ≡ Some (c, rest)
unfolding numbered_at
numbered_again count digits c rest many hex names fits =
    let many_test : nat_eq (length digits) count ≡ true = eq-eqb (length digits) count many in
    rw (take_at digits rest count many, drop_at digits rest count many, names, many_test, hex, fits) refl

scalars_of_one : (c : ℕ) → all_scalars (c ∷ []) ≡ true → all_scalars (c ∷ []) ≡ true
scalars_of_one c h = h

unicode_again : (text : List ℕ) (c : ℕ) (rest : List ℕ) → IsUnicodeEscape text c rest → (behind : List ℕ) × (text ≡ 92 ∷ behind) × (unicode_at behind ≡ Some (c, rest))
unfolding unicode_at
unicode_again text c rest h =
    elim h [
      | inl u ↦ (117 ∷ u.digits ++ rest, u.spelled, numbered_again 4 u.digits c rest u.many u.hexadecimal u.names (and_from _ _ u.scalar refl))
      | inr u ↦ (85 ∷ u.digits ++ rest, u.spelled, numbered_again 8 u.digits c rest u.many u.hexadecimal u.names (and_from _ _ u.scalar refl))
    ]

-- ---- IRIs

iri_part_again : (allowed : Allowed) (text : List ℕ) (c : ℕ) (rest : List ℕ) → IsIriPart allowed text c rest → iri_part_at allowed text ≡ Some (c, rest)
unfolding iri_part_at
iri_part_again allowed text c rest h =
    elim h.1 [
      | inl raw ↦
          let other : nat_eq c 92 ≡ false = false_from_ne_true (nat_eq c 92) (λ e. backslash c (eqb-true c 92 e) h.0) in
          rw (raw, h.0, other) refl
      | inr named ↦
          let u = unicode_again text c rest named.0 in
          let fine : allowed.escape (92 ∷ u.0) rest ≡ true = subst (λ (t : List ℕ). allowed.escape t rest ≡ true) u.1 named.1 in
          rw (u.1, u.2, h.0, fine) refl
    ]
  where
    backslash : (c : ℕ) → c ≡ 92 → is_iri_char c ≡ true → ⊥
    backslash c e h = let wrong : is_iri_char 92 ≡ true = subst (λ (x : ℕ). is_iri_char x ≡ true) e h in false≢true wrong

no_close : (allowed : Allowed) (text : List ℕ) (c : ℕ) (rest : List ℕ) → IsIriPart allowed text c rest → starts 62 text ≡ false
no_close allowed text c rest h =
    elim h.1 [
      | inl raw ↦ ap (starts 62) raw ∙ false_from_ne_true (nat_eq c 62) (λ e. closing c (eqb-true c 62 e) h.0)
      | inr named ↦ ap (starts 62) (unicode_again text c rest named.0).1
    ]
  where
    closing : (c : ℕ) → c ≡ 62 → is_iri_char c ≡ true → ⊥
    closing c e h = let wrong : is_iri_char 62 ≡ true = subst (λ (x : ℕ). is_iri_char x ≡ true) e h in false≢true wrong

numbered_shorter : (text : List ℕ) (letter count c : ℕ) (rest : List ℕ) → IsNumbered text letter count c rest → length rest < length text
numbered_shorter text letter count c rest u = rw u.spelled (omega (arith, length-append u.digits rest))

unicode_shorter : (text : List ℕ) (c : ℕ) (rest : List ℕ) → IsUnicodeEscape text c rest → length rest < length text
unicode_shorter text c rest h =
    elim h [ inl u ↦ numbered_shorter text 117 4 c rest u | inr u ↦ numbered_shorter text 85 8 c rest u ]

iri_part_shorter : (allowed : Allowed) (text : List ℕ) (c : ℕ) (rest : List ℕ) → IsIriPart allowed text c rest → length rest < length text
iri_part_shorter allowed text c rest h =
    elim h.1 [ inl raw ↦ rw raw (omega arith) | inr named ↦ unicode_shorter text c rest named.0 ]

iri_parts_many : (allowed : Allowed) (text cs rest : List ℕ) → IsIriParts allowed text cs rest → length cs ≤ length text
iri_parts_many allowed text [] rest h = omega arith
iri_parts_many allowed text (c ∷ cs) rest h =
    let more : length cs ≤ length h.0 = iri_parts_many allowed h.0 cs rest h.2 in
    let less : length h.0 < length text = iri_part_shorter allowed text c h.0 h.1 in omega arith

iri_parts_again : (room : ℕ) (allowed : Allowed) (text cs rest : List ℕ) → length cs < room → IsIriParts allowed text cs (62 ∷ rest) → iri_parts_at room allowed text ≡ Some (cs, 62 ∷ rest)
unfolding iri_parts_at
iri_parts_again zero allowed text cs rest lt h = absurd (omega arith)
iri_parts_again (suc room) allowed text [] rest lt h = rw h refl
iri_parts_again (suc room) allowed text (c ∷ cs) rest lt h =
    rw (no_close allowed text c h.0 h.1, iri_part_again allowed text c h.0 h.1, iri_parts_again room allowed h.0 cs rest (omega arith) h.2) refl

pub iri_again : (allowed : Allowed) (text iri rest : List ℕ) → IsIri allowed text iri rest → iri_at allowed text ≡ Some (iri, rest)
unfolding iri_at after_char
iri_again allowed text iri rest h =
    let many : length h.characters < suc (length h.inside) = omega (arith, iri_parts_many allowed h.inside h.characters (62 ∷ rest) h.parts) in
    rw (h.opened, iri_parts_again (suc (length h.inside)) allowed h.inside h.characters rest many h.parts, h.is_allowed, h.encoded) refl

-- ---- labels and tags

label_full : (label : List ℕ) → is_label label ≡ true → length label ≡ 0 → ⊥
label_full [] h e = false≢true h
label_full (c ∷ label) h e = absurd (omega arith)

tag_full : (tag : List ℕ) → is_tag tag ≡ true → length tag ≡ 0 → ⊥
tag_full [] h e = false≢true h
tag_full (c ∷ tag) h e = absurd (omega arith)

pub blank_again : (text label rest : List ℕ) → IsBlank text label rest → blank_at text ≡ Some (label, rest)
unfolding blank_at after_char
blank_again text label rest h =
    let front = front_again is_label h.characters rest h.fits (label_full h.characters h.fits) h.longest in
    rw (h.spelled, front, h.encoded) refl

pub tag_again : (text language rest : List ℕ) → IsTag text language rest → tag_at text ≡ Some (language, rest)
unfolding tag_at after_char
tag_again text language rest h =
    let front = front_again is_tag h.tag rest h.fits (tag_full h.tag h.fits) h.longest in
    rw (h.spelled, front, h.lowered) refl

-- ---- strings

no_quote_raw : (c : ℕ) → is_string_char c ≡ true → (nat_eq c 34 ≡ false) × (nat_eq c 92 ≡ false)
no_quote_raw c h =
    let outer = and_parts (not (nat_eq c 34) && not (nat_eq c 92) && not (nat_eq c 10)) (not (nat_eq c 13)) h in
    let inner = and_parts (not (nat_eq c 34) && not (nat_eq c 92)) (not (nat_eq c 10)) outer.0 in
    let both = and_parts (not (nat_eq c 34)) (not (nat_eq c 92)) inner.0 in
    (not-true (nat_eq c 34) both.0, not-true (nat_eq c 92) both.1)

-- the letters `u` and `U` of the escapes by number are no short escape
no_short_u : short_escape 117 ≡ None
no_short_u = refl

no_short_big_u : short_escape 85 ≡ None
no_short_big_u = refl

numbered_escape : (allowed : Allowed) (text : List ℕ) (letter : ℕ) (digits : List ℕ) (c : ℕ) (rest : List ℕ) → short_escape letter ≡ None
    → unicode_at (letter ∷ digits) ≡ Some (c, rest) → allowed.escape text rest ≡ true → string_escape_at allowed text (letter ∷ digits) ≡ Some (c, rest)
unfolding string_escape_at
numbered_escape allowed text letter digits c rest long named fine = rw (long, named, fine) refl

string_unicode_again : (allowed : Allowed) (text : List ℕ) (c : ℕ) (rest : List ℕ) → IsUnicodeEscape text c rest → allowed.escape text rest ≡ true
    → string_part_at allowed text ≡ Some (c, rest)
unfolding string_part_at unicode_at
string_unicode_again allowed text c rest h fine =
    elim h [
      | inl u ↦
          let e = numbered_again 4 u.digits c rest u.many u.hexadecimal u.names (and_from _ _ u.scalar refl) in
          let fine_here : allowed.escape (92 ∷ 117 ∷ u.digits ++ rest) rest ≡ true = subst (λ (t : List ℕ). allowed.escape t rest ≡ true) u.spelled fine in
          ap (string_part_at allowed) u.spelled ∙ numbered_escape allowed (92 ∷ 117 ∷ u.digits ++ rest) 117 (u.digits ++ rest) c rest refl e fine_here
      | inr u ↦
          let e = numbered_again 8 u.digits c rest u.many u.hexadecimal u.names (and_from _ _ u.scalar refl) in
          let fine_here : allowed.escape (92 ∷ 85 ∷ u.digits ++ rest) rest ≡ true = subst (λ (t : List ℕ). allowed.escape t rest ≡ true) u.spelled fine in
          ap (string_part_at allowed) u.spelled ∙ numbered_escape allowed (92 ∷ 85 ∷ u.digits ++ rest) 85 (u.digits ++ rest) c rest refl e fine_here
    ]

string_short_again : (allowed : Allowed) (text : List ℕ) (letter c : ℕ) (rest : List ℕ) → short_escape letter ≡ Some c → text ≡ 92 ∷ letter ∷ rest → allowed.escape text rest ≡ true
    → string_part_at allowed text ≡ Some (c, rest)
unfolding string_part_at string_escape_at
string_short_again allowed text letter c rest short e fine =
    let fine_here : allowed.escape (92 ∷ letter ∷ rest) rest ≡ true = subst (λ (t : List ℕ). allowed.escape t rest ≡ true) e fine in
    rw (e, short, fine_here) refl

string_raw_again : (allowed : Allowed) (text : List ℕ) (c : ℕ) (rest : List ℕ) → is_string_char c ≡ true → text ≡ c ∷ rest → string_part_at allowed text ≡ Some (c, rest)
unfolding string_part_at
string_raw_again allowed text c rest raw e = rw (e, raw, (no_quote_raw c raw).1) refl

string_part_again : (allowed : Allowed) (text : List ℕ) (c : ℕ) (rest : List ℕ) → IsStringPart allowed text c rest → string_part_at allowed text ≡ Some (c, rest)
string_part_again allowed text c rest h =
    elim h [
      | inl raw ↦ string_raw_again allowed text c rest raw.0 raw.1
      | inr other ↦
          elim other [
            | inl short ↦ string_short_again allowed text short.0 c rest short.1 short.2 short.3
            | inr named ↦ string_unicode_again allowed text c rest named.0 named.1
          ]
    ]

no_end : (allowed : Allowed) (text : List ℕ) (c : ℕ) (rest : List ℕ) → IsStringPart allowed text c rest → starts 34 text ≡ false
no_end allowed text c rest h =
    elim h [
      | inl raw ↦ ap (starts 34) raw.1 ∙ (no_quote_raw c raw.0).0
      | inr other ↦
          elim other [ inl short ↦ ap (starts 34) short.2 | inr named ↦ ap (starts 34) (unicode_again text c rest named.0).1 ]
    ]

string_part_shorter : (allowed : Allowed) (text : List ℕ) (c : ℕ) (rest : List ℕ) → IsStringPart allowed text c rest → length rest < length text
string_part_shorter allowed text c rest h =
    elim h [
      | inl raw ↦ rw raw.1 (omega arith)
      | inr other ↦ elim other [ inl short ↦ rw short.2 (omega arith) | inr named ↦ unicode_shorter text c rest named.0 ]
    ]

string_parts_many : (allowed : Allowed) (text cs rest : List ℕ) → IsStringParts allowed text cs rest → length cs ≤ length text
string_parts_many allowed text [] rest h = omega arith
string_parts_many allowed text (c ∷ cs) rest h =
    let more : length cs ≤ length h.0 = string_parts_many allowed h.0 cs rest h.2 in
    let less : length h.0 < length text = string_part_shorter allowed text c h.0 h.1 in omega arith

string_parts_again : (room : ℕ) (allowed : Allowed) (text cs rest : List ℕ) → length cs < room → IsStringParts allowed text cs (34 ∷ rest) → string_parts_at room allowed text ≡ Some (cs, 34 ∷ rest)
unfolding string_parts_at
string_parts_again zero allowed text cs rest lt h = absurd (omega arith)
string_parts_again (suc room) allowed text [] rest lt h = rw h refl
string_parts_again (suc room) allowed text (c ∷ cs) rest lt h =
    rw (no_end allowed text c h.0 h.1, string_part_again allowed text c h.0 h.1, string_parts_again room allowed h.0 cs rest (omega arith) h.2) refl

pub string_again : (allowed : Allowed) (text value rest : List ℕ) → IsString allowed text value rest → string_at allowed text ≡ Some (value, rest)
unfolding string_at after_char
string_again allowed text value rest h =
    let many : length h.characters < suc (length h.inside) = omega (arith, string_parts_many allowed h.inside h.characters (34 ∷ rest) h.parts) in
    rw (h.opened, string_parts_again (suc (length h.inside)) allowed h.inside h.characters rest many h.parts, h.encoded) refl

-- ---- nodes

-- what a node begins with: `<` or `_`
pub node_again : (allowed : Allowed) (text : List ℕ) (node : Term) (rest : List ℕ) → IsNode allowed text node rest → node_at allowed text ≡ Some (node, rest)
unfolding node_at
node_again allowed text (Iri iri) rest h =
    let first : starts 60 text ≡ true = ap (starts 60) h.opened in rw (first, iri_again allowed text iri rest h) refl
node_again allowed text (Blank label) rest h =
    let first : starts 60 text ≡ false = ap (starts 60) h.spelled in rw (first, blank_again text label rest h) refl
node_again allowed text (Literal value datatype language) rest h = absurd h

-- a node is no space, no `"`, no dot, no sign and no comment
pub record BeginsTerm (text : List ℕ) : Type 0 where
  pub no_space : prefix_len is_blank text ≡ 0
  pub no_dot : starts 46 text ≡ false
  pub no_plus : starts 43 text ≡ false
  pub no_minus : starts 45 text ≡ false
  pub no_caret : starts 94 text ≡ false
  pub no_at : starts 64 text ≡ false
  pub no_quote : starts 34 text ≡ false
  pub no_comment : is_comment text ≡ false

pub node_begins : (allowed : Allowed) (text : List ℕ) (node : Term) (rest : List ℕ) → IsNode allowed text node rest → BeginsTerm text
node_begins allowed text (Iri iri) rest h = let P : List ℕ → Type 0 = BeginsTerm in subst P (sym h.opened) (record {
  no_space = refl;
  no_dot = refl;
  no_plus = refl;
  no_minus = refl;
  no_caret = refl;
  no_at = refl;
  no_quote = refl;
  no_comment = refl;
})
node_begins allowed text (Blank label) rest h = let P : List ℕ → Type 0 = BeginsTerm in subst P (sym h.spelled) (record {
  no_space = refl;
  no_dot = refl;
  no_plus = refl;
  no_minus = refl;
  no_caret = refl;
  no_at = refl;
  no_quote = refl;
  no_comment = refl;
})
node_begins allowed text (Literal value datatype language) rest h = absurd h
