-- The canonical line of a quad that the grammar gives is a line of the grammar that states it.
use Rattle.std.proofs.Common.{◌≡◌, ℕ, ◌≤◌, Bool, true, false, List, [], ◌∷◌, ◌++◌, length, refl, sym, ap, subst, ◌∙◌, append_assoc, arith, inl, inr}
use Rattle.std.specs.Prelude.{nat_eq, not, ◌&&◌, ◌||◌, ◌⊎◌}
use Rattle.std.specs.List.{list_all}
use Rattle.std.proofs.lemmas.Bool.{and_parts, and_from, or_cases, or_left, or_right, false≢true}
use Rattle.lf_rdf.specs.Canonical.{bracketed}
use Rattle.def_patch_texts.specs.Characters.{is_letter, is_digit, is_iri_char, is_pn_chars_u, is_label_char, is_label, is_tag, is_tag_rest, ends_well, lower}
use Rattle.def_patch_texts.specs.Terminals.{IsIriParts, IsIri, IsBlank, IsTag}
use Rattle.def_patch_texts.specs.PatchText.{absolute_iris}
use Rattle.def_patch_texts.specs.Given.{IsGivenIri, IsGivenLabel}
use Rattle.def_patch_texts.proofs.Written.{all_plain_by, Written, written-nil, written-append, written-cons}

-- ---- IRIs

raw_iri_parts : (cs rest : List ℕ) → list_all is_iri_char cs ≡ true → IsIriParts absolute_iris (cs ++ rest) cs rest
raw_iri_parts [] rest h = refl
raw_iri_parts (c ∷ cs) rest h =
    let parts = and_parts (is_iri_char c) (list_all is_iri_char cs) h in
    (cs ++ rest, (parts.0, inl refl), raw_iri_parts cs rest parts.1)

iri_chars : List ℕ → List ℕ
iri_chars cs = 60 ∷ cs ++ 62 ∷ []

pub iri_states : (iri : List ℕ) (g : IsGivenIri iri) (rest : List ℕ) → IsIri absolute_iris ((60 ∷ g.characters ++ 62 ∷ []) ++ rest) iri rest
iri_states iri g rest = record {
  characters = g.characters;
  inside = g.characters ++ 62 ∷ rest;
  opened = ap (λ (t : List ℕ). 60 ∷ t) (append_assoc g.characters (62 ∷ []) rest);
  parts = raw_iri_parts g.characters (62 ∷ rest) g.raw;
  is_allowed = g.absolute;
  encoded = sym g.encoded.encoded;
}

pub iri_written : (iri : List ℕ) (g : IsGivenIri iri) → Written (bracketed iri) (60 ∷ g.characters ++ 62 ∷ [])
iri_written iri g =
    let inside : Written iri g.characters = record { encoded = g.encoded; plain = all_plain_by is_iri_char g.characters refl refl g.raw } in
    written-cons 60 (iri ++ 62 ∷ []) (g.characters ++ 62 ∷ []) (omega arith) refl refl
    (written-append iri g.characters (62 ∷ []) (62 ∷ []) inside (written-cons 62 [] [] (omega arith) refl refl written-nil))

-- ---- fronts that stop at a space

front_stops : (p : ℕ → Bool) (xs : List ℕ) (b : ℕ) (rest longer more : List ℕ) → p b ≡ false → xs ++ b ∷ rest ≡ longer ++ more → list_all p longer ≡ true
    → length longer ≤ length xs
front_stops p [] b rest [] more stop e h = omega arith
front_stops p [] b rest (l ∷ longer) more stop e h =
    let same : l ≡ b = cc in
    absurd (false≢true (sym stop ∙ subst (λ (x : ℕ). p x ≡ true) same (and_parts (p l) (list_all p longer) h).0))
front_stops p (x ∷ xs) b rest [] more stop e h = omega arith
front_stops p (x ∷ xs) b rest (l ∷ longer) more stop e h =
    let tail : xs ++ b ∷ rest ≡ longer ++ more = cc in
    let next : length longer ≤ length xs = front_stops p xs b rest longer more stop tail (and_parts (p l) (list_all p longer) h).1 in
    omega arith

-- ---- labels

first_label_char : (c : ℕ) → (is_pn_chars_u c || is_digit c) ≡ true → is_label_char c ≡ true
first_label_char c h =
    elim (or_cases (is_pn_chars_u c) (is_digit c) h) [ inl u ↦ rw u refl | inr d ↦ digit_label c d ]
  where
    digit_label : (c : ℕ) → is_digit c ≡ true → is_label_char c ≡ true
    digit_label c d = or_left _ _ (or_left _ _ (or_left _ _ (or_left _ _ (or_right (is_pn_chars_u c || nat_eq c 45) (is_digit c) d))))

label_chars : (label : List ℕ) → is_label label ≡ true → list_all is_label_char label ≡ true
label_chars [] h = refl
label_chars (c ∷ label) h =
    let outer = and_parts ((is_pn_chars_u c || is_digit c) && list_all is_label_char label) (ends_well c label) h in
    let inner = and_parts (is_pn_chars_u c || is_digit c) (list_all is_label_char label) outer.0 in
    and_from _ _ (first_label_char c inner.0) inner.1

pub label_states : (label : List ℕ) (g : IsGivenLabel label) (rest : List ℕ) → IsBlank ((95 ∷ 58 ∷ g.characters) ++ 32 ∷ rest) label (32 ∷ rest)
label_states label g rest = record {
  characters = g.characters;
  fits = g.fits;
  longest = λ longer more e h. front_stops is_label_char g.characters 32 rest longer more refl e (label_chars longer h);
  spelled = refl;
  encoded = sym g.encoded.encoded;
}

pub label_written : (label : List ℕ) (g : IsGivenLabel label) → Written (95 ∷ 58 ∷ label) (95 ∷ 58 ∷ g.characters)
label_written label g =
    written-cons 95 (58 ∷ label) (58 ∷ g.characters) (omega arith) refl refl
    (written-cons 58 label g.characters (omega arith) refl refl
    (record { encoded = g.encoded; plain = all_plain_by is_label_char g.characters refl refl (label_chars g.characters g.fits) }))

-- ---- tags

abbrev pub is_tag_char : ℕ → Bool
is_tag_char c = is_letter c || is_digit c || nat_eq c 45

tag_char : (needed digits : Bool) (c : ℕ) → (is_letter c || (digits && is_digit c) || (not needed && nat_eq c 45)) ≡ true → is_tag_char c ≡ true
tag_char true true c h = elim (or_cases (is_letter c || is_digit c) false h) [ inl a ↦ or_left (is_letter c || is_digit c) (nat_eq c 45) a | inr b ↦ absurd (false≢true b) ]
tag_char true false c h = elim (or_cases (is_letter c || false) false h) [ inl a ↦ letter_only c (or_cases (is_letter c) false a) | inr b ↦ absurd (false≢true b) ]
  where
    letter_only : (c : ℕ) → (is_letter c ≡ true) ⊎ (false ≡ true) → is_tag_char c ≡ true
    letter_only c x = elim x [ inl a ↦ or_left (is_letter c || is_digit c) (nat_eq c 45) (or_left (is_letter c) (is_digit c) a) | inr b ↦ absurd (false≢true b) ]
tag_char false true c h = h
tag_char false false c h = elim (or_cases (is_letter c || false) (nat_eq c 45) h) [ inl a ↦ letter_only c (or_cases (is_letter c) false a) | inr b ↦ or_right (is_letter c || is_digit c) (nat_eq c 45) b ]
  where
    letter_only : (c : ℕ) → (is_letter c ≡ true) ⊎ (false ≡ true) → is_tag_char c ≡ true
    letter_only c x = elim x [ inl a ↦ or_left (is_letter c || is_digit c) (nat_eq c 45) (or_left (is_letter c) (is_digit c) a) | inr b ↦ absurd (false≢true b) ]

tag_rest_chars : (needed digits : Bool) (tag : List ℕ) → is_tag_rest needed digits tag ≡ true → list_all is_tag_char tag ≡ true
tag_rest_chars needed digits [] h = refl
tag_rest_chars needed digits (c ∷ tag) h =
    let parts = and_parts (is_letter c || (digits && is_digit c) || (not needed && nat_eq c 45)) (is_tag_rest (nat_eq c 45) (digits || nat_eq c 45) tag) h in
    and_from _ _ (tag_char needed digits c parts.0) (tag_rest_chars (nat_eq c 45) (digits || nat_eq c 45) tag parts.1)

pub tag_chars : (tag : List ℕ) → is_tag tag ≡ true → list_all is_tag_char tag ≡ true
tag_chars tag h = tag_rest_chars true false tag h

pub tag_states : (tag : List ℕ) → is_tag tag ≡ true → lower tag ≡ tag → (rest : List ℕ) → IsTag ((64 ∷ tag) ++ 32 ∷ rest) tag (32 ∷ rest)
tag_states tag fits low rest = record {
  tag = tag;
  fits = fits;
  longest = λ longer more e h. front_stops is_tag_char tag 32 rest longer more refl e (tag_chars longer h);
  spelled = refl;
  lowered = sym low;
}
