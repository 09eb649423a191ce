-- What reading gives is what the grammar relates to the characters.
use Rattle.std.proofs.Common.{◌≡◌, ℕ, zero, suc, ◌+◌, ◌≤◌, Bool, true, false, cond, List, [], ◌∷◌, ◌++◌, length, take, drop, Option, Some, None, refl, sym, ap, subst, ◌∙◌, arith, inl, inr}
use Rattle.std.specs.Prelude.{nat_eq, ◌&&◌, ◌⊎◌, encode_utf8_all}
use Rattle.std.specs.Str.{all_scalars}
use Rattle.std.specs.List.{prefix_len, list_all}
use Rattle.std.proofs.lemmas.Bool.{and_parts, cases_lt, eqb-true, eqb-false, false≢true}
use Rattle.std.proofs.lemmas.Option.{cond_some}
use Rattle.std.proofs.lemmas.List.{length-append, length-take-le, take-append-drop, take_at}
use Rattle.def_patch_texts.specs.Characters.{is_blank, is_iri_char, is_label, is_tag, lower, is_string_char, short_escape, is_hex_digit, hex_number}
use Rattle.def_patch_texts.specs.Terminals.{Allowed, IsSpace, IsNumbered, IsUnicodeEscape, IsIriPart, IsIriParts, IsIri, IsBlank, IsStringPart, IsStringParts, IsString, IsTag}
use Rattle.def_patch_texts.specs.Reading.{◌>>=◌, starts, after_char, skip, numbered_at, unicode_at, iri_part_at, iri_parts_at, iri_at, longest_front, front_at, blank_at, tag_at, escape_at, string_escape_at, string_part_at, string_parts_at, string_at}

-- ---- steps that gave a value

pub bind_some : {A B : Type 0} (o : Option A) (f : A → Option B) (y : B) → (o >>= f) ≡ Some y → (x : A) × (o ≡ Some x) × (f x ≡ Some y)
bind_some (Some x) f y e = (x, refl, e)
bind_some None f y e = absurd cc

abbrev pub found : {A : Type 0} → A → Option A
found x = Some x

pub found_is : {A : Type 0} (x y : A) → found x ≡ found y → x ≡ y
found_is x y e = cc

-- which way a choice went that gave a value
pub chosen : {A : Type 0} (b : Bool) (x y : Option A) (z : A) → cond b x y ≡ Some z → ((b ≡ true) × (x ≡ Some z)) ⊎ ((b ≡ false) × (y ≡ Some z))
chosen true x y z e = inl (refl, e)
chosen false x y z e = inr (refl, e)

pub after_char_takes : (c : ℕ) (text rest : List ℕ) → after_char c text ≡ Some rest → text ≡ c ∷ rest
unfolding after_char
after_char_takes c [] rest e = absurd cc
after_char_takes c (first ∷ text) rest e =
    let g = cond_some (nat_eq first c) text rest e in
    let same : first ≡ c = eqb-true first c g.0 in rw (same, g.1) refl

-- ---- spaces

blank_front_step : (p : ℕ → Bool) (x n : ℕ) (xs : List ℕ) (b : Bool) → p x ≡ b → list_all p (take n xs) ≡ true → list_all p (take (cond b (1 + n) 0) (x ∷ xs)) ≡ true
blank_front_step p x n xs true e h = let k : 1 + n ≡ suc n = omega arith in rw (k, e, h) refl
blank_front_step p x n xs false e h = refl

all_front : (p : ℕ → Bool) (xs : List ℕ) → list_all p (take (prefix_len p xs) xs) ≡ true
all_front p [] = refl
all_front p (x ∷ xs) = blank_front_step p x (prefix_len p xs) xs (p x) refl (all_front p xs)

pub skip_takes : (text : List ℕ) → IsSpace text (skip text)
unfolding skip
skip_takes text =
    let len : ℕ = prefix_len is_blank text in
    (take len text, all_front is_blank text, sym (take-append-drop len text))

-- ---- escapes

numbered_takes : (letter count : ℕ) (text : List ℕ) (x : ℕ × List ℕ) → numbered_at count text ≡ Some x → IsNumbered (92 ∷ letter ∷ text) letter count x.0 x.1
unfolding numbered_at
numbered_takes letter count text x e =
    let digits : List ℕ = take count text in
    let c : ℕ = hex_number 0 digits in
    let g = cond_some (nat_eq (length digits) count && list_all is_hex_digit digits && all_scalars (c ∷ [])) (c, drop count text) x e in
    let outer = and_parts (nat_eq (length digits) count && list_all is_hex_digit digits) (all_scalars (c ∷ [])) g.0 in
    let inner = and_parts (nat_eq (length digits) count) (list_all is_hex_digit digits) outer.0 in
    let made : IsNumbered (92 ∷ letter ∷ text) letter count c (drop count text) = record {
      digits = digits;
      many = eqb-true (length digits) count inner.0;
      hexadecimal = inner.1;
      names = refl;
      scalar = (and_parts _ true outer.1).0;
      spelled = ap (λ (t : List ℕ). 92 ∷ letter ∷ t) (sym (take-append-drop count text));
    } in
    subst (λ (y : ℕ × List ℕ). IsNumbered (92 ∷ letter ∷ text) letter count y.0 y.1) g.1 made

pub unicode_takes : (text : List ℕ) (x : ℕ × List ℕ) → unicode_at text ≡ Some x → IsUnicodeEscape (92 ∷ text) x.0 x.1
unfolding unicode_at
unicode_takes [] x e = absurd cc
unicode_takes (letter ∷ text) x e =
    elim (chosen (nat_eq letter 117) (numbered_at 4 text) (cond (nat_eq letter 85) (numbered_at 8 text) None) x e) [
      | inl four ↦
          let same : letter ≡ 117 = eqb-true letter 117 four.0 in
          inl (subst (λ (l : ℕ). IsNumbered (92 ∷ l ∷ text) 117 4 x.0 x.1) (sym same) (numbered_takes 117 4 text x four.1))
      | inr other ↦
          let g = cond_bind (nat_eq letter 85) (numbered_at 8 text) x other.1 in
          let same : letter ≡ 85 = eqb-true letter 85 g.0 in
          inr (subst (λ (l : ℕ). IsNumbered (92 ∷ l ∷ text) 85 8 x.0 x.1) (sym same) (numbered_takes 85 8 text x g.1))
    ]
  where
    cond_bind : (b : Bool) (o : Option (ℕ × List ℕ)) (x : ℕ × List ℕ) → cond b o None ≡ Some x → (b ≡ true) × (o ≡ Some x)
    cond_bind true o x e = (refl, e)
    cond_bind false o x e = absurd cc

-- ---- IRIs

pub iri_part_takes : (allowed : Allowed) (text : List ℕ) (x : ℕ × List ℕ) → iri_part_at allowed text ≡ Some x → IsIriPart allowed text x.0 x.1
unfolding iri_part_at
iri_part_takes allowed [] x e = absurd cc
iri_part_takes allowed (c ∷ text) x e =
    elim (chosen (nat_eq c 92) (unicode_at text >>= λ named. cond (is_iri_char named.0 && allowed.escape (c ∷ text) named.1) (Some named) None) (cond (is_iri_char c) (Some (c, text)) None) x e) [
      | inl escape ↦
          let same : c ≡ 92 = eqb-true c 92 escape.0 in
          let named = bind_some (unicode_at text) (λ named. cond (is_iri_char named.0 && allowed.escape (c ∷ text) named.1) (Some named) None) x escape.1 in
          let g = cond_some (is_iri_char named.0.0 && allowed.escape (c ∷ text) named.0.1) named.0 x named.2 in
          let parts = and_parts (is_iri_char named.0.0) (allowed.escape (c ∷ text) named.0.1) g.0 in
          let spelled : IsUnicodeEscape (c ∷ text) named.0.0 named.0.1 = subst (λ (l : ℕ). IsUnicodeEscape (l ∷ text) named.0.0 named.0.1) (sym same) (unicode_takes text named.0 named.1) in
          subst (λ (y : ℕ × List ℕ). IsIriPart allowed (c ∷ text) y.0 y.1) g.1 (parts.0, inr (spelled, parts.1))
      | inr raw ↦
          let g = cond_some (is_iri_char c) (c, text) x raw.1 in
          subst (λ (y : ℕ × List ℕ). IsIriPart allowed (c ∷ text) y.0 y.1) g.1 (g.0, inl refl)
    ]

iri_parts_takes : (room : ℕ) (allowed : Allowed) (text : List ℕ) (x : List ℕ × List ℕ) → iri_parts_at room allowed text ≡ Some x → IsIriParts allowed text x.0 x.1
unfolding iri_parts_at
iri_parts_takes zero allowed text x e = absurd cc
iri_parts_takes (suc room) allowed text x e =
    elim (chosen (starts 62 text) (Some ([], text)) (iri_part_at allowed text >>= λ part. iri_parts_at room allowed part.1 >>= λ others. Some (part.0 ∷ others.0, others.1)) x e) [
      | inl done ↦ subst (λ (y : List ℕ × List ℕ). IsIriParts allowed text y.0 y.1) (found_is ([], text) x done.1) refl
      | inr more ↦
          let part = bind_some (iri_part_at allowed text) (λ part. iri_parts_at room allowed part.1 >>= λ others. Some (part.0 ∷ others.0, others.1)) x more.1 in
          let others = bind_some (iri_parts_at room allowed part.0.1) (λ others. Some (part.0.0 ∷ others.0, others.1)) x part.2 in
          subst (λ (y : List ℕ × List ℕ). IsIriParts allowed text y.0 y.1) (found_is (part.0.0 ∷ others.0.0, others.0.1) x others.2)
          (part.0.1, iri_part_takes allowed text part.0 part.1, iri_parts_takes room allowed part.0.1 others.0 others.1)
    ]

pub iri_takes : (allowed : Allowed) (text : List ℕ) (x : List ℕ × List ℕ) → iri_at allowed text ≡ Some x → IsIri allowed text x.0 x.1
unfolding iri_at
iri_takes allowed text x e =
    let a = bind_some (after_char 60 text) (λ inside. iri_parts_at (suc (length inside)) allowed inside >>= λ parts. after_char 62 parts.1 >>= λ rest. cond (allowed.iri parts.0 rest) (Some (encode_utf8_all parts.0, rest)) None) x e in
    let b = bind_some (iri_parts_at (suc (length a.0)) allowed a.0) (λ parts. after_char 62 parts.1 >>= λ rest. cond (allowed.iri parts.0 rest) (Some (encode_utf8_all parts.0, rest)) None) x a.2 in
    let c = bind_some (after_char 62 b.0.1) (λ rest. cond (allowed.iri b.0.0 rest) (Some (encode_utf8_all b.0.0, rest)) None) x b.2 in
    let g = cond_some (allowed.iri b.0.0 c.0) (encode_utf8_all b.0.0, c.0) x c.2 in
    let parts : IsIriParts allowed a.0 b.0.0 (62 ∷ c.0) =
    subst (λ (t : List ℕ). IsIriParts allowed a.0 b.0.0 t) (after_char_takes 62 b.0.1 c.0 c.1) (iri_parts_takes (suc (length a.0)) allowed a.0 b.0 b.1) in
    subst (λ (y : List ℕ × List ℕ). IsIri allowed text y.0 y.1) g.1
    (record { characters = b.0.0; inside = a.0; opened = after_char_takes 60 text a.0 a.1; parts = parts; is_allowed = g.0; encoded = refl })

-- ---- the longest front

test_step : (test : List ℕ → Bool) (n len : ℕ) (text : List ℕ) (b : Bool) → test (take (suc n) text) ≡ b → ((len ≡ 0 → ⊥) → test (take len text) ≡ true)
    → (cond b (suc n) len ≡ 0 → ⊥) → test (take (cond b (suc n) len) text) ≡ true
test_step test n len text true is before some = is
test_step test n len text false is before some = before some

longest_test : (test : List ℕ → Bool) (n : ℕ) (text : List ℕ) → (longest_front test n text ≡ 0 → ⊥) → test (take (longest_front test n text) text) ≡ true
unfolding longest_front
longest_test test zero text some = absurd (some refl)
longest_test test (suc n) text some =
    test_step test n (longest_front test n text) text (test (take (suc n) text)) refl (longest_test test n text) some

within_step : (n len : ℕ) (b : Bool) → len ≤ n → cond b (suc n) len ≤ suc n
within_step n len true h = omega arith
within_step n len false h = omega arith

longest_within : (test : List ℕ → Bool) (n : ℕ) (text : List ℕ) → longest_front test n text ≤ n
unfolding longest_front
longest_within test zero text = omega arith
longest_within test (suc n) text = within_step n (longest_front test n text) (test (take (suc n) text)) (longest_within test n text)

bound_step : (test : List ℕ → Bool) (n len m : ℕ) (text : List ℕ) (b : Bool) → test (take (suc n) text) ≡ b → (m ≤ n → m ≤ len) → m ≤ suc n
    → test (take m text) ≡ true → m ≤ cond b (suc n) len
bound_step test n len m text true is before le fits = le
bound_step test n len m text false is before le fits =
    elim (cases_lt m (suc n)) [
      | inl lt ↦ before (omega arith)
      | inr ge ↦
          let same : m ≡ suc n = omega arith in
          absurd (false≢true (sym is ∙ subst (λ (k : ℕ). test (take k text) ≡ true) same fits))
    ]

longest_bound : (test : List ℕ → Bool) (n m : ℕ) (text : List ℕ) → m ≤ n → test (take m text) ≡ true → m ≤ longest_front test n text
unfolding longest_front
longest_bound test zero m text le fits = le
longest_bound test (suc n) m text le fits =
    bound_step test n (longest_front test n text) m text (test (take (suc n) text)) refl (λ below. longest_bound test n m text below fits) le fits

-- a longest front, and what follows it
pub record TakesFront (test : List ℕ → Bool) (text front rest : List ℕ) : Type 0 where
  pub parts : text ≡ front ++ rest
  pub fits : test front ≡ true
  pub longest : (longer more : List ℕ) → front ++ rest ≡ longer ++ more → test longer ≡ true → length longer ≤ length front

pub front_takes : (test : List ℕ → Bool) (text : List ℕ) (x : List ℕ × List ℕ) → front_at test text ≡ Some x → TakesFront test text x.0 x.1
unfolding front_at
front_takes test text x e =
    let len : ℕ = longest_front test (length text) text in
    let g = none_first (nat_eq len 0) (take len text, drop len text) x e in
    let within : len ≤ length text = longest_within test (length text) text in
    let size : length (take len text) ≡ len = length-take-le len text within in
    let made : TakesFront test text (take len text) (drop len text) = record {
      parts = sym (take-append-drop len text);
      fits = longest_test test (length text) text (eqb-false len 0 g.0);
      longest = λ longer more same fits.
          let whole : text ≡ longer ++ more = sym (take-append-drop len text) ∙ same in
          let here : test (take (length longer) text) ≡ true = ap (λ (t : List ℕ). test (take (length longer) t)) whole ∙ ap test (take_at longer more (length longer) refl) ∙ fits in
          let room : length longer ≤ length text = omega (arith, ap length whole, length-append longer more) in
          let bound : length longer ≤ len = longest_bound test (length text) (length longer) text room here in omega arith;
    } in
    subst (λ (y : List ℕ × List ℕ). TakesFront test text y.0 y.1) g.1 made
  where
    none_first : (b : Bool) (y x : List ℕ × List ℕ) → cond b None (Some y) ≡ Some x → (b ≡ false) × (y ≡ x)
    none_first true y x e = absurd cc
    none_first false y x e = (refl, found_is y x e)

pub blank_takes : (text : List ℕ) (x : List ℕ × List ℕ) → blank_at text ≡ Some x → IsBlank text x.0 x.1
unfolding blank_at
blank_takes text x e =
    let a = bind_some (after_char 95 text) (λ colon. after_char 58 colon >>= λ label. front_at is_label label >>= λ front. Some (encode_utf8_all front.0, front.1)) x e in
    let b = bind_some (after_char 58 a.0) (λ label. front_at is_label label >>= λ front. Some (encode_utf8_all front.0, front.1)) x a.2 in
    let c = bind_some (front_at is_label b.0) (λ front. Some (encode_utf8_all front.0, front.1)) x b.2 in
    let front = front_takes is_label b.0 c.0 c.1 in
    let spelled : text ≡ 95 ∷ 58 ∷ c.0.0 ++ c.0.1 =
    after_char_takes 95 text a.0 a.1 ∙ ap (λ (t : List ℕ). 95 ∷ t) (after_char_takes 58 a.0 b.0 b.1 ∙ ap (λ (t : List ℕ). 58 ∷ t) front.parts) in
    subst (λ (y : List ℕ × List ℕ). IsBlank text y.0 y.1) (found_is (encode_utf8_all c.0.0, c.0.1) x c.2)
    (record { characters = c.0.0; fits = front.fits; longest = front.longest; spelled = spelled; encoded = refl })

pub tag_takes : (text : List ℕ) (x : List ℕ × List ℕ) → tag_at text ≡ Some x → IsTag text x.0 x.1
unfolding tag_at
tag_takes text x e =
    let a = bind_some (after_char 64 text) (λ tag. front_at is_tag tag >>= λ front. Some (lower front.0, front.1)) x e in
    let c = bind_some (front_at is_tag a.0) (λ front. Some (lower front.0, front.1)) x a.2 in
    let front = front_takes is_tag a.0 c.0 c.1 in
    let spelled : text ≡ 64 ∷ c.0.0 ++ c.0.1 = after_char_takes 64 text a.0 a.1 ∙ ap (λ (t : List ℕ). 64 ∷ t) front.parts in
    subst (λ (y : List ℕ × List ℕ). IsTag text y.0 y.1) (found_is (lower c.0.0, c.0.1) x c.2)
    (record { tag = c.0.0; fits = front.fits; longest = front.longest; spelled = spelled; lowered = refl })

-- ---- strings

escape_takes : (allowed : Allowed) (letter : ℕ) (rest : List ℕ) (short : Option ℕ) (x : ℕ × List ℕ) → short_escape letter ≡ short
    → escape_at allowed (92 ∷ letter ∷ rest) (letter ∷ rest) rest short ≡ Some x → IsStringPart allowed (92 ∷ letter ∷ rest) x.0 x.1
escape_takes allowed letter rest (Some named) x short e =
    let g = cond_some (allowed.escape (92 ∷ letter ∷ rest) rest) (named, rest) x e in
    subst (λ (y : ℕ × List ℕ). IsStringPart allowed (92 ∷ letter ∷ rest) y.0 y.1) g.1 (inr (inl (letter, short, refl, g.0)))
escape_takes allowed letter rest None x short e =
    let named = bind_some (unicode_at (letter ∷ rest)) (λ named. cond (allowed.escape (92 ∷ letter ∷ rest) named.1) (Some named) None) x e in
    let g = cond_some (allowed.escape (92 ∷ letter ∷ rest) named.0.1) named.0 x named.2 in
    subst (λ (y : ℕ × List ℕ). IsStringPart allowed (92 ∷ letter ∷ rest) y.0 y.1) g.1
    (inr (inr (unicode_takes (letter ∷ rest) named.0 named.1, g.0)))

string_escape_takes : (allowed : Allowed) (behind : List ℕ) (x : ℕ × List ℕ) → string_escape_at allowed (92 ∷ behind) behind ≡ Some x → IsStringPart allowed (92 ∷ behind) x.0 x.1
unfolding string_escape_at
string_escape_takes allowed [] x e = absurd cc
string_escape_takes allowed (letter ∷ rest) x e = escape_takes allowed letter rest (short_escape letter) x refl e

string_part_takes : (allowed : Allowed) (text : List ℕ) (x : ℕ × List ℕ) → string_part_at allowed text ≡ Some x → IsStringPart allowed text x.0 x.1
unfolding string_part_at
string_part_takes allowed [] x e = absurd cc
string_part_takes allowed (c ∷ text) x e =
    elim (chosen (nat_eq c 92) (string_escape_at allowed (c ∷ text) text) (cond (is_string_char c) (Some (c, text)) None) x e) [
      | inl escape ↦
          let same : c ≡ 92 = eqb-true c 92 escape.0 in
          let here : string_escape_at allowed (92 ∷ text) text ≡ Some x = subst (λ (l : ℕ). string_escape_at allowed (l ∷ text) text ≡ Some x) same escape.1 in
          subst (λ (l : ℕ). IsStringPart allowed (l ∷ text) x.0 x.1) (sym same) (string_escape_takes allowed text x here)
      | inr raw ↦
          let g = cond_some (is_string_char c) (c, text) x raw.1 in
          subst (λ (y : ℕ × List ℕ). IsStringPart allowed (c ∷ text) y.0 y.1) g.1 (inl (g.0, refl))
    ]

string_parts_takes : (room : ℕ) (allowed : Allowed) (text : List ℕ) (x : List ℕ × List ℕ) → string_parts_at room allowed text ≡ Some x → IsStringParts allowed text x.0 x.1
unfolding string_parts_at
string_parts_takes zero allowed text x e = absurd cc
string_parts_takes (suc room) allowed text x e =
    elim (chosen (starts 34 text) (Some ([], text)) (string_part_at allowed text >>= λ part. string_parts_at room allowed part.1 >>= λ others. Some (part.0 ∷ others.0, others.1)) x e) [
      | inl done ↦ subst (λ (y : List ℕ × List ℕ). IsStringParts allowed text y.0 y.1) (found_is ([], text) x done.1) refl
      | inr more ↦
          let part = bind_some (string_part_at allowed text) (λ part. string_parts_at room allowed part.1 >>= λ others. Some (part.0 ∷ others.0, others.1)) x more.1 in
          let others = bind_some (string_parts_at room allowed part.0.1) (λ others. Some (part.0.0 ∷ others.0, others.1)) x part.2 in
          subst (λ (y : List ℕ × List ℕ). IsStringParts allowed text y.0 y.1) (found_is (part.0.0 ∷ others.0.0, others.0.1) x others.2)
          (part.0.1, string_part_takes allowed text part.0 part.1, string_parts_takes room allowed part.0.1 others.0 others.1)
    ]

pub string_takes : (allowed : Allowed) (text : List ℕ) (x : List ℕ × List ℕ) → string_at allowed text ≡ Some x → IsString allowed text x.0 x.1
unfolding string_at
string_takes allowed text x e =
    let a = bind_some (after_char 34 text) (λ inside. string_parts_at (suc (length inside)) allowed inside >>= λ parts. after_char 34 parts.1 >>= λ rest. Some (encode_utf8_all parts.0, rest)) x e in
    let b = bind_some (string_parts_at (suc (length a.0)) allowed a.0) (λ parts. after_char 34 parts.1 >>= λ rest. Some (encode_utf8_all parts.0, rest)) x a.2 in
    let c = bind_some (after_char 34 b.0.1) (λ rest. Some (encode_utf8_all b.0.0, rest)) x b.2 in
    let parts : IsStringParts allowed a.0 b.0.0 (34 ∷ c.0) =
    subst (λ (t : List ℕ). IsStringParts allowed a.0 b.0.0 t) (after_char_takes 34 b.0.1 c.0 c.1) (string_parts_takes (suc (length a.0)) allowed a.0 b.0 b.1) in
    subst (λ (y : List ℕ × List ℕ). IsString allowed text y.0 y.1) (found_is (encode_utf8_all b.0.0, c.0) x c.2)
    (record { characters = b.0.0; inside = a.0; opened = after_char_takes 34 text a.0 a.1; parts = parts; encoded = refl })
