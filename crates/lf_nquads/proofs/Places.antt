-- Places in a text: its characters and its bytes.
use Rattle.std.proofs.Common.{◌≡◌, ℕ, ◌+◌, ◌-◌, ◌<◌, ◌≤◌, Bool, true, false, cond, zero, suc, List, [], ◌∷◌, ◌++◌, length, take, drop, get_or, Option, Some, None, refl, sym, ap, subst, ◌∙◌, arith, inl, inr}
use Rattle.std.specs.Prelude.{MatchOption, encode_utf8, encode_utf8_all}
use Rattle.std.specs.List.{prefix_len, list_all}
use Rattle.std.specs.Str.{chars, all_scalars, is_utf8, IsCharBoundary}
use Rattle.std.proofs.lemmas.Bool.{and_parts, and_from, cases_lt, false≢true}
use Rattle.std.proofs.lemmas.Bool.Decides.{nat_tests}
use Rattle.std.proofs.lemmas.List.{nil_from_length, length-append, take_at, drop_at, take-append-drop}
use Rattle.std.proofs.lemmas.Str.{IsUtf8-from_is_utf8, is_utf8-from_IsUtf8, chars_past_char, chars-nil, encodes-chars, encodes-append, IsCharBoundary-at_seam, encode_ascii, chars-encodes, scalars-chars}
use Rattle.def_patch_texts.specs.Characters.{is_blank, is_iri_char, is_string_char}
use Rattle.def_patch_texts.specs.Reading.{skip}
use Rattle.def_patch_texts.proofs.Written.{high_bytes}
use Rattle.lf_nquads.specs.Scanning.{first_is}

-- ---- spaces

pub skip_one : (text rest : List ℕ) (c : ℕ) → first_is is_blank text ≡ true → text ≡ c ∷ rest → skip text ≡ skip rest
unfolding skip
skip_one text rest c h e =
    let blank : is_blank c ≡ true = sym (ap (first_is is_blank) e) ∙ h in
    let next : 1 + prefix_len is_blank rest ≡ suc (prefix_len is_blank rest) = omega arith in
    rw (e, blank, next) refl

pub skip_none : (text : List ℕ) → first_is is_blank text ≡ false → skip text ≡ text
unfolding skip
skip_none [] h = refl
skip_none (c ∷ text) h = rw h refl

-- what taking the next character does
abbrev pub TakesNext : Option ℕ → List ℕ → List ℕ → Type 0
TakesNext taken before after = MatchOption taken ((before ≡ []) × (after ≡ [])) (λ c. before ≡ c ∷ after)

pub skip_next : (taken : Option ℕ) (before after : List ℕ) → TakesNext taken before after → first_is is_blank before ≡ true → skip before ≡ skip after
skip_next None before after h blank = absurd (false≢true (sym (ap (first_is is_blank) h.0) ∙ blank))
skip_next (Some c) before after h blank = skip_one before after c blank h

pub next_shorter : (taken : Option ℕ) (before after : List ℕ) → TakesNext taken before after → first_is is_blank before ≡ true → length after < length before
next_shorter None before after h blank = absurd (false≢true (sym (ap (first_is is_blank) h.0) ∙ blank))
next_shorter (Some c) before after h blank = rw h (omega arith)

-- ---- the seam between two places

pub seam : (bs es between : List ℕ) → is_utf8 bs ≡ true → is_utf8 es ≡ true → chars bs ≡ between ++ chars es → bs ≡ encode_utf8_all between ++ es
seam bs es between u v h =
    sym (encodes-chars bs (IsUtf8-from_is_utf8 bs u)) ∙ ap encode_utf8_all h ∙ encodes-append between (chars es)
    ∙ ap (λ (t : List ℕ). encode_utf8_all between ++ t) (encodes-chars es (IsUtf8-from_is_utf8 es v))

pub seam_before : (bs es between : List ℕ) → is_utf8 bs ≡ true → is_utf8 es ≡ true → chars bs ≡ between ++ chars es → length es ≤ length bs
seam_before bs es between u v h =
    let e = seam bs es between u v h in omega (arith, ap length e, length-append (encode_utf8_all between) es)

pub seam_at : (bs es between : List ℕ) → is_utf8 bs ≡ true → is_utf8 es ≡ true → chars bs ≡ between ++ chars es → length bs - length es ≡ length (encode_utf8_all between)
seam_at bs es between u v h =
    let e = seam bs es between u v h in omega (arith, ap length e, length-append (encode_utf8_all between) es)

pub seam_boundary : (bs es between : List ℕ) → is_utf8 bs ≡ true → is_utf8 es ≡ true → chars bs ≡ between ++ chars es → IsCharBoundary bs (length bs - length es)
seam_boundary bs es between u v h =
    subst (λ (n : ℕ). IsCharBoundary bs n) (sym (seam_at bs es between u v h))
    (IsCharBoundary-at_seam bs (encode_utf8_all between) es (seam bs es between u v h) (IsUtf8-from_is_utf8 es v))

pub seam_text : (bs es between : List ℕ) → is_utf8 bs ≡ true → is_utf8 es ≡ true → chars bs ≡ between ++ chars es → take (length bs - length es) bs ≡ encode_utf8_all between
seam_text bs es between u v h =
    ap (λ (n : ℕ). take n bs) (seam_at bs es between u v h) ∙ ap (take (length (encode_utf8_all between))) (seam bs es between u v h)
    ∙ take_at (encode_utf8_all between) es (length (encode_utf8_all between)) refl

-- ---- the next character

pub next_char : (now bs before after rest : List ℕ) (c : ℕ) → is_utf8 bs ≡ true → chars bs ≡ now → before ≡ bs → before ≡ encode_utf8 c ++ after → rest ≡ after → now ≡ c ∷ chars rest
next_char now bs before after rest c u is begins step ends =
    sym is ∙ chars_past_char bs rest c (IsUtf8-from_is_utf8 bs u) (sym begins ∙ step ∙ ap (λ (x : List ℕ). encode_utf8 c ++ x) (sym ends))

pub none_left : (now bs before : List ℕ) → chars bs ≡ now → before ≡ bs → length before ≡ 0 → now ≡ []
none_left now bs before is begins none = sym is ∙ ap chars (sym begins ∙ nil_from_length before none) ∙ chars-nil

-- ---- a front of characters that pass a test which every character above U+007F passes

abbrev pub PassesHigh : (ℕ → Bool) → Type 0
PassesHigh p = (c : ℕ) → 128 ≤ c → p c ≡ true

high_all : (p : ℕ → Bool) → PassesHigh p → (xs : List ℕ) → ((k : ℕ) → k < length xs → get_or xs k 0 < 128 → ⊥) → list_all p xs ≡ true
high_all p high [] h = refl
high_all p high (x ∷ xs) h =
    let big : 128 ≤ x = elim (cases_lt x 128) [ inl low ↦ absurd (h 0 (omega arith) low) | inr ge ↦ ge ] in
    and_from _ _ (high x big) (high_all p high xs (λ k within. h (suc k) (omega arith)))

prefix_len-append_all : (p : ℕ → Bool) (xs ys : List ℕ) → list_all p xs ≡ true → prefix_len p (xs ++ ys) ≡ length xs + prefix_len p ys
prefix_len-append_all p [] ys h = omega arith
prefix_len-append_all p (x ∷ xs) ys h =
    let parts = and_parts (p x) (list_all p xs) h in
    rw (parts.0, prefix_len-append_all p xs ys parts.1) (omega arith)

front_step : (p : ℕ → Bool) (c n m : ℕ) (cs : List ℕ) (b : Bool) → c < 128 → p c ≡ b → m ≡ length (encode_utf8_all (take n cs))
    → cond b (1 + m) 0 ≡ length (encode_utf8_all (take (cond b (1 + n) 0) (c ∷ cs)))
front_step p c n m cs true low e h =
    let k : 1 + n ≡ suc n = omega arith in
    let one : length (encode_utf8 c) ≡ 1 = ap length (encode_ascii c low) in
    rw k (omega (arith, h, one, length-append (encode_utf8 c) (encode_utf8_all (take n cs))))
front_step p c n m cs false low e h = refl

pub front_bytes : (p : ℕ → Bool) → PassesHigh p → (cs : List ℕ) → prefix_len p (encode_utf8_all cs) ≡ length (encode_utf8_all (take (prefix_len p cs) cs))
front_bytes p high [] = refl
front_bytes p high (c ∷ cs) =
    elim (cases_lt c 128) [
      | inl low ↦
          ap (λ (t : List ℕ). prefix_len p (t ++ encode_utf8_all cs)) (encode_ascii c low)
          ∙ front_step p c (prefix_len p cs) (prefix_len p (encode_utf8_all cs)) cs (p c) low refl (front_bytes p high cs)
      | inr big ↦
          let all : list_all p (encode_utf8 c) ≡ true = high_all p high (encode_utf8 c) (λ k within. high_bytes c k big within) in
          let k : 1 + prefix_len p cs ≡ suc (prefix_len p cs) = omega arith in
          prefix_len-append_all p (encode_utf8 c) (encode_utf8_all cs) all
          ∙ rw (high c big, k) (ap (λ (n : ℕ). length (encode_utf8 c) + n) (front_bytes p high cs) ∙ sym (length-append (encode_utf8 c) (encode_utf8_all (take (prefix_len p cs) cs))))
    ]

scalars-drop : (n : ℕ) (cs : List ℕ) → all_scalars cs ≡ true → all_scalars (drop n cs) ≡ true
scalars-drop zero cs h = h
scalars-drop (suc n) [] h = h
scalars-drop (suc n) (c ∷ cs) h = scalars-drop n cs (and_parts _ (all_scalars cs) h).1

-- the bytes of the front of these characters, and of what follows it
pub record CutsFront (p : ℕ → Bool) (bs : List ℕ) : Type 0 where
  pub boundary : IsCharBoundary bs (prefix_len p bs)
  pub front : take (prefix_len p bs) bs ≡ encode_utf8_all (take (prefix_len p (chars bs)) (chars bs))
  pub rest : chars (drop (prefix_len p bs) bs) ≡ drop (prefix_len p (chars bs)) (chars bs)
  pub utf8 : is_utf8 (drop (prefix_len p bs) bs) ≡ true

pub cuts_front : (p : ℕ → Bool) → PassesHigh p → (bs : List ℕ) → is_utf8 bs ≡ true → CutsFront p bs
cuts_front p high bs u =
    let text = IsUtf8-from_is_utf8 bs u in
    let cs : List ℕ = chars bs in
    let n : ℕ = prefix_len p cs in
    let whole : encode_utf8_all cs ≡ bs = encodes-chars bs text in
    let len : prefix_len p bs ≡ length (encode_utf8_all (take n cs)) = ap (prefix_len p) (sym whole) ∙ front_bytes p high cs in
    let parts : bs ≡ encode_utf8_all (take n cs) ++ encode_utf8_all (drop n cs) =
    sym whole ∙ ap encode_utf8_all (sym (take-append-drop n cs)) ∙ encodes-append (take n cs) (drop n cs) in
    let fits : all_scalars (drop n cs) ≡ true = scalars-drop n cs (scalars-chars bs text) in
    let behind : drop (prefix_len p bs) bs ≡ encode_utf8_all (drop n cs) =
    ap (λ (k : ℕ). drop k bs) len ∙ ap (drop (length (encode_utf8_all (take n cs)))) parts ∙ drop_at (encode_utf8_all (take n cs)) (encode_utf8_all (drop n cs)) (length (encode_utf8_all (take n cs))) refl in
    record {
      boundary = subst (λ (k : ℕ). IsCharBoundary bs k) (sym len) (IsCharBoundary-at_seam bs (encode_utf8_all (take n cs)) (encode_utf8_all (drop n cs)) parts (drop n cs, (fits, refl)));
      front = ap (λ (k : ℕ). take k bs) len ∙ ap (take (length (encode_utf8_all (take n cs)))) parts ∙ take_at (encode_utf8_all (take n cs)) (encode_utf8_all (drop n cs)) (length (encode_utf8_all (take n cs))) refl;
      rest = ap chars behind ∙ chars-encodes (drop n cs) fits;
      utf8 = ap is_utf8 behind ∙ is_utf8-from_IsUtf8 (encode_utf8_all (drop n cs)) (drop n cs, (fits, refl));
    }

pub iri_passes_high : PassesHigh is_iri_char
iri_passes_high c h = grind (arith, nat_tests)

pub string_passes_high : PassesHigh is_string_char
string_passes_high c h = grind (arith, nat_tests)
