-- Characters as UTF-8, and the canonical texts of terms as characters.
use Rattle.std.proofs.Common.{◌≡◌, ℕ, suc, ◌<◌, ◌≤◌, Bool, true, false, cond, List, [], ◌∷◌, ◌++◌, length, get_or, refl, sym, ap, subst, ◌∙◌, append_assoc, arith, inl, inr}
use Rattle.std.specs.Prelude.{nat_eq, not, encode_utf8_all, encode_utf8}
use Rattle.std.specs.Str.{all_scalars}
use Rattle.std.specs.List.{list_all}
use Rattle.std.proofs.lemmas.Bool.{and_parts, and_from, cases_lt, ne_eqb, not-true, false≢true, or_parts}
use Rattle.std.proofs.lemmas.List.{append-nil}
use Rattle.std.proofs.lemmas.List.Folds.{list_all-append}
use Rattle.std.proofs.lemmas.Str.{encode_ascii, encodes-append, inside_one}
use Rattle.lf_rdf.specs.Canonical.{escaped, escaped_byte}
use Rattle.def_patch_texts.specs.PatchText.{is_line_end, lines_from, IsEncoded}

-- no line end
abbrev pub is_plain : ℕ → Bool
is_plain c = not (is_line_end c)

-- a test that neither line end passes
pub plain_by : (p : ℕ → Bool) (c : ℕ) → p 13 ≡ false → p 10 ≡ false → p c ≡ true → is_plain c ≡ true
plain_by p c no_cr no_lf h =
    let cr : nat_eq c 13 ≡ false = ne_eqb c 13 (λ e. false≢true (sym no_cr ∙ subst (λ (x : ℕ). p x ≡ true) e h)) in
    let lf : nat_eq c 10 ≡ false = ne_eqb c 10 (λ e. false≢true (sym no_lf ∙ subst (λ (x : ℕ). p x ≡ true) e h)) in
    rw (cr, lf) refl

pub all_plain_by : (p : ℕ → Bool) (cs : List ℕ) → p 13 ≡ false → p 10 ≡ false → list_all p cs ≡ true → list_all is_plain cs ≡ true
all_plain_by p [] no_cr no_lf h = refl
all_plain_by p (c ∷ cs) no_cr no_lf h =
    let parts = and_parts (p c) (list_all p cs) h in
    and_from _ _ (plain_by p c no_cr no_lf parts.0) (all_plain_by p cs no_cr no_lf parts.1)

-- ---- UTF-8 of plain characters

-- the bytes of a character above U+007F are above 127
pub high_bytes : (c k : ℕ) → 128 ≤ c → k < length (encode_utf8 c) → get_or (encode_utf8 c) k 0 < 128 → ⊥
high_bytes c k high within low =
    let same : c ≡ get_or (encode_utf8 c) k 0 = inside_one c [] (encode_utf8 c) k (sym (append-nil (encode_utf8 c))) within low in
    omega arith

high_plain : (xs : List ℕ) → ((k : ℕ) → k < length xs → get_or xs k 0 < 128 → ⊥) → list_all is_plain xs ≡ true
high_plain [] h = refl
high_plain (x ∷ xs) h =
    let cr : nat_eq x 13 ≡ false = ne_eqb x 13 (λ e. h 0 (omega arith) (omega arith)) in
    let lf : nat_eq x 10 ≡ false = ne_eqb x 10 (λ e. h 0 (omega arith) (omega arith)) in
    let head : is_plain x ≡ true = rw (cr, lf) refl in
    and_from _ _ head (high_plain xs (λ k within. h (suc k) (omega arith)))

char_plain : (c : ℕ) → is_plain c ≡ true → list_all is_plain (encode_utf8 c) ≡ true
char_plain c h =
    elim (cases_lt c 128) [
      | inl low ↦ rw (encode_ascii c low) (and_from _ _ h refl)
      | inr high ↦ high_plain (encode_utf8 c) (λ k within. high_bytes c k high within)
    ]

pub bytes_plain : (cs : List ℕ) → list_all is_plain cs ≡ true → list_all is_plain (encode_utf8_all cs) ≡ true
bytes_plain [] h = refl
bytes_plain (c ∷ cs) h =
    let parts = and_parts (is_plain c) (list_all is_plain cs) h in
    list_all-append is_plain (encode_utf8 c) (encode_utf8_all cs) ∙ and_from _ _ (char_plain c parts.0) (bytes_plain cs parts.1)

pub ascii_cons : (c : ℕ) (cs : List ℕ) → c < 128 → encode_utf8_all (c ∷ cs) ≡ c ∷ encode_utf8_all cs
ascii_cons c cs low = ap (λ (t : List ℕ). t ++ encode_utf8_all cs) (encode_ascii c low)

pub scalars-append : (xs ys : List ℕ) → all_scalars xs ≡ true → all_scalars ys ≡ true → all_scalars (xs ++ ys) ≡ true
scalars-append [] ys hx hy = hy
scalars-append (x ∷ xs) ys hx hy =
    let parts = and_parts _ _ hx in and_from _ _ parts.0 (scalars-append xs ys parts.1 hy)

-- ---- what is written: characters with no line end, and their bytes

pub record Written (bytes characters : List ℕ) : Type 0 where
  pub encoded : IsEncoded bytes characters
  pub plain : list_all is_plain characters ≡ true

pub written-nil : Written [] []
written-nil = record { encoded = record { scalars = refl; encoded = refl }; plain = refl }

pub written-append : (a x b y : List ℕ) → Written a x → Written b y → Written (a ++ b) (x ++ y)
written-append a x b y p q = record {
  encoded = record {
    scalars = scalars-append x y p.encoded.scalars q.encoded.scalars;
    encoded = encodes-append x y ∙ ap (λ (t : List ℕ). t ++ encode_utf8_all y) p.encoded.encoded ∙ ap (λ (t : List ℕ). a ++ t) q.encoded.encoded;
  };
  plain = list_all-append is_plain x y ∙ and_from _ _ p.plain q.plain;
}

-- an ASCII character that is no line end, before what is written
pub written-cons : (c : ℕ) (a x : List ℕ) → c < 128 → all_scalars (c ∷ []) ≡ true → is_plain c ≡ true → Written a x → Written (c ∷ a) (c ∷ x)
written-cons c a x low scalar plain p = record {
  encoded = record {
    scalars = scalars-append (c ∷ []) x scalar p.encoded.scalars;
    encoded = ascii_cons c x low ∙ ap (λ (t : List ℕ). c ∷ t) p.encoded.encoded;
  };
  plain = and_from _ _ plain p.plain;
}

-- ---- the lines of a text with no line end

plain_line : (text : List ℕ) → list_all is_plain text ≡ true → lines_from false text ≡ text ∷ []
plain_line [] h = refl
plain_line (byte ∷ text) h =
    let parts = and_parts (is_plain byte) (list_all is_plain text) h in
    let no_end : is_line_end byte ≡ false = not-true (is_line_end byte) parts.0 in
    let no_cr : nat_eq byte 13 ≡ false = (or_parts (nat_eq byte 13) (nat_eq byte 10) no_end).0 in
    rw (no_cr, plain_line text parts.1, (or_parts (nat_eq byte 13) (nat_eq byte 10) no_end).1) refl

pub one_line_of : (bytes characters : List ℕ) → Written bytes characters → lines_from false bytes ≡ bytes ∷ []
one_line_of bytes characters w =
    plain_line bytes (subst (λ (t : List ℕ). list_all is_plain t ≡ true) w.encoded.encoded (bytes_plain characters w.plain))

-- ---- escaped strings

escaped-append : (xs ys : List ℕ) → escaped (xs ++ ys) ≡ escaped xs ++ escaped ys
escaped-append [] ys = refl
escaped-append (x ∷ xs) ys =
    ap (λ (t : List ℕ). escaped_byte x ++ t) (escaped-append xs ys) ∙ sym (append_assoc (escaped_byte x) (escaped xs) (escaped ys))

escaped_high : (xs : List ℕ) → ((k : ℕ) → k < length xs → get_or xs k 0 < 128 → ⊥) → escaped xs ≡ xs
escaped_high [] h = refl
escaped_high (x ∷ xs) h =
    let q : nat_eq x 34 ≡ false = ne_eqb x 34 (λ e. h 0 (omega arith) (omega arith)) in
    let b : nat_eq x 92 ≡ false = ne_eqb x 92 (λ e. h 0 (omega arith) (omega arith)) in
    let l : nat_eq x 10 ≡ false = ne_eqb x 10 (λ e. h 0 (omega arith) (omega arith)) in
    let r : nat_eq x 13 ≡ false = ne_eqb x 13 (λ e. h 0 (omega arith) (omega arith)) in
    let tail = escaped_high xs (λ k within. h (suc k) (omega arith)) in
    rw (q, b, l, r, tail) refl

-- what `escaped_byte` gives, by the four tests
abbrev pub by_tests : ℕ → Bool → Bool → Bool → Bool → List ℕ
by_tests c q b l r =
    cond q (92 ∷ 34 ∷ []) (cond b (92 ∷ 92 ∷ []) (cond l (92 ∷ 110 ∷ []) (cond r (92 ∷ 114 ∷ []) (c ∷ []))))

tests_encoded : (c : ℕ) (q b l r : Bool) → c < 128 → encode_utf8_all (by_tests c q b l r) ≡ by_tests c q b l r
tests_encoded c true b l r low = ascii_cons 92 (34 ∷ []) (omega arith) ∙ ap (λ (t : List ℕ). 92 ∷ t) (ascii_cons 34 [] (omega arith))
tests_encoded c false true l r low = ascii_cons 92 (92 ∷ []) (omega arith) ∙ ap (λ (t : List ℕ). 92 ∷ t) (ascii_cons 92 [] (omega arith))
tests_encoded c false false true r low = ascii_cons 92 (110 ∷ []) (omega arith) ∙ ap (λ (t : List ℕ). 92 ∷ t) (ascii_cons 110 [] (omega arith))
tests_encoded c false false false true low = ascii_cons 92 (114 ∷ []) (omega arith) ∙ ap (λ (t : List ℕ). 92 ∷ t) (ascii_cons 114 [] (omega arith))
tests_encoded c false false false false low = ascii_cons c [] low

escaped_ascii : (c : ℕ) → c < 128 → encode_utf8_all (escaped_byte c) ≡ escaped_byte c
escaped_ascii c low = tests_encoded c (nat_eq c 34) (nat_eq c 92) (nat_eq c 10) (nat_eq c 13) low

escaped_high_char : (c : ℕ) → 128 ≤ c → escaped_byte c ≡ c ∷ []
escaped_high_char c high =
    let q : nat_eq c 34 ≡ false = ne_eqb c 34 (λ e. omega arith) in
    let b : nat_eq c 92 ≡ false = ne_eqb c 92 (λ e. omega arith) in
    let l : nat_eq c 10 ≡ false = ne_eqb c 10 (λ e. omega arith) in
    let r : nat_eq c 13 ≡ false = ne_eqb c 13 (λ e. omega arith) in
    rw (q, b, l, r) refl

escaped_char : (c : ℕ) → encode_utf8_all (escaped_byte c) ≡ escaped (encode_utf8 c)
escaped_char c =
    elim (cases_lt c 128) [
      | inl low ↦ escaped_ascii c low ∙ sym (ap escaped (encode_ascii c low) ∙ append-nil (escaped_byte c))
      | inr high ↦
          ap encode_utf8_all (escaped_high_char c high) ∙ append-nil (encode_utf8 c)
          ∙ sym (escaped_high (encode_utf8 c) (λ k within. high_bytes c k high within))
    ]

-- characters escaped and then encoded are bytes encoded and then escaped
pub encodes-escaped : (cs : List ℕ) → encode_utf8_all (escaped cs) ≡ escaped (encode_utf8_all cs)
encodes-escaped [] = refl
encodes-escaped (c ∷ cs) =
    encodes-append (escaped_byte c) (escaped cs)
    ∙ ap (λ (t : List ℕ). t ++ encode_utf8_all (escaped cs)) (escaped_char c)
    ∙ ap (λ (t : List ℕ). escaped (encode_utf8 c) ++ t) (encodes-escaped cs)
    ∙ sym (escaped-append (encode_utf8 c) (encode_utf8_all cs))

tests_plain : (c : ℕ) (q b l r : Bool) → nat_eq c 10 ≡ l → nat_eq c 13 ≡ r → list_all is_plain (by_tests c q b l r) ≡ true
tests_plain c true b l r hl hr = refl
tests_plain c false true l r hl hr = refl
tests_plain c false false true r hl hr = refl
tests_plain c false false false true hl hr = refl
tests_plain c false false false false hl hr = rw (hr, hl) refl

tests_scalar : (c : ℕ) (q b l r : Bool) → all_scalars (c ∷ []) ≡ true → all_scalars (by_tests c q b l r) ≡ true
tests_scalar c true b l r h = refl
tests_scalar c false true l r h = refl
tests_scalar c false false true r h = refl
tests_scalar c false false false true h = refl
tests_scalar c false false false false h = h

escaped_plain : (cs : List ℕ) → list_all is_plain (escaped cs) ≡ true
escaped_plain [] = refl
escaped_plain (c ∷ cs) =
    list_all-append is_plain (escaped_byte c) (escaped cs)
    ∙ and_from _ _ (tests_plain c (nat_eq c 34) (nat_eq c 92) (nat_eq c 10) (nat_eq c 13) refl refl) (escaped_plain cs)

escaped_scalars : (cs : List ℕ) → all_scalars cs ≡ true → all_scalars (escaped cs) ≡ true
escaped_scalars [] h = refl
escaped_scalars (c ∷ cs) h =
    let parts = and_parts _ _ h in
    scalars-append (escaped_byte c) (escaped cs)
    (tests_scalar c (nat_eq c 34) (nat_eq c 92) (nat_eq c 10) (nat_eq c 13) (and_from _ _ parts.0 refl)) (escaped_scalars cs parts.1)

pub written-escaped : (value cs : List ℕ) → IsEncoded value cs → Written (escaped value) (escaped cs)
written-escaped value cs h = record {
  encoded = record { scalars = escaped_scalars cs h.scalars; encoded = encodes-escaped cs ∙ ap escaped h.encoded };
  plain = escaped_plain cs;
}
