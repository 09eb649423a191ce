-- The parts of an IRI or a string, read one by one or as one piece.
use Rattle.std.proofs.Common.{◌≡◌, ℕ, zero, suc, ◌+◌, ◌<◌, Bool, true, false, cond, List, [], ◌∷◌, ◌++◌, length, take, drop, Option, Some, None, Result, Ok, Err, refl, sym, ap, subst, ◌∙◌, append_assoc, arith, inl, inr}
use Rattle.std.specs.Prelude.{nat_eq, encode_utf8, encode_utf8_all}
use Rattle.std.specs.List.{prefix_len}
use Rattle.std.proofs.lemmas.Bool.{ne_eqb, false≢true}
use Rattle.std.proofs.lemmas.Option.{cond_some}
use Rattle.std.proofs.lemmas.List.{length-append, append-nil}
use Rattle.def_patch_texts.specs.declared.kind.LineKind.{LineKind}
use Rattle.def_patch_texts.specs.Characters.{is_iri_char, is_string_char, short_escape}
use Rattle.def_patch_texts.specs.Terminals.{Allowed, IsNumbered, IsUnicodeEscape, IsIriPart}
use Rattle.def_patch_texts.specs.Reading.{starts, unicode_at, iri_part_at, escape_at, string_escape_at, string_part_at}
use Rattle.def_patch_texts.proofs.Takes.{bind_some, chosen, iri_part_takes, unicode_takes}
use Rattle.lf_nquads.specs.Outcomes.{◌>>=◌, part_of, with_char, parts_of, all_parts_of, iri_part_of, string_part_of}
use Rattle.lf_nquads.specs.Gives.{encoded, with_front}

abbrev pub Part : Type 0
Part = List ℕ → Result (ℕ × List ℕ) LineKind

-- each part takes at least a character
abbrev pub Shrinks : Part → Type 0
Shrinks part = (text : List ℕ) (x : ℕ × List ℕ) → part text ≡ Ok x → length x.1 < length text

parts_room : (close : ℕ) (part : Part) → Shrinks part → (r s : ℕ) (text : List ℕ) → length text < r → length text < s → parts_of close part r text ≡ parts_of close part s text
unfolding parts_of
parts_room close part shrinks zero s text hr hs = absurd (omega arith)
parts_room close part shrinks (suc r) zero text hr hs = absurd (omega arith)
parts_room close part shrinks (suc r) (suc s) text hr hs =
    ap (λ (o : Result (List ℕ × List ℕ) LineKind). cond (starts close text) (Ok ([], text)) o)
    (go (part text) refl (λ next lt. parts_room close part shrinks r s next (omega arith) (omega arith)))
  where
    go : (o : Result (ℕ × List ℕ) LineKind) → part text ≡ o → ((next : List ℕ) → length next < length text → parts_of close part r next ≡ parts_of close part s next)
        → (o >>= λ first. with_char first.0 (parts_of close part r first.1)) ≡ (o >>= λ first. with_char first.0 (parts_of close part s first.1))
    go (Ok x) e same = ap (with_char x.0) (same x.1 (shrinks text x e))
    go (Err kind) e same = refl

pub parts_done : (close : ℕ) (part : Part) (text : List ℕ) → starts close text ≡ true → all_parts_of close part text ≡ Ok ([], text)
unfolding parts_of
parts_done close part text h = rw h refl

pub parts_stop : (close : ℕ) (part : Part) (text : List ℕ) (kind : LineKind) → starts close text ≡ false → part text ≡ Err kind → all_parts_of close part text ≡ Err kind
unfolding parts_of
parts_stop close part text kind h e = rw (h, e) refl

-- one more part
pub parts_step : (close : ℕ) (part : Part) → Shrinks part → (text : List ℕ) (c : ℕ) (next : List ℕ) → starts close text ≡ false → part text ≡ Ok (c, next)
    → all_parts_of close part text ≡ with_char c (all_parts_of close part next)
unfolding parts_of
parts_step close part shrinks text c next h e =
    rw (h, e)
    (ap (with_char c)
    (parts_room close part shrinks (length text) (suc (length next)) next (shrinks text (c, next) e) (omega arith)))

encoded-cons : (c : ℕ) (r : Result (List ℕ × List ℕ) LineKind) → encoded (with_char c r) ≡ with_front (encode_utf8 c) (encoded r)
encoded-cons c (Ok x) = refl
encoded-cons c (Err kind) = refl

pub encoded_step : (close : ℕ) (part : Part) → Shrinks part → (text : List ℕ) (c : ℕ) (next : List ℕ) → starts close text ≡ false → part text ≡ Ok (c, next)
    → encoded (all_parts_of close part text) ≡ with_front (encode_utf8 c) (encoded (all_parts_of close part next))
encoded_step close part shrinks text c next h e =
    ap encoded (parts_step close part shrinks text c next h e) ∙ encoded-cons c (all_parts_of close part next)

pub with_front-append : (a b : List ℕ) (r : Result (List ℕ × List ℕ) LineKind) → with_front a (with_front b r) ≡ with_front (a ++ b) r
with_front-append a b (Ok x) = ap (λ (t : List ℕ). Ok (t, x.1)) (sym (append_assoc a b x.0))
with_front-append a b (Err kind) = refl

-- ---- a loop over the parts: what the whole gives is what was read, before what the rest gives

abbrev pub SoFar : ℕ → Part → List ℕ → List ℕ → List ℕ → Type 0
SoFar close part before read text = encoded (all_parts_of close part before) ≡ with_front read (encoded (all_parts_of close part text))

front-nil : (r : Result (List ℕ × List ℕ) LineKind) → r ≡ with_front [] r
front-nil (Ok x) = refl
front-nil (Err kind) = refl

pub begins_so_far : (close : ℕ) (part : Part) (text : List ℕ) → SoFar close part text [] text
begins_so_far close part text = front-nil (encoded (all_parts_of close part text))

pub more_so_far : (close : ℕ) (part : Part) → Shrinks part → (before read text : List ℕ) (c : ℕ) (next : List ℕ) → SoFar close part before read text
    → starts close text ≡ false → part text ≡ Ok (c, next) → SoFar close part before (read ++ encode_utf8 c) next
more_so_far close part shrinks before read text c next h other e =
    h ∙ ap (with_front read) (encoded_step close part shrinks text c next other e)
    ∙ with_front-append read (encode_utf8 c) (encoded (all_parts_of close part next))

pub ends_so_far : (close : ℕ) (part : Part) (before read text : List ℕ) → SoFar close part before read text → starts close text ≡ true
    → encoded (all_parts_of close part before) ≡ Ok (read, text)
ends_so_far close part before read text h closed =
    h ∙ ap (λ (r : Result (List ℕ × List ℕ) LineKind). with_front read (encoded r)) (parts_done close part text closed)
    ∙ ap (λ (t : List ℕ). Ok (t, text)) (append-nil read)

pub stops_so_far : (close : ℕ) (part : Part) (before read text : List ℕ) (kind : LineKind) → SoFar close part before read text → starts close text ≡ false → part text ≡ Err kind
    → encoded (all_parts_of close part before) ≡ Err kind
stops_so_far close part before read text kind h other e =
    h ∙ ap (λ (r : Result (List ℕ × List ℕ) LineKind). with_front read (encoded r)) (parts_stop close part text kind other e)

-- ---- parts that stand raw

-- characters that pass a test are parts
pub record IsRaw (close : ℕ) (part : Part) (p : ℕ → Bool) : Type 0 where
  pub other : (c : ℕ) → p c ≡ true → nat_eq c close ≡ false
  pub raw : (c : ℕ) (text : List ℕ) → p c ≡ true → part (c ∷ text) ≡ Ok (c, text)

raw_step : (p : ℕ → Bool) (c : ℕ) (text : List ℕ) → p c ≡ true
    → ◌≡◌ {A = Result (List ℕ × List ℕ) LineKind} (with_front (encode_utf8 c) (Ok (encode_utf8_all (take (prefix_len p text) text), drop (prefix_len p text) text)))
    (Ok (encode_utf8_all (take (prefix_len p (c ∷ text)) (c ∷ text)), drop (prefix_len p (c ∷ text)) (c ∷ text)))
raw_step p c text h = let n : 1 + prefix_len p text ≡ suc (prefix_len p text) = omega arith in rw (h, n) refl

pub raw_front : (close : ℕ) (part : Part) (p : ℕ → Bool) → Shrinks part → IsRaw close part p → (text : List ℕ) → starts close (drop (prefix_len p text) text) ≡ true
    → encoded (all_parts_of close part text) ≡ Ok (encode_utf8_all (take (prefix_len p text) text), drop (prefix_len p text) text)
raw_front close part p shrinks raw [] h = absurd (false≢true h)
raw_front close part p shrinks raw (c ∷ text) h = go (p c) refl (raw_front close part p shrinks raw text)
  where
    go : (b : Bool) → p c ≡ b → (starts close (drop (prefix_len p text) text) ≡ true → encoded (all_parts_of close part text) ≡ Ok (encode_utf8_all (take (prefix_len p text) text), drop (prefix_len p text) text))
        → encoded (all_parts_of close part (c ∷ text)) ≡ Ok (encode_utf8_all (take (prefix_len p (c ∷ text)) (c ∷ text)), drop (prefix_len p (c ∷ text)) (c ∷ text))
    go true e rest =
        let n : 1 + prefix_len p text ≡ suc (prefix_len p text) = omega arith in
        let here : starts close (drop (prefix_len p text) text) ≡ true = (let k : prefix_len p (c ∷ text) ≡ suc (prefix_len p text) = rw e n in sym (ap (λ (m : ℕ). starts close (drop m (c ∷ text))) k) ∙ h) in
        encoded_step close part shrinks (c ∷ text) c text (raw.other c e) (raw.raw c text e)
        ∙ ap (with_front (encode_utf8 c)) (rest here)
        ∙ raw_step p c text e
    go false e rest =
        let k : prefix_len p (c ∷ text) ≡ 0 = rw e refl in
        let closed : starts close (c ∷ text) ≡ true = sym (ap (λ (m : ℕ). starts close (drop m (c ∷ text))) k) ∙ h in
        ap encoded (parts_done close part (c ∷ text) closed)
        ∙ sym (ap (λ (m : ℕ). Ok (encode_utf8_all (take m (c ∷ text)), drop m (c ∷ text))) k)

-- ---- parts of IRIs and of strings

numbered_shorter : (text : List ℕ) (letter count c : ℕ) (rest : List ℕ) → IsNumbered text letter count c rest → length rest < length text
numbered_shorter text letter count c rest u = rw u.spelled (omega (arith, length-append u.digits rest))

unicode_shorter : (text : List ℕ) (c : ℕ) (rest : List ℕ) → IsUnicodeEscape text c rest → length rest < length text
unicode_shorter text c rest h = elim h [ inl u ↦ numbered_shorter text 117 4 c rest u | inr u ↦ numbered_shorter text 85 8 c rest u ]

iri_shorter : (allowed : Allowed) (text : List ℕ) (c : ℕ) (rest : List ℕ) → IsIriPart allowed text c rest → length rest < length text
iri_shorter allowed text c rest h = elim h.1 [ inl raw ↦ rw raw (omega arith) | inr named ↦ unicode_shorter text c rest named.0 ]

escape_shorter : (allowed : Allowed) (text : List ℕ) (letter : ℕ) (rest : List ℕ) (short : Option ℕ) (x : ℕ × List ℕ) → escape_at allowed text (letter ∷ rest) rest short ≡ Some x → length x.1 < suc (suc (length rest))
escape_shorter allowed text letter rest (Some named) x e =
    let g = cond_some (allowed.escape text rest) (named, rest) x e in
    subst (λ (y : ℕ × List ℕ). length y.1 < suc (suc (length rest))) g.1 (omega arith)
escape_shorter allowed text letter rest None x e =
    let named = bind_some (unicode_at (letter ∷ rest)) (λ named. cond (allowed.escape text named.1) (Some named) None) x e in
    let g = cond_some (allowed.escape text named.0.1) named.0 x named.2 in
    let shorter : length named.0.1 < suc (suc (length rest)) = unicode_shorter (92 ∷ letter ∷ rest) named.0.0 named.0.1 (unicode_takes (letter ∷ rest) named.0 named.1) in
    subst (λ (y : ℕ × List ℕ). length y.1 < suc (suc (length rest))) g.1 shorter

string_escape_shorter : (allowed : Allowed) (text behind : List ℕ) (x : ℕ × List ℕ) → string_escape_at allowed text behind ≡ Some x → length x.1 < suc (length behind)
unfolding string_escape_at
string_escape_shorter allowed text [] x e = absurd cc
string_escape_shorter allowed text (letter ∷ rest) x e = escape_shorter allowed text letter rest (short_escape letter) x e

string_shorter : (allowed : Allowed) (text : List ℕ) (x : ℕ × List ℕ) → string_part_at allowed text ≡ Some x → length x.1 < length text
unfolding string_part_at
string_shorter allowed [] x e = absurd cc
string_shorter allowed (c ∷ text) x e =
    elim (chosen (nat_eq c 92) (string_escape_at allowed (c ∷ text) text) (cond (is_string_char c) (Some (c, text)) None) x e) [
      | inl escape ↦ string_escape_shorter allowed (c ∷ text) text x escape.1
      | inr raw ↦
          let g = cond_some (is_string_char c) (c, text) x raw.1 in
          subst (λ (y : ℕ × List ℕ). length y.1 < suc (length text)) g.1 (omega arith)
    ]

part_is : {A : Type 0} (text : List ℕ) (o : Option A) (x : A) → part_of text o ≡ Ok x → o ≡ Some x
part_is text (Some y) x e = let same : y ≡ x = cc in ap (λ z. Some z) same
part_is text None x e = absurd cc

pub iri_shrinks : (allowed : Allowed) → Shrinks (iri_part_of allowed)
iri_shrinks allowed text x e = iri_shorter allowed text x.0 x.1 (iri_part_takes allowed text x (part_is text (iri_part_at allowed text) x e))

pub string_shrinks : (allowed : Allowed) → Shrinks (string_part_of allowed)
string_shrinks allowed text x e = string_shorter allowed text x (part_is text (string_part_at allowed text) x e)

not_of : (p : ℕ → Bool) (c d : ℕ) → p d ≡ false → p c ≡ true → nat_eq c d ≡ false
not_of p c d stops passes = ne_eqb c d (λ e. false≢true (sym stops ∙ subst (λ (x : ℕ). p x ≡ true) e passes))

pub raw_iri_part : (allowed : Allowed) (c : ℕ) (text : List ℕ) → is_iri_char c ≡ true → iri_part_of allowed (c ∷ text) ≡ Ok (c, text)
unfolding iri_part_at
raw_iri_part allowed c text h = rw (h, not_of is_iri_char c 92 refl h) refl

pub iri_raw : (allowed : Allowed) → IsRaw 62 (iri_part_of allowed) is_iri_char
iri_raw allowed = record { other = λ c h. not_of is_iri_char c 62 refl h; raw = λ c text h. raw_iri_part allowed c text h }

pub raw_string_part : (allowed : Allowed) (c : ℕ) (text : List ℕ) → is_string_char c ≡ true → string_part_of allowed (c ∷ text) ≡ Ok (c, text)
unfolding string_part_at
raw_string_part allowed c text h = rw (h, not_of is_string_char c 92 refl h) refl

pub string_raw : (allowed : Allowed) → IsRaw 34 (string_part_of allowed) is_string_char
string_raw allowed = record { other = λ c h. not_of is_string_char c 34 refl h; raw = λ c text h. raw_string_part allowed c text h }
