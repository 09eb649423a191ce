-- How a line is shown to be bad: a front that begins a line, the character at which no line goes on, and what is wrong there.
use Rattle.std.proofs.Common.{◌≡◌, ℕ, zero, suc, ◌+◌, ◌<◌, ◌≤◌, false, List, [], ◌∷◌, ◌++◌, length, take, Option, Some, None, refl, sym, ap, subst, ◌∙◌, append_assoc, arith, inl, inr}
use Rattle.std.specs.Prelude.{nat_le, ◌||◌}
use Rattle.std.proofs.lemmas.Bool.{cases_lt, lt-leb}
use Rattle.std.proofs.lemmas.Option.{none-some}
use Rattle.std.proofs.lemmas.List.{length-append, take_at}
use Rattle.lf_rdf.specs.declared.quad.Signed.{Signed}
use Rattle.def_patch_texts.specs.declared.kind.LineKind.{LineKind}
use Rattle.def_patch_texts.specs.declared.kind.LineKind.TheVariants.{Syntax, RelativeIri, BadEscape, NotUtf8, LineTooLong}
use Rattle.def_patch_texts.specs.Terminals.{Allowed, IsNumbered, IsUnicodeEscape}
use Rattle.def_patch_texts.specs.PatchText.{absolute_iris, lines_of, line_limit, IsEncoded}
use Rattle.def_patch_texts.specs.BadLine.{any_iris, Begins, IsLongestFront, IsFault, HasFault, IsKind, IsGood, IsFirstBad, IsBadLine}
use Rattle.def_patch_texts.specs.Reading.{line_at}
use Rattle.def_patch_texts.proofs.BadLines.{same_characters}
use Rattle.def_patch_texts.proofs.Lines.{line_again}
use Rattle.def_patch_texts.proofs.TakesLine.{line_takes}

-- ---- fronts that begin a line, and fronts that don't

pub begins_by : (allowed : ℕ → Allowed) (front more : List ℕ) (stated : Option Signed) → line_at (allowed (length more)) (front ++ more) ≡ Some stated → Begins allowed front
begins_by allowed front more stated e = (more, stated, line_takes (allowed (length more)) (front ++ more) stated e)

pub begins_not : (allowed : ℕ → Allowed) (front : List ℕ) → ((more : List ℕ) → line_at (allowed (length more)) (front ++ more) ≡ None) → Begins allowed front → ⊥
begins_not allowed front fails b =
    none-some b.1 (sym (fails b.0) ∙ line_again (allowed (length b.0)) (front ++ b.0) b.1 b.2)

-- ---- the longest front

past_front : (front : List ℕ) (c : ℕ) (tail : List ℕ) (n : ℕ) → length front < n → (rest : List ℕ) × (take n (front ++ c ∷ tail) ≡ front ++ c ∷ rest)
past_front [] c tail zero lt = absurd (omega arith)
past_front [] c tail (suc n) lt = (take n tail, refl)
past_front (f ∷ front) c tail zero lt = absurd (omega arith)
past_front (f ∷ front) c tail (suc n) lt =
    let r = past_front front c tail n (omega arith) in (r.0, ap (λ (t : List ℕ). f ∷ t) r.1)

-- no line begins with the front and this character
abbrev pub StopsAt : List ℕ → ℕ → Type 0
StopsAt front c = (more : List ℕ) → line_at any_iris (front ++ c ∷ more) ≡ None

none_further : (front : List ℕ) (c : ℕ) (rest : List ℕ) → StopsAt front c → Begins (λ more. any_iris) (front ++ c ∷ rest) → ⊥
none_further front c rest stops =
    begins_not (λ more. any_iris) (front ++ c ∷ rest)
    (λ more. ap (line_at any_iris) (append_assoc front (c ∷ rest) more) ∙ stops (rest ++ more))

longest_by : (front : List ℕ) (c : ℕ) (tail : List ℕ) → Begins (λ more. any_iris) front → StopsAt front c → IsLongestFront (front ++ c ∷ tail) (length front)
longest_by front c tail begins stops = record {
  within = let size = length-append front (c ∷ tail) in omega (arith, size);
  begins = subst (λ (t : List ℕ). Begins (λ more. any_iris) t) (sym (take_at front (c ∷ tail) (length front) refl)) begins;
  longest = λ longer le b.
      elim (cases_lt (length front) longer) [
        | inl lt ↦
            let r = past_front front c tail longer lt in
            absurd (none_further front c r.0 stops (subst (λ (t : List ℕ). Begins (λ more. any_iris) t) r.1 b))
        | inr ge ↦ ge
      ];
}

-- ---- bad lines

pub not_good : (bytes characters : List ℕ) → IsEncoded bytes characters → line_at absolute_iris characters ≡ None → IsGood bytes → ⊥
not_good bytes characters encoded refused g =
    let same : g.1.1 ≡ characters = same_characters bytes g.1.1 characters g.1.2 encoded in
    none-some g.0 (sym refused ∙ sym (ap (line_at absolute_iris) same) ∙ line_again absolute_iris g.1.1 g.0 g.1.3)

pub first_alone : (line : List ℕ) → lines_of line ≡ line ∷ [] → (IsGood line → ⊥) → IsFirstBad line 1 line
first_alone line alone bad = record { before = []; after = []; cut = alone; counted = refl; good_before = tt; is_bad = bad }

of_kind : (bytes : List ℕ) (kind : LineKind) → length bytes ≤ line_limit → HasFault bytes kind → IsKind bytes kind
of_kind bytes Syntax short fault = (short, fault)
of_kind bytes RelativeIri short fault = (short, fault)
of_kind bytes BadEscape short fault = (short, fault)
of_kind bytes NotUtf8 short fault = absurd fault.2.2
of_kind bytes LineTooLong short fault = absurd fault.2.2

-- A text of one line is bad where a front of it begins a line and no line goes on as it does; what is wrong is wrong in this front.
pub bad_behind : (front : List ℕ) (c : ℕ) (tail : List ℕ) (kind : LineKind) → length (front ++ c ∷ tail) ≤ line_limit → IsEncoded (front ++ c ∷ tail) (front ++ c ∷ tail)
    → lines_of (front ++ c ∷ tail) ≡ (front ++ c ∷ tail) ∷ [] → line_at absolute_iris (front ++ c ∷ tail) ≡ None
    → Begins (λ more. any_iris) front → StopsAt front c → IsFault front kind → IsBadLine (front ++ c ∷ tail) 1 kind
bad_behind front c tail kind short encoded alone refused begins stops fault =
    let line : List ℕ = front ++ c ∷ tail in
    let here : IsFault (take (length front) line) kind = subst (λ (t : List ℕ). IsFault t kind) (sym (take_at front (c ∷ tail) (length front) refl)) fault in
    (line, first_alone line alone (not_good line line encoded refused), of_kind line kind short (line, encoded, (length front, longest_by front c tail begins stops, here)))

-- ---- escapes that a front doesn't end

-- an escape of which less than four digits are shown takes one that follows
pub straddles : (letter : ℕ) (shown more : List ℕ) → length shown < 4 → (c : ℕ) (rest : List ℕ) → IsUnicodeEscape (92 ∷ letter ∷ shown ++ more) c rest
    → (nat_le (length (92 ∷ letter ∷ shown ++ more)) (length more) || nat_le (length more) (length rest)) ≡ false
straddles letter shown more few c rest h = elim h [ inl four ↦ numbered 117 4 (omega arith) four | inr eight ↦ numbered 85 8 (omega arith) eight ]
  where
    numbered : (named count : ℕ) → 3 < count → IsNumbered (92 ∷ letter ∷ shown ++ more) named count c rest
        → (nat_le (length (92 ∷ letter ∷ shown ++ more)) (length more) || nat_le (length more) (length rest)) ≡ false
    numbered named count many u =
        let size : length (92 ∷ letter ∷ shown ++ more) ≡ length (92 ∷ named ∷ u.digits ++ rest) = ap length u.spelled in
        let behind : length (shown ++ more) ≡ length shown + length more = length-append shown more in
        let digits : length (u.digits ++ rest) ≡ length u.digits + length rest = length-append u.digits rest in
        let count_is : length u.digits ≡ count = u.many in
        let less : length rest < length more = omega (arith, size, behind, digits, count_is) in
        rw (lt-leb (length (92 ∷ letter ∷ shown ++ more)) (length more) (omega (arith, behind)), lt-leb (length more) (length rest) less) refl
