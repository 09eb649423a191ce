-- A first bad line isn't without a kind: the longest front that begins a line can't be lacking, since the empty one begins one.
use Rattle.std.proofs.Common.{◌≡◌, ℕ, zero, suc, ◌<◌, ◌≤◌, Bool, true, false, List, [], length, take, None, refl, sym, subst, ◌∙◌, arith, inl, inr}
use Rattle.std.specs.Prelude.{◌⊎◌}
use Rattle.std.specs.Str.{is_utf8}
use Rattle.std.proofs.lemmas.Bool.{cases_lt, false≢true}
use Rattle.std.proofs.lemmas.Str.{IsUtf8-from_is_utf8, is_utf8-from_IsUtf8}
use Rattle.def_patch_texts.specs.declared.kind.LineKind.{LineKind}
use Rattle.def_patch_texts.specs.declared.kind.LineKind.TheVariants.{Syntax, RelativeIri, BadEscape, NotUtf8, LineTooLong}
use Rattle.def_patch_texts.specs.PatchText.{line_limit, IsEncoded}
use Rattle.def_patch_texts.specs.BadLine.{any_iris, Begins, IsLongestFront, HasRelativeIri, EndsInEscape, IsKind, IsFirstBad, IsBadLine}

-- a fact that can't be lacking
abbrev NotLacking : Type 0 → Type 0
NotLacking P = (P → ⊥) → ⊥

either_way : (P : Type 0) → NotLacking (P ⊎ (P → ⊥))
either_way P k = k (inr (λ p. k (inl p)))

abbrev BeginsLine : List ℕ → ℕ → Type 0
BeginsLine cs n = Begins (λ more. any_iris) (take n cs)

abbrev NoneAbove : List ℕ → ℕ → Type 0
NoneAbove cs n = (m : ℕ) → n < m → m ≤ length cs → BeginsLine cs m → ⊥

-- the empty line is skipped
empty_begins : (cs : List ℕ) → BeginsLine cs 0
empty_begins cs = ([], None, inl ([], refl, refl))

is_longest : (cs : List ℕ) (n : ℕ) → n ≤ length cs → BeginsLine cs n → NoneAbove cs n → IsLongestFront cs n
is_longest cs n within begins above = record {
  within = within;
  begins = begins;
  longest = λ longer le b. elim (cases_lt n longer) [ inl lt ↦ absurd (above longer lt le b) | inr ge ↦ ge ];
}

none_above_less : (cs : List ℕ) (n : ℕ) → NoneAbove cs (suc n) → (BeginsLine cs (suc n) → ⊥) → NoneAbove cs n
none_above_less cs n above not_here m lt le b =
    elim (cases_lt (suc n) m) [
      | inl more ↦ above m more le b
      | inr ge ↦ let same : m ≡ suc n = omega arith in not_here (subst (λ (k : ℕ). BeginsLine cs k) same b)
    ]

has_longest : (cs : List ℕ) (n : ℕ) → n ≤ length cs → NoneAbove cs n → NotLacking ((len : ℕ) × IsLongestFront cs len)
has_longest cs zero le above k = k (0, is_longest cs 0 le (empty_begins cs) above)
has_longest cs (suc n) le above k =
    either_way (BeginsLine cs (suc n)) (λ d.
    elim d [
      | inl here ↦ k (suc n, is_longest cs (suc n) le here above)
      | inr not_here ↦ has_longest cs n (omega arith) (none_above_less cs n above not_here) k
    ])

nothing_above : (cs : List ℕ) → NoneAbove cs (length cs)
nothing_above cs m lt le b = absurd (omega arith)

fault_kind : (bytes cs : List ℕ) (len : ℕ) → length bytes ≤ line_limit → IsEncoded bytes cs → IsLongestFront cs len → NotLacking ((kind : LineKind) × IsKind bytes kind)
fault_kind bytes cs len short encoded long k =
    either_way (HasRelativeIri (take len cs)) (λ d.
    elim d [
      | inl relative ↦ k (RelativeIri, (short, (cs, encoded, (len, long, relative))))
      | inr absolute ↦
          either_way (EndsInEscape (take len cs)) (λ e.
          elim e [
            | inl inside ↦ k (BadEscape, (short, (cs, encoded, (len, long, (absolute, inside)))))
            | inr outside ↦ k (Syntax, (short, (cs, encoded, (len, long, (absolute, outside)))))
          ])
    ])

utf8_kind : (bytes : List ℕ) → length bytes ≤ line_limit → (b : Bool) → is_utf8 bytes ≡ b → NotLacking ((kind : LineKind) × IsKind bytes kind)
utf8_kind bytes short true e k =
    let u = IsUtf8-from_is_utf8 bytes e in
    let encoded : IsEncoded bytes u.0 = record { scalars = u.1.0; encoded = u.1.1 } in
    has_longest u.0 (length u.0) (omega arith) (nothing_above u.0) (λ found. fault_kind bytes u.0 found.0 short encoded found.1 k)
utf8_kind bytes short false e k = k (NotUtf8, (short, (λ u. false≢true (sym e ∙ is_utf8-from_IsUtf8 bytes u))))

has_kind : (bytes : List ℕ) → NotLacking ((kind : LineKind) × IsKind bytes kind)
has_kind bytes k =
    elim (cases_lt line_limit (length bytes)) [ inl long ↦ k (LineTooLong, long) | inr short ↦ utf8_kind bytes short (is_utf8 bytes) refl k ]

pub each_kind : (text : List ℕ) (n : ℕ) (bad : List ℕ) → IsFirstBad text n bad → ((kind : LineKind) → IsBadLine text n kind → ⊥) → ⊥
each_kind text n bad first no_kind = has_kind bad (λ found. no_kind found.0 (bad, first, found.1))
