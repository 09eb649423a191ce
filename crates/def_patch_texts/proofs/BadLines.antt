-- A text has at most one first bad line, of one kind, and a patch text has none.
use Rattle.std.proofs.Common.{◌≡◌, ℕ, ◌+◌, ◌<◌, ◌≤◌, List, [], ◌∷◌, ◌++◌, length, take, refl, sym, ap, subst, ◌∙◌, arith}
use Rattle.std.specs.Prelude.{IsUtf8}
use Rattle.std.specs.List.{AllByRecursion}
use Rattle.std.proofs.lemmas.Str.{encodes_same}
use Rattle.lf_rdf.specs.declared.quad.Signed.{Signed}
use Rattle.def_patch_texts.specs.declared.kind.LineKind.{LineKind}
use Rattle.def_patch_texts.specs.declared.kind.LineKind.TheVariants.{Syntax, RelativeIri, BadEscape, NotUtf8, LineTooLong}
use Rattle.def_patch_texts.specs.PatchText.{line_limit, IsEncoded, AreLines, IsPatchText}
use Rattle.def_patch_texts.specs.BadLine.{IsLongestFront, IsFault, HasFault, IsKind, IsGood, IsBadLine}

-- ---- one kind

pub same_characters : (bytes cs ds : List ℕ) → IsEncoded bytes cs → IsEncoded bytes ds → cs ≡ ds
same_characters bytes cs ds a b = encodes_same cs ds (a.encoded ∙ sym b.encoded)

same_length : (cs : List ℕ) (a b : ℕ) → IsLongestFront cs a → IsLongestFront cs b → a ≡ b
same_length cs a b one two =
    let low : b ≤ a = one.longest b two.within two.begins in
    let high : a ≤ b = two.longest a one.within one.begins in omega arith

one_fault : (front : List ℕ) (kind other : LineKind) → IsFault front kind → IsFault front other → kind ≡ other
one_fault front Syntax Syntax a b = refl
one_fault front Syntax RelativeIri a b = absurd (a.0 b)
one_fault front Syntax BadEscape a b = absurd (a.1 b.1)
one_fault front Syntax NotUtf8 a b = absurd b
one_fault front Syntax LineTooLong a b = absurd b
one_fault front RelativeIri Syntax a b = absurd (b.0 a)
one_fault front RelativeIri RelativeIri a b = refl
one_fault front RelativeIri BadEscape a b = absurd (b.0 a)
one_fault front RelativeIri NotUtf8 a b = absurd b
one_fault front RelativeIri LineTooLong a b = absurd b
one_fault front BadEscape Syntax a b = absurd (b.1 a.1)
one_fault front BadEscape RelativeIri a b = absurd (a.0 b)
one_fault front BadEscape BadEscape a b = refl
one_fault front BadEscape NotUtf8 a b = absurd b
one_fault front BadEscape LineTooLong a b = absurd b
one_fault front NotUtf8 other a b = absurd a
one_fault front LineTooLong other a b = absurd a

same_fault : (bytes : List ℕ) (kind other : LineKind) → HasFault bytes kind → HasFault bytes other → kind ≡ other
same_fault bytes kind other a b =
    let cs : b.0 ≡ a.0 = same_characters bytes b.0 a.0 b.1 a.1 in
    let front : IsLongestFront a.0 b.2.0 = subst (λ (t : List ℕ). IsLongestFront t b.2.0) cs b.2.1 in
    let len : b.2.0 ≡ a.2.0 = same_length a.0 b.2.0 a.2.0 front a.2.1 in
    let fault : IsFault (take a.2.0 a.0) other =
    subst (λ (n : ℕ). IsFault (take n a.0) other) len (subst (λ (t : List ℕ). IsFault (take b.2.0 t) other) cs b.2.2) in
    one_fault (take a.2.0 a.0) kind other a.2.2 fault

too_long : (n m : ℕ) → n < m → m ≤ n → ⊥
too_long n m a b = omega arith

has_utf8 : (bytes : List ℕ) (kind : LineKind) → HasFault bytes kind → IsUtf8 bytes
has_utf8 bytes kind h = (h.0, (h.1.scalars, h.1.encoded))

pub one_kind : (bytes : List ℕ) (kind other : LineKind) → IsKind bytes kind → IsKind bytes other → kind ≡ other
one_kind bytes LineTooLong LineTooLong a b = refl
one_kind bytes LineTooLong NotUtf8 a b = absurd (too_long line_limit (length bytes) a b.0)
one_kind bytes LineTooLong Syntax a b = absurd (too_long line_limit (length bytes) a b.0)
one_kind bytes LineTooLong RelativeIri a b = absurd (too_long line_limit (length bytes) a b.0)
one_kind bytes LineTooLong BadEscape a b = absurd (too_long line_limit (length bytes) a b.0)
one_kind bytes NotUtf8 LineTooLong a b = absurd (too_long line_limit (length bytes) b a.0)
one_kind bytes NotUtf8 NotUtf8 a b = refl
one_kind bytes NotUtf8 Syntax a b = absurd (a.1 (has_utf8 bytes Syntax b.1))
one_kind bytes NotUtf8 RelativeIri a b = absurd (a.1 (has_utf8 bytes RelativeIri b.1))
one_kind bytes NotUtf8 BadEscape a b = absurd (a.1 (has_utf8 bytes BadEscape b.1))
one_kind bytes Syntax LineTooLong a b = absurd (too_long line_limit (length bytes) b a.0)
one_kind bytes Syntax NotUtf8 a b = absurd (b.1 (has_utf8 bytes Syntax a.1))
one_kind bytes Syntax Syntax a b = refl
one_kind bytes Syntax RelativeIri a b = same_fault bytes Syntax RelativeIri a.1 b.1
one_kind bytes Syntax BadEscape a b = same_fault bytes Syntax BadEscape a.1 b.1
one_kind bytes RelativeIri LineTooLong a b = absurd (too_long line_limit (length bytes) b a.0)
one_kind bytes RelativeIri NotUtf8 a b = absurd (b.1 (has_utf8 bytes RelativeIri a.1))
one_kind bytes RelativeIri Syntax a b = same_fault bytes RelativeIri Syntax a.1 b.1
one_kind bytes RelativeIri RelativeIri a b = refl
one_kind bytes RelativeIri BadEscape a b = same_fault bytes RelativeIri BadEscape a.1 b.1
one_kind bytes BadEscape LineTooLong a b = absurd (too_long line_limit (length bytes) b a.0)
one_kind bytes BadEscape NotUtf8 a b = absurd (b.1 (has_utf8 bytes BadEscape a.1))
one_kind bytes BadEscape Syntax a b = same_fault bytes BadEscape Syntax a.1 b.1
one_kind bytes BadEscape RelativeIri a b = same_fault bytes BadEscape RelativeIri a.1 b.1
one_kind bytes BadEscape BadEscape a b = refl

-- ---- one place

-- two first bad lines of one list of lines
abbrev Cut : Type 0
Cut = List (List ℕ)

one_place : (a : Cut) (x : List ℕ) (ar : Cut) (b : Cut) (y : List ℕ) (br : Cut) → a ++ x ∷ ar ≡ b ++ y ∷ br
    → AllByRecursion IsGood a → AllByRecursion IsGood b → (IsGood x → ⊥) → (IsGood y → ⊥) → (length a ≡ length b) × (x ≡ y)
one_place [] x ar [] y br e ga gb bx by = (refl, cc)
one_place [] x ar (z ∷ b) y br e ga gb bx by = let same : z ≡ x = cc in absurd (bx (subst IsGood same gb.0))
one_place (z ∷ a) x ar [] y br e ga gb bx by = let same : z ≡ y = cc in absurd (by (subst IsGood same ga.0))
one_place (z ∷ a) x ar (w ∷ b) y br e ga gb bx by =
    let rest : a ++ x ∷ ar ≡ b ++ y ∷ br = cc in
    let next = one_place a x ar b y br rest ga.1 gb.1 bx by in
    let size = next.0 in (rw size refl, next.1)

pub one_bad_line : (text : List ℕ) (n m : ℕ) (kind other : LineKind) → IsBadLine text n kind → IsBadLine text m other → (n ≡ m) × (kind ≡ other)
one_bad_line text n m kind other a b =
    let place = one_place a.1.before a.0 a.1.after b.1.before b.0 b.1.after (sym a.1.cut ∙ b.1.cut) a.1.good_before b.1.good_before a.1.is_bad b.1.is_bad in
    let size : length a.1.before ≡ length b.1.before = place.0 in
    let second : IsKind a.0 other = subst (λ (t : List ℕ). IsKind t other) (sym place.1) b.2 in
    (a.1.counted ∙ ap (λ (k : ℕ). k + 1) size ∙ sym b.1.counted, one_kind a.0 kind other a.2 second)

-- ---- never both

good_at : (before : Cut) (bad : List ℕ) (after : Cut) (signed : List Signed) → AreLines (before ++ bad ∷ after) signed → IsGood bad
good_at [] bad after signed h = (h.0, h.2)
good_at (line ∷ before) bad after signed h = good_at before bad after h.1 h.3

pub never_both : (text : List ℕ) (signed : List Signed) (n : ℕ) (kind : LineKind) → IsPatchText text signed → IsBadLine text n kind → ⊥
never_both text signed n kind h b =
    b.1.is_bad (good_at b.1.before b.0 b.1.after signed (subst (λ (ls : Cut). AreLines ls signed) b.1.cut h))
