-- Fronts of a text: spaces, and the longest front that passes a test.
use Rattle.std.proofs.Common.{◌≡◌, ℕ, zero, suc, ◌<◌, ◌≤◌, Bool, true, false, cond, List, [], ◌∷◌, ◌++◌, length, take, drop, Some, refl, sym, ap, subst, ◌∙◌, arith, inl, inr}
use Rattle.std.specs.Prelude.{nat_eq}
use Rattle.std.specs.List.{prefix_len, list_all}
use Rattle.std.proofs.lemmas.Bool.{and_parts, cases_lt, ne_eqb, false_from_ne_true, false≢true}
use Rattle.std.proofs.lemmas.List.{length-take-le, length-append, take-append-drop, take_at, drop_at}
use Rattle.def_patch_texts.specs.Characters.{is_blank}
use Rattle.def_patch_texts.specs.Terminals.{IsSpace}
use Rattle.def_patch_texts.specs.Reading.{starts, skip, longest_front, front_at}

-- ---- spaces

prefix_len-append_all : (p : ℕ → Bool) (xs ys : List ℕ) → list_all p xs ≡ true → prefix_len p ys ≡ 0 → prefix_len p (xs ++ ys) ≡ length xs
prefix_len-append_all p [] ys h stop = stop
prefix_len-append_all p (x ∷ xs) ys h stop =
    let parts = and_parts (p x) (list_all p xs) h in
    rw (parts.0, prefix_len-append_all p xs ys parts.1 stop) (omega arith)

-- what follows spaces, where no space follows them
pub skip_again : (text rest : List ℕ) → IsSpace text rest → prefix_len is_blank rest ≡ 0 → skip text ≡ rest
unfolding skip
skip_again text rest h stop =
    let len = prefix_len-append_all is_blank h.0 rest h.1 stop in
    rw (h.2, len, drop_at h.0 rest (length h.0) refl) refl

-- a text that begins with a character that is no space
pub no_space : (c : ℕ) (text rest : List ℕ) → is_blank c ≡ false → text ≡ c ∷ rest → prefix_len is_blank text ≡ 0
no_space c text rest h e = rw (e, h) refl

blank_is_other : (b c : ℕ) → is_blank b ≡ true → is_blank c ≡ false → nat_eq b c ≡ false
blank_is_other b c hb hc = ne_eqb b c (λ same. false≢true (sym hc ∙ subst (λ (x : ℕ). is_blank x ≡ true) same hb))

-- a character that is no space stands first behind spaces only if it stands first
pub starts_behind : (c : ℕ) (text rest : List ℕ) → is_blank c ≡ false → IsSpace text rest → starts c rest ≡ false → starts c text ≡ false
starts_behind c text rest hc h other = behind h.0 h.1 h.2
  where
    behind : (space : List ℕ) → list_all is_blank space ≡ true → text ≡ space ++ rest → starts c text ≡ false
    behind [] all e = ap (starts c) e ∙ other
    behind (b ∷ space) all e = ap (starts c) e ∙ blank_is_other b c (and_parts (is_blank b) (list_all is_blank space) all).0 hc

-- ---- the longest front

pub longest_again : (test : List ℕ → Bool) (n : ℕ) (text : List ℕ) (k : ℕ) → k ≤ n → test (take k text) ≡ true
    → ((m : ℕ) → k < m → m ≤ n → test (take m text) ≡ false) → longest_front test n text ≡ k
unfolding longest_front
longest_again test zero text k le fits over = omega arith
longest_again test (suc n) text k le fits over =
    elim (cases_lt k (suc n)) [
      | inl lt ↦
          rw (over (suc n) lt (omega arith))
          (longest_again test n text k (omega arith) fits (λ m above below. over m above (omega arith)))
      | inr ge ↦ let same : k ≡ suc n = omega arith in longest_here test n text k same fits
    ]
  where
    longest_here : (test : List ℕ → Bool) (n : ℕ) (text : List ℕ) (k : ℕ) → k ≡ suc n → test (take k text) ≡ true
        → cond (test (take (suc n) text)) (suc n) (longest_front test n text) ≡ k
    longest_here test n text k same fits =
        let here : test (take (suc n) text) ≡ true = subst (λ (m : ℕ). test (take m text) ≡ true) same fits in
        rw here (sym same)

pub front_again : (test : List ℕ → Bool) (front rest : List ℕ) → test front ≡ true → (length front ≡ 0 → ⊥)
    → ((longer more : List ℕ) → front ++ rest ≡ longer ++ more → test longer ≡ true → length longer ≤ length front)
    → front_at test (front ++ rest) ≡ Some (front, rest)
unfolding front_at
front_again test front rest fits some longest =
    let whole : List ℕ = front ++ rest in
    let len : longest_front test (length whole) whole ≡ length front =
    longest_again test (length whole) whole (length front) (omega (arith, length-append front rest))
    (ap test (take_at front rest (length front) refl) ∙ fits)
    (λ m above below. false_from_ne_true (test (take m whole)) (λ h.
    let limit : length (take m whole) ≤ length front = longest (take m whole) (drop m whole) (sym (take-append-drop m whole)) h in
    let size : length (take m whole) ≡ m = length-take-le m whole below in omega arith)) in
    let full : nat_eq (length front) 0 ≡ false = ne_eqb (length front) 0 some in
    rw (len, full, take_at front rest (length front) refl, drop_at front rest (length front) refl) refl
