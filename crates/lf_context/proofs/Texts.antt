-- Where a text is cut, and how it ends.
use Rattle.std.proofs.Common.{◌≡◌, ℕ, zero, suc, ◌+◌, ◌<◌, ◌≤◌, nat_eq, Bool, true, false, not, ◌&&◌, List, [], ◌∷◌, length, take, drop, get_or, cond, ◌==◌, Option, Some, None, Bor, refl, sym, ap, ◌∙◌, arith}
use Rattle.std.proofs.lemmas.List.{take_all, drop_all}
use Rattle.std.specs.List.{position_or_len, before_first, after_first}
use Rattle.std.specs.Option.{MatchOption}
use Rattle.std.proofs.lemmas.Str.Pattern.{IsSplitOnceResult, split_once_first}
use Rattle.def_contexts.specs.Texts.{before_colon, after_colon, ends_in_gen_delim, is_gen_delim, without_last, has_byte, has_inner_colon}
use Rattle.def_contexts.specs.Keywords.{has_keyword_form}
use Rattle.lf_context.specs.Splits.{some_letters}

abbrev pub is_colon : ℕ → Bool
is_colon b = b == 58

pub before-first : (text : List ℕ) → before_first is_colon text ≡ before_colon text
before-first [] = refl
before-first (b ∷ rest) = by (is_colon b) (before-first rest)
  where
    by : (colon : Bool) → before_first is_colon rest ≡ before_colon rest → take (cond (not colon) (1 + position_or_len is_colon rest) 0) (b ∷ rest) ≡ cond colon [] (b ∷ before_colon rest)
    by true h = refl
    by false h = let next : 1 + position_or_len is_colon rest ≡ suc (position_or_len is_colon rest) = omega arith in rw next (ap (λ l. b ∷ l) h)

pub after-first : (text : List ℕ) → after_first is_colon text ≡ after_colon text
after-first [] = refl
after-first (b ∷ rest) = by (is_colon b) (after-first rest)
  where
    by : (colon : Bool) → after_first is_colon rest ≡ after_colon rest → drop (cond (not colon) (1 + position_or_len is_colon rest) 0 + 1) (b ∷ rest) ≡ cond colon rest (after_colon rest)
    by true h = refl
    by false h = let next : 1 + position_or_len is_colon rest + 1 ≡ suc (position_or_len is_colon rest + 1) = omega arith in rw next h

pub uncut-before : (text : List ℕ) → position_or_len is_colon text ≡ length text → text ≡ before_colon text
uncut-before text whole = sym (ap (λ n. take n text) whole ∙ take_all (length text) text (omega arith)) ∙ before-first text

pub uncut-after : (text : List ℕ) → position_or_len is_colon text ≡ length text → [] ≡ after_colon text
uncut-after text whole = sym (ap (λ n. drop (n + 1) text) whole ∙ drop_all (length text + 1) text (omega arith)) ∙ after-first text

-- where a search for `:` cuts
pub cut_there : (text : List ℕ) (r : Option (Bor (List ℕ) × Bor (List ℕ))) → IsSplitOnceResult 58 text r → MatchOption r (position_or_len is_colon text ≡ length text) (λ x. (x.0.now ≡ before_colon text) × (x.1.now ≡ after_colon text))
cut_there text None h = split_once_first 58 text None h (omega arith)
cut_there text (Some x) h = let parts = split_once_first 58 text (Some x) h (omega arith) in (parts.1 ∙ before-first text, parts.2 ∙ after-first text)

-- the last byte decides
pub ends-at : (text : List ℕ) (d k : ℕ) → suc k ≡ length text → ends_in_gen_delim text ≡ is_gen_delim (get_or text k d)
ends-at [] d k e = absurd (omega (arith, e))
ends-at (b ∷ []) d zero e = refl
ends-at (b ∷ []) d (suc k) e = absurd (omega (arith, e))
ends-at (b ∷ c ∷ rest) d zero e = absurd (omega (arith, e))
ends-at (b ∷ c ∷ rest) d (suc k) e = ends-at (c ∷ rest) d k (omega (arith, e))

pub front-of : (text : List ℕ) (k : ℕ) → suc k ≡ length text → take k text ≡ without_last text
front-of [] k e = absurd (omega (arith, e))
front-of (b ∷ []) zero e = refl
front-of (b ∷ []) (suc k) e = absurd (omega (arith, e))
front-of (b ∷ c ∷ rest) zero e = absurd (omega (arith, e))
front-of (b ∷ c ∷ rest) (suc k) e = ap (λ l. b ∷ l) (front-of (c ∷ rest) k (omega (arith, e)))

pub inner_is : (b : ℕ) (rest : List ℕ) → has_inner_colon (b ∷ rest) ≡ has_byte 58 (without_last rest)
inner_is b [] = refl
inner_is b (c ∷ rest) = refl

pub form_is : (b : ℕ) (rest : List ℕ) → has_keyword_form (b ∷ rest) ≡ (nat_eq b 64 && some_letters rest)
unfolding has_keyword_form
form_is b [] = by (nat_eq b 64)
  where
    by : (same : Bool) → false ≡ (same && false)
    by true = refl
    by false = refl
form_is b (c ∷ rest) = refl

pub form-none : (text : List ℕ) → length text < 1 → false ≡ has_keyword_form text
unfolding has_keyword_form
form-none [] h = refl
form-none (b ∷ rest) h = absurd (omega arith)

-- `@` and what follows it
pub form-then : (text : List ℕ) (n : ℕ) → length text ≤ n + 1 → 1 ≤ length text → get_or text 0 0 ≡ 64 → some_letters (take n (drop 1 text)) ≡ has_keyword_form text
form-then [] n most least at = absurd (omega arith)
form-then (b ∷ rest) n most least at =
    ap some_letters (take_all n rest (omega arith)) ∙ ap (λ c. nat_eq c 64 && some_letters rest) (sym at) ∙ sym (form_is b rest)
