-- One label more.
use Rattle.std.proofs.Common.{◌≡◌, ℕ, ◌+◌, Bool, true, false, cond, Option, Some, unwrap_or, nat_cmp, is_eq, List, refl, ap, ◌∙◌, arith}
use Rattle.std.specs.Cmp.Lexicographic.{slice_cmp}
use Rattle.std.specs.BTreeMap.{BTreeMap, get}
use Rattle.std.proofs.lemmas.Map.Text.{is_eq-slice_cmp}
use Rattle.std.proofs.lemmas.Slice.Eq.{bytes_eq-Decides}
use Rattle.lf_rdf.specs.Equality.{text_eq}

-- a label with its number put in counts it, and no other
pub label-added : (old new : BTreeMap (List ℕ) ℕ) (label other : List ℕ) (number : ℕ)
    → get (slice_cmp nat_cmp) new other ≡ cond (is_eq (slice_cmp nat_cmp label other)) (Some number) (get (slice_cmp nat_cmp) old other)
    → number ≡ unwrap_or (get (slice_cmp nat_cmp) old label) 0 + 1
    → unwrap_or (get (slice_cmp nat_cmp) new other) 0 ≡ unwrap_or (get (slice_cmp nat_cmp) old other) 0 + cond (text_eq label other) 1 0
label-added old new label other number put made =
    ap (λ o. unwrap_or o 0) (put ∙ ap (λ b. cond b (Some number) (get (slice_cmp nat_cmp) old other)) (is_eq-slice_cmp label other))
    ∙ go (text_eq label other) refl
  where
    go : (b : Bool) → text_eq label other ≡ b → unwrap_or (cond b (Some number) (get (slice_cmp nat_cmp) old other)) 0
        ≡ unwrap_or (get (slice_cmp nat_cmp) old other) 0 + cond b 1 0
    go true e = made ∙ ap (λ w. unwrap_or (get (slice_cmp nat_cmp) old w) 0 + 1) ((bytes_eq-Decides label other).0 e)
    go false e = omega arith
