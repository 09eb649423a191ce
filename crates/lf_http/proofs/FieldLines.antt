-- The values of one name when a line is added at the end.
use Rattle.std.proofs.Common.{◌≡◌, ◌<◌, ◌+◌, ℕ, List, [], ◌∷◌, ◌++◌, Bool, true, false, refl, ap, if◌then◌else◌, map, take, get_or, length}
use Rattle.std.proofs.lemmas.List.{take_more, map-append}
use Rattle.httparse.specs.declared.spans.Span.{Span}
use Rattle.httparse.specs.declared.spans.HeaderSpan.{HeaderSpan}
use Rattle.httparse.specs.Spans.{header_bytes, span_bytes}
use Rattle.lf_http.specs.Fields.{values, same_name}

pub values-push_same : (name : List ℕ) (lines : List (List ℕ × List ℕ)) (line : List ℕ × List ℕ)
    → same_name line.0 name ≡ true → values name (lines ++ line ∷ []) ≡ values name lines ++ line.1 ∷ []
values-push_same name [] line same = rw same refl
values-push_same name (first ∷ lines) line same =
    go (same_name first.0 name) (values-push_same name lines line same)
  where
    go : (b : Bool) → values name (lines ++ line ∷ []) ≡ values name lines ++ line.1 ∷ []
        → (if b then first.1 ∷ values name (lines ++ line ∷ []) else values name (lines ++ line ∷ []))
        ≡ (if b then first.1 ∷ values name lines else values name lines) ++ line.1 ∷ []
    go true e = ap (λ vs. first.1 ∷ vs) e
    go false e = e

pub values-push_other : (name : List ℕ) (lines : List (List ℕ × List ℕ)) (line : List ℕ × List ℕ)
    → same_name line.0 name ≡ false → values name (lines ++ line ∷ []) ≡ values name lines
values-push_other name [] line other = rw other refl
values-push_other name (first ∷ lines) line other =
    go (same_name first.0 name) (values-push_other name lines line other)
  where
    go : (b : Bool) → values name (lines ++ line ∷ []) ≡ values name lines
        → (if b then first.1 ∷ values name (lines ++ line ∷ []) else values name (lines ++ line ∷ []))
        ≡ (if b then first.1 ∷ values name lines else values name lines)
    go true e = ap (λ vs. first.1 ∷ vs) e
    go false e = e

-- The same for the first i + 1 header spans of a buffer.
pub values-take_same : (buf name : List ℕ) (lines : List HeaderSpan) (i : ℕ) (d : HeaderSpan)
    → i < length lines → same_name (span_bytes buf (get_or lines i d).name) name ≡ true
    → values name (map (header_bytes buf) (take (i + 1) lines))
    ≡ values name (map (header_bytes buf) (take i lines)) ++ span_bytes buf (get_or lines i d).value ∷ []
values-take_same buf name lines i d within same =
    rw (take_more lines i d within, map-append (header_bytes buf) (take i lines) (get_or lines i d ∷ []))
    (values-push_same name (map (header_bytes buf) (take i lines)) (header_bytes buf (get_or lines i d)) same)

pub values-take_other : (buf name : List ℕ) (lines : List HeaderSpan) (i : ℕ) (d : HeaderSpan)
    → i < length lines → same_name (span_bytes buf (get_or lines i d).name) name ≡ false
    → values name (map (header_bytes buf) (take (i + 1) lines)) ≡ values name (map (header_bytes buf) (take i lines))
values-take_other buf name lines i d within other =
    rw (take_more lines i d within, map-append (header_bytes buf) (take i lines) (get_or lines i d ∷ []))
    (values-push_other name (map (header_bytes buf) (take i lines)) (header_bytes buf (get_or lines i d)) other)

-- The spans found, with one more at the end.
pub map-push : (buf : List ℕ) (found : List Span) (more : Span)
    → map (span_bytes buf) (found ++ more ∷ []) ≡ map (span_bytes buf) found ++ span_bytes buf more ∷ []
map-push buf found more = map-append (span_bytes buf) found (more ∷ [])
