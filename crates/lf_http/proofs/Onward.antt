-- How bytes are read on while they may still become a head.
use Rattle.std.proofs.Common.{◌≡◌, ◌≤◌, ◌+◌, ◌⊎◌, inl, inr, ◌∙◌, ℕ, List, [], ◌∷◌, ◌++◌, refl, ap, sym, subst, arith, length, take, drop, append_assoc}
use Rattle.std.proofs.lemmas.List.{append-nil, take-append-drop, length-drop}
use Rattle.httparse.proofs.OpenLemmas.{line_blank, request_may_from_line}
use Rattle.lf_http.specs.Reading.{IsOpen, ReadsOn, longest_piece}
use Rattle.lf_http.proofs.Found.{nothing_read}

-- no bytes may still become a head
open_at_first : IsOpen []
open_at_first = (nothing_read, request_may_from_line (inl (line_blank (record { more = []; tree = []; reads = λ rest. refl }))))

pub open_where_empty : (bytes : List ℕ) → length bytes ≡ 0 → IsOpen bytes
open_where_empty [] none = open_at_first
open_where_empty (b ∷ bytes) none = absurd (omega arith)

-- all that was read stands behind what was pending
reads_behind : (pending bytes : List ℕ) → ReadsOn pending bytes → (more : List ℕ) × (bytes ≡ pending ++ more)
reads_behind pending bytes (inl same) = ([], same ∙ sym (append-nil pending))
reads_behind pending bytes (inr (more, last, is, short, open_before)) = (more ++ last, is ∙ append_assoc pending more last)

-- one more piece behind bytes that may still become a head
pub reads_further : (first pending bytes : List ℕ) (n : ℕ) → ReadsOn first pending → IsOpen pending
    → take (length pending) bytes ≡ pending → length bytes ≡ length pending + n → n ≤ longest_piece → ReadsOn first bytes
reads_further first pending bytes n before is_open kept longer short = further (reads_behind first pending before)
  where
    last : List ℕ
    last = drop (length pending) bytes

    further : (more : List ℕ) × (pending ≡ first ++ more) → ReadsOn first bytes
    further (more, is) =
        inr (
          more,
          last,
          sym (take-append-drop (length pending) bytes) ∙ ap (λ (front : List ℕ). front ++ last) (kept ∙ is),
          omega (arith, length-drop (length pending) bytes),
          subst IsOpen is is_open,
        )
