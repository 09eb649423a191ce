-- The maps in their last order stand for what they stood for while the frame was read.
use Rattle.std.proofs.Common.{◌≡◌, ◌≢◌, ℕ, suc, ◌+◌, ◌-◌, ◌<◌, nat_eq, Bool, true, false, List, [], ◌∷◌, length, map, reverse, Option, Some, None, refl, sym, ap, ◌∙◌, arith, eq-eqb, ne_eqb, lt-ltb}
use Rattle.std.proofs.lemmas.List.{length-reverse}
use Rattle.std.proofs.lemmas.Bool.{eqb-true, eqb-false}
use Rattle.std.specs.Option.{option_map}
use Rattle.lf_sorted.specs.declared.map.Entry.{Entry}
use Rattle.lf_model.specs.declared.frame.FrameNode.{FrameNode}
use Rattle.lf_model.specs.declared.frame.FrameKind.{FrameKind}
use Rattle.lf_model.specs.declared.frame.FrameKind.TheVariants as frame_kind
use Rattle.lf_expand.specs.declared.rows.Row.{Row}
use Rattle.def_nested.specs.Nested.{frame_map, prop, reverse_prop, in_graph, list_pattern_of}
use Rattle.def_nested.specs.Unfolding.{Numbered, sub_frame, build, build_props, build_reverses, build_within, build_kind, guarded, above, unfold_from, nested}
use Rattle.def_nested.proofs.Unfolded.{unfold_built, unfold_later}
use Rattle.lf_expand.specs.RowData.{flags_data, seen_props, seen_reverses, seen_row, at_row, from_last, built, IsBelow, PropsWithin, ReversesWithin, KindWithin, RowWithin, DescendsFrom, Descends}
use Rattle.lf_expand.specs.Numbers.{turned_props, turned_reverses, turned_kind, turned_row}

-- numbers below a bound, counted from the last one, stand for what they stood for
abbrev Turns : ℕ → ℕ → Numbered → Numbered → Type 0
Turns last bound f g = (n : ℕ) → n < bound → f (last - n) ≡ g n

turned_sub : (last bound : ℕ) (f g : Numbered) → Turns last bound f g → (v : Option ℕ) → IsBelow v bound → sub_frame f (option_map (λ n. last - n) v) ≡ sub_frame g v
turned_sub last bound f g turns (Some n) lt = turns n lt
turned_sub last bound f g turns None lt = refl

props_turned : (last bound : ℕ) (f g : Numbered) → Turns last bound f g → (es : List (Entry (Option ℕ))) → PropsWithin bound es → build_props f (turned_props last es) ≡ seen_props g es
props_turned last bound f g turns [] h = refl
props_turned last bound f g turns (e ∷ es) h =
    let first = turned_sub last bound f g turns e.value h.0 in
    let rest = props_turned last bound f g turns es h.1 in
    λ i. prop e.key (first i) (rest i)

reverses_turned : (last bound : ℕ) (f g : Numbered) → Turns last bound f g → (es : List (Entry ℕ)) → ReversesWithin bound es → build_reverses f (turned_reverses last es) ≡ seen_reverses g es
reverses_turned last bound f g turns [] h = refl
reverses_turned last bound f g turns (e ∷ es) h =
    let first = turns e.value h.0 in
    let rest = reverses_turned last bound f g turns es h.1 in
    λ i. reverse_prop e.key (first i) (rest i)

within_turned : (last bound : ℕ) (f g : Numbered) → Turns last bound f g → (v : Option ℕ) → IsBelow v bound → build_within f (option_map (λ n. last - n) v) ≡ build_within g v
within_turned last bound f g turns (Some n) lt = ap in_graph (turns n lt)
within_turned last bound f g turns None lt = refl

kind_turned : (last bound : ℕ) (f g : Numbered) → Turns last bound f g → (k : FrameKind) → KindWithin bound k → build_kind f (turned_kind last k) ≡ build_kind g k
kind_turned last bound f g turns frame_kind.Wild h = refl
kind_turned last bound f g turns frame_kind.Node h = refl
kind_turned last bound f g turns (frame_kind.Value pattern) h = refl
kind_turned last bound f g turns (frame_kind.List (Some n)) h = ap list_pattern_of (turns n h)
kind_turned last bound f g turns (frame_kind.List None) h = refl

row_turned : (last bound : ℕ) (f g : Numbered) → Turns last bound f g → (row : Row) → RowWithin bound row → build f (turned_row last row) ≡ seen_row g row
row_turned last bound f g turns row h =
    let props = props_turned last bound f g turns row.props h.props in
    let reverses = reverses_turned last bound f g turns row.reverse h.reverses in
    let within = within_turned last bound f g turns row.graph h.graph in
    let kind = kind_turned last bound f g turns row.kind h.kind in
    λ i. frame_map (flags_data row.flags) (props i) (reverses i) (within i) (kind i)

at_last : (older : List Row) (row : Row) (n : ℕ) → n ≡ length older → from_last (row ∷ older) n ≡ seen_row (from_last older) row
unfolding from_last
at_last older row n e = ap (λ t. at_row t row (from_last older) n) (eq-eqb n (length older) e)

at_earlier : (older : List Row) (row : Row) (n : ℕ) → n ≢ length older → from_last (row ∷ older) n ≡ from_last older n
unfolding from_last
at_earlier older row n other = ap (λ t. at_row t row (from_last older) n) (ne_eqb n (length older) other)

seen_above : (own : ℕ) (f : Numbered) (n : ℕ) → own < n → above own f n ≡ f n
seen_above own f n lt = ap (λ t. guarded t f n) (lt-ltb own n lt)

-- one map before those that stand for what they stood for
from_step : (first last : ℕ) (row : Row) (older : List Row) → first + suc (length older) ≡ last + 1 → RowWithin (length older) row →
    ((m : ℕ) → m < length older → unfold_from (first + 1) (map (turned_row last) older) (last - m) ≡ from_last older m) → (n : ℕ) → n < suc (length older) →
    unfold_from first (turned_row last row ∷ map (turned_row last) older) (last - n) ≡ from_last (row ∷ older) n
from_step first last row older len within earlier n lt = by (nat_eq n (length older)) refl
  where
    rest : List FrameNode
    rest = map (turned_row last) older

    later : (m : ℕ) → m < length older → unfold_from first (turned_row last row ∷ rest) (last - m) ≡ from_last older m
    later m below = unfold_later first (last - m) (turned_row last row) rest (λ e. omega arith) ∙ earlier m below

    turns : Turns last (length older) (above (last - length older) (unfold_from first (turned_row last row ∷ rest))) (from_last older)
    turns m below = seen_above (last - length older) (unfold_from first (turned_row last row ∷ rest)) (last - m) (omega arith) ∙ later m below

    here : n ≡ length older → unfold_from first (turned_row last row ∷ rest) (last - n) ≡ from_last (row ∷ older) n
    here e =
        ap (λ k. unfold_from first (turned_row last row ∷ rest) (last - k)) e
        ∙ unfold_built first (turned_row last row ∷ rest) 0 (last - length older) (turned_row last row) (omega arith) refl
        ∙ row_turned last (length older) (above (last - length older) (unfold_from first (turned_row last row ∷ rest))) (from_last older) turns row within
        ∙ sym (at_last older row n e)

    by : (b : Bool) → nat_eq n (length older) ≡ b → unfold_from first (turned_row last row ∷ rest) (last - n) ≡ from_last (row ∷ older) n
    by true e = here (eqb-true n (length older) e)
    by false e =
        let other : n ≢ length older = eqb-false n (length older) e in
        let below : n < length older = omega arith in
        later n below ∙ sym (at_earlier older row n other)

from_first : (first last : ℕ) (rows : List Row) → first + length rows ≡ last + 1 → DescendsFrom rows → (n : ℕ) → n < length rows →
    unfold_from first (map (turned_row last) rows) (last - n) ≡ from_last rows n
from_first first last [] len d n lt = absurd (omega arith)
from_first first last (row ∷ older) len d n lt =
    from_step first last row older len d.0 (λ m below. from_first (first + 1) last older (omega arith) d.1 m below) n lt

-- the top map is the last one that was read
pub top_first : (rows : List Row) (last : ℕ) → length rows ≡ last + 1 → Descends rows → nested (map (turned_row last) (reverse rows)) 0 ≡ built rows last
top_first rows last len d =
    let same = length-reverse rows in
    let zero_is : last - last ≡ 0 = omega arith in
    ap (nested (map (turned_row last) (reverse rows))) (sym zero_is)
    ∙ from_first 0 last (reverse rows) (omega arith) d last (omega arith)
