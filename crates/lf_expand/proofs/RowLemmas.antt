-- Maps put behind others: numbers that were given keep what they stand for.
use Rattle.std.proofs.Common.{◌≡◌, ◌≢◌, ℕ, ◌<◌, true, false, ◌&&◌, List, [], ◌∷◌, ◌++◌, length, reverse, Some, None, refl, sym, ap, subst, ◌∙◌, arith, eq-eqb, ne_eqb}
use Rattle.std.proofs.lemmas.List.{reverse-append, length-reverse, length-append}
use Rattle.lf_model.specs.declared.table.Container.{Container}
use Rattle.lf_model.specs.declared.table.Container.TheVariants as container
use Rattle.lf_model.specs.declared.frame.FrameKind.{FrameKind}
use Rattle.lf_model.specs.declared.frame.FrameKind.TheVariants as frame_kind
use Rattle.lf_expand.specs.declared.rows.Row.{Row}
use Rattle.def_nested.specs.Nested.{Nested, wildcard, plain}
use Rattle.def_nested.specs.Unfolding.{Numbered, build_kind}
use Rattle.def_contexts.specs.Places.{Place, of_property, of_item, of_graph, of_reverse, of_top, placed, in_container, list_holding, list_unless_list}
use Rattle.lf_expand.specs.PlaceData.{is_listed, is_list_container}
use Rattle.lf_expand.specs.RowData.{plain_row, seen_row, at_row, from_last, built, RowWithin, DescendsFrom, Descends, Keeps, IsPlaced, needs_list}

turned : (rows : List Row) (row : Row) → reverse (rows ++ row ∷ []) ≡ row ∷ reverse rows
turned rows row = reverse-append rows (row ∷ [])

at_last : (older : List Row) (row : Row) (n : ℕ) → n ≡ length older → from_last (row ∷ older) n ≡ seen_row (from_last older) row
unfolding from_last
at_last older row n e = ap (λ t. at_row t row (from_last older) n) (eq-eqb n (length older) e)

at_earlier : (older : List Row) (row : Row) (n : ℕ) → n ≢ length older → from_last (row ∷ older) n ≡ from_last older n
unfolding from_last
at_earlier older row n other = ap (λ t. at_row t row (from_last older) n) (ne_eqb n (length older) other)

-- the last map stands for what it is built from
pub built_last : (rows : List Row) (row : Row) → built (rows ++ row ∷ []) (length rows) ≡ seen_row (built rows) row
built_last rows row =
    ap (λ l. from_last l (length rows)) (turned rows row) ∙ at_last (reverse rows) row (length rows) (sym (length-reverse rows))

-- the maps before it stand for what they stood for
pub built_before : (rows : List Row) (row : Row) (n : ℕ) → n < length rows → built (rows ++ row ∷ []) n ≡ built rows n
built_before rows row n before =
    let len = length-reverse rows in
    ap (λ l. from_last l n) (turned rows row) ∙ at_earlier (reverse rows) row n (λ e. omega arith)

pub keeps_all : (rows : List Row) → Keeps rows rows
keeps_all rows = record { grows = omega arith; same = λ n before. refl; descends = λ d. d }

pub keeps_both : (one two three : List Row) → Keeps one two → Keeps two three → Keeps one three
keeps_both one two three h k =
    record {
      grows = omega (arith, h.grows, k.grows);
      same = λ n before. k.same n (omega (arith, h.grows)) ∙ h.same n before;
      descends = λ d. k.descends (h.descends d);
    }

pub keeps_push : (rows : List Row) (row : Row) → RowWithin (length rows) row → Keeps rows (rows ++ row ∷ [])
keeps_push rows row within =
    let len = length-append rows (row ∷ []) in
    let deeper : RowWithin (length (reverse rows)) row = subst (λ n. RowWithin n row) (sym (length-reverse rows)) within in
    record {
      grows = omega arith;
      same = built_before rows row;
      descends = λ d. subst DescendsFrom (sym (turned rows row)) (deeper, d);
    }

pub placed_last : (old : List Row) (row : Row) → RowWithin (length old) row → IsPlaced old (old ++ row ∷ []) (length old) (seen_row (built old) row)
placed_last old row within =
    let len = length-append old (row ∷ []) in
    record { keeps = keeps_push old row within; within = omega arith; is = built_last old row }

pub plain_within : (bound : ℕ) (kind : FrameKind) → Rattle.lf_expand.specs.RowData.KindWithin bound kind → RowWithin bound (plain_row kind)
plain_within bound kind within = record { props = tt; reverses = tt; graph = tt; kind = within }

kind_kept : (whole : Nested) (sub : Numbered) (kind : FrameKind) → needs_list kind ≡ false → list_unless_list whole (build_kind sub kind) ≡ whole
kind_kept whole sub frame_kind.Wild e = refl
kind_kept whole sub frame_kind.Node e = absurd (cc)
kind_kept whole sub (frame_kind.Value pattern) e = absurd (cc)
kind_kept whole sub (frame_kind.List (Some n)) e = refl
kind_kept whole sub (frame_kind.List None) e = refl

kind_held : (whole : Nested) (sub : Numbered) (kind : FrameKind) → needs_list kind ≡ true → list_unless_list whole (build_kind sub kind) ≡ list_holding whole
kind_held whole sub frame_kind.Wild e = absurd (cc)
kind_held whole sub frame_kind.Node e = refl
kind_held whole sub (frame_kind.Value pattern) e = refl
kind_held whole sub (frame_kind.List item) e = absurd (cc)

container_kept : (c : Container) (sub : Numbered) (row : Row) → (is_list_container c && needs_list row.kind) ≡ false → in_container c (seen_row sub row) ≡ seen_row sub row
container_kept container.List sub row e = kind_kept (seen_row sub row) sub row.kind e
container_kept container.NoContainer sub row e = refl
container_kept container.Set sub row e = refl
container_kept container.Language sub row e = refl
container_kept container.LanguageSet sub row e = refl

container_held : (c : Container) (sub : Numbered) (row : Row) → (is_list_container c && needs_list row.kind) ≡ true → in_container c (seen_row sub row) ≡ list_holding (seen_row sub row)
container_held container.List sub row e = kind_held (seen_row sub row) sub row.kind e
container_held container.NoContainer sub row e = absurd (cc)
container_held container.Set sub row e = absurd (cc)
container_held container.Language sub row e = absurd (cc)
container_held container.LanguageSet sub row e = absurd (cc)

-- a map that stays as it is at its place
place_kept : (place : Place) (sub : Numbered) (row : Row) → (is_listed place && needs_list row.kind) ≡ false → placed place (seen_row sub row) ≡ seen_row sub row
place_kept (of_property (Some d)) sub row e = container_kept d.container sub row e
place_kept (of_property None) sub row e = refl
place_kept (of_item term) sub row e = refl
place_kept of_graph sub row e = refl
place_kept of_reverse sub row e = refl
place_kept of_top sub row e = refl

-- a map that is put into a list pattern
place_held : (place : Place) (sub : Numbered) (row : Row) → (is_listed place && needs_list row.kind) ≡ true → placed place (seen_row sub row) ≡ list_holding (seen_row sub row)
place_held (of_property (Some d)) sub row e = container_held d.container sub row e
place_held (of_property None) sub row e = absurd (cc)
place_held (of_item term) sub row e = absurd (cc)
place_held of_graph sub row e = absurd (cc)
place_held of_reverse sub row e = absurd (cc)
place_held of_top sub row e = absurd (cc)

pub placed_once :
    (old new : List Row) (place : Place) (row : Row) (n : ℕ) → (is_listed place && needs_list row.kind) ≡ false → RowWithin (length old) row →
    n ≡ length old → new ≡ old ++ row ∷ [] → IsPlaced old new n (placed place (seen_row (built old) row))
placed_once old new place row n kept within at is =
    subst (λ rows. IsPlaced old rows n (placed place (seen_row (built old) row))) (sym is)
    (subst (λ m. IsPlaced old (old ++ row ∷ []) m (placed place (seen_row (built old) row))) (sym at)
    (subst (λ sub. IsPlaced old (old ++ row ∷ []) (length old) sub) (sym (place_kept place (built old) row kept)) (placed_last old row within)))

twice : (old : List Row) (row : Row) → RowWithin (length old) row →
    IsPlaced old ((old ++ row ∷ []) ++ plain_row (frame_kind.List (Some (length old))) ∷ []) (length (old ++ row ∷ [])) (list_holding (seen_row (built old) row))
twice old row within =
    let len = length-append old (row ∷ []) in
    let here : length old < length (old ++ row ∷ []) = omega arith in
    let one = placed_last old row within in
    let two = placed_last (old ++ row ∷ []) (plain_row (frame_kind.List (Some (length old)))) (plain_within (length (old ++ row ∷ [])) (frame_kind.List (Some (length old))) here) in
    record {
      keeps = keeps_both old (old ++ row ∷ []) ((old ++ row ∷ []) ++ plain_row (frame_kind.List (Some (length old))) ∷ []) one.keeps two.keeps;
      within = two.within;
      is = two.is ∙ ap list_holding one.is;
    }

pub placed_twice :
    (old mid new : List Row) (place : Place) (row : Row) (n m : ℕ) → (is_listed place && needs_list row.kind) ≡ true → RowWithin (length old) row →
    n ≡ length old → mid ≡ old ++ row ∷ [] → m ≡ length mid → new ≡ mid ++ plain_row (frame_kind.List (Some n)) ∷ [] →
    IsPlaced old new m (placed place (seen_row (built old) row))
placed_twice old mid new place row n m held within at first here second =
    let end : m ≡ length (old ++ row ∷ []) = here ∙ ap length first in
    let is : new ≡ (old ++ row ∷ []) ++ plain_row (frame_kind.List (Some (length old))) ∷ [] =
    second ∙ ap (λ k. mid ++ plain_row (frame_kind.List (Some k)) ∷ []) at ∙ ap (λ l. l ++ plain_row (frame_kind.List (Some (length old))) ∷ []) first in
    subst (λ rows. IsPlaced old rows m (placed place (seen_row (built old) row))) (sym is)
    (subst (λ k. IsPlaced old ((old ++ row ∷ []) ++ plain_row (frame_kind.List (Some (length old))) ∷ []) k (placed place (seen_row (built old) row))) (sym end)
    (subst (λ sub. IsPlaced old ((old ++ row ∷ []) ++ plain_row (frame_kind.List (Some (length old))) ∷ []) (length (old ++ row ∷ [])) sub) (sym (place_held place (built old) row held)) (twice old row within)))

-- the empty map is put behind the others
pub wild_placed : (old new : List Row) (n : ℕ) (row : Row) → row ≡ plain_row frame_kind.Wild → n ≡ length old → new ≡ old ++ row ∷ [] → IsPlaced old new n (wildcard plain)
wild_placed old new n row wild at is =
    subst (λ rows. IsPlaced old rows n (wildcard plain)) (sym (is ∙ ap (λ x. old ++ x ∷ []) wild))
    (subst (λ m. IsPlaced old (old ++ plain_row frame_kind.Wild ∷ []) m (wildcard plain)) (sym at)
    (placed_last old (plain_row frame_kind.Wild) (plain_within (length old) frame_kind.Wild tt)))
