-- Properties stay in byte order as they are put in.
use Rattle.std.proofs.Common.{◌≡◌, ℕ, Bool, true, ◌&&◌, List, refl, sym, ap, ◌∙◌, true≢false, Ordering, Less, Equal, Greater, is_lt, nat_cmp}
use Rattle.std.specs.Ordering.{match_ordering, ordering_reverse}
use Rattle.std.specs.Cmp.Lexicographic.{slice_cmp, nat_list_cmp_total}
use Rattle.def_nested.specs.Nested.{Nested, Props, Reverses, no_props, prop, no_reverses, reverse_prop}
use Rattle.def_contexts.specs.Readings.{put_prop, put_reverse}
use Rattle.def_contexts.specs.FrameLaws.{precedes, precedes_reverses, is_map, is_sound, are_sound, are_sound_reverses}
use Rattle.def_contexts.proofs.Expanding.{first_true, second_true}

abbrev compared : List ℕ → List ℕ → Ordering
compared x y = slice_cmp nat_cmp x y

abbrev before : List ℕ → List ℕ → Bool
before x y = is_lt (compared x y)

before-less : (x y : List ℕ) → before x y ≡ true → compared x y ≡ Less
before-less x y h = by (compared x y) h
  where
    by : (o : Ordering) → is_lt o ≡ true → o ≡ Less
    by Less h = refl
    by Equal h = absurd (true≢false (sym h))
    by Greater h = absurd (true≢false (sym h))

turned : (x y : List ℕ) → compared x y ≡ Greater → before y x ≡ true
turned x y h = ap is_lt (nat_list_cmp_total.antisymm y x ∙ ap ordering_reverse h)

chained : (x y z : List ℕ) → before x y ≡ true → before y z ≡ true → before x z ≡ true
chained x y z h k = ap is_lt (nat_list_cmp_total.trans x y z (before-less x y h) (before-less y z k))

alike : (x y z : List ℕ) → compared x y ≡ Equal → before y z ≡ true → before x z ≡ true
alike x y z h k = ap is_lt (nat_list_cmp_total.congr x y z h) ∙ k

-- ---- properties

precedes-chain : (x y : List ℕ) (rest : Props) → before x y ≡ true → precedes y rest ≡ true → precedes x rest ≡ true
precedes-chain x y no_props h k = refl
precedes-chain x y (prop z sub rest) h k =
    rw (chained x y z h (first_true (before y z) (precedes y rest) k), precedes-chain x y rest h (second_true (before y z) (precedes y rest) k)) refl

precedes-alike : (x y : List ℕ) (rest : Props) → compared x y ≡ Equal → precedes y rest ≡ true → precedes x rest ≡ true
precedes-alike x y no_props h k = refl
precedes-alike x y (prop z sub rest) h k =
    rw (alike x y z h (first_true (before y z) (precedes y rest) k), precedes-alike x y rest h (second_true (before y z) (precedes y rest) k)) refl

precedes-put : (x iri : List ℕ) (sub : Nested) (props : Props) → before x iri ≡ true → precedes x props ≡ true → precedes x (put_prop iri sub props) ≡ true
precedes-put x iri sub no_props h k = rw h refl
precedes-put x iri sub (prop own other rest) h k = by (compared iri own) (precedes-put x iri sub rest h later)
  where
    here : before x own ≡ true
    here = first_true (before x own) (precedes x rest) k

    later : precedes x rest ≡ true
    later = second_true (before x own) (precedes x rest) k

    by : (o : Ordering) → precedes x (put_prop iri sub rest) ≡ true → precedes x (match_ordering o (prop iri sub (prop own other rest)) (prop iri sub rest) (prop own other (put_prop iri sub rest))) ≡ true
    by Less more = rw (h, here, later) refl
    by Equal more = rw (h, later) refl
    by Greater more = rw (here, more) refl

pub sound-put : (iri : List ℕ) (sub : Nested) (props : Props) → is_sound sub ≡ true → are_sound props ≡ true → are_sound (put_prop iri sub props) ≡ true
sound-put iri sub no_props s h = rw s refl
sound-put iri sub (prop own other rest) s h = by (compared iri own) refl (sound-put iri sub rest s later)
  where
    outer : (precedes own rest && is_sound other) ≡ true
    outer = first_true (precedes own rest && is_sound other) (are_sound rest) h

    above : precedes own rest ≡ true
    above = first_true (precedes own rest) (is_sound other) outer

    inner : is_sound other ≡ true
    inner = second_true (precedes own rest) (is_sound other) outer

    later : are_sound rest ≡ true
    later = second_true (precedes own rest && is_sound other) (are_sound rest) h

    by : (o : Ordering) → compared iri own ≡ o → are_sound (put_prop iri sub rest) ≡ true → are_sound (match_ordering o (prop iri sub (prop own other rest)) (prop iri sub rest) (prop own other (put_prop iri sub rest))) ≡ true
    by Less c more = rw (ap is_lt c, precedes-chain iri own rest (ap is_lt c) above, s, above, inner, later) refl
    by Equal c more = rw (precedes-alike iri own rest c above, s, later) refl
    by Greater c more = rw (precedes-put own iri sub rest (turned iri own c) above, inner, more) refl

-- ---- reverse properties

reversed-chain : (x y : List ℕ) (rest : Reverses) → before x y ≡ true → precedes_reverses y rest ≡ true → precedes_reverses x rest ≡ true
reversed-chain x y no_reverses h k = refl
reversed-chain x y (reverse_prop z sub rest) h k =
    rw (chained x y z h (first_true (before y z) (precedes_reverses y rest) k), reversed-chain x y rest h (second_true (before y z) (precedes_reverses y rest) k)) refl

reversed-alike : (x y : List ℕ) (rest : Reverses) → compared x y ≡ Equal → precedes_reverses y rest ≡ true → precedes_reverses x rest ≡ true
reversed-alike x y no_reverses h k = refl
reversed-alike x y (reverse_prop z sub rest) h k =
    rw (alike x y z h (first_true (before y z) (precedes_reverses y rest) k), reversed-alike x y rest h (second_true (before y z) (precedes_reverses y rest) k)) refl

reversed-put : (x iri : List ℕ) (sub : Nested) (props : Reverses) → before x iri ≡ true → precedes_reverses x props ≡ true → precedes_reverses x (put_reverse iri sub props) ≡ true
reversed-put x iri sub no_reverses h k = rw h refl
reversed-put x iri sub (reverse_prop own other rest) h k = by (compared iri own) (reversed-put x iri sub rest h later)
  where
    here : before x own ≡ true
    here = first_true (before x own) (precedes_reverses x rest) k

    later : precedes_reverses x rest ≡ true
    later = second_true (before x own) (precedes_reverses x rest) k

    by : (o : Ordering) → precedes_reverses x (put_reverse iri sub rest) ≡ true → precedes_reverses x (match_ordering o (reverse_prop iri sub (reverse_prop own other rest)) (reverse_prop iri sub rest) (reverse_prop own other (put_reverse iri sub rest))) ≡ true
    by Less more = rw (h, here, later) refl
    by Equal more = rw (h, later) refl
    by Greater more = rw (here, more) refl

pub sound-put_reverse : (iri : List ℕ) (sub : Nested) (props : Reverses) → is_map sub ≡ true → is_sound sub ≡ true → are_sound_reverses props ≡ true → are_sound_reverses (put_reverse iri sub props) ≡ true
sound-put_reverse iri sub no_reverses m s h = rw (m, s) refl
sound-put_reverse iri sub (reverse_prop own other rest) m s h = by (compared iri own) refl (sound-put_reverse iri sub rest m s later)
  where
    three : (precedes_reverses own rest && is_map other && is_sound other) ≡ true
    three = first_true (precedes_reverses own rest && is_map other && is_sound other) (are_sound_reverses rest) h

    two : (precedes_reverses own rest && is_map other) ≡ true
    two = first_true (precedes_reverses own rest && is_map other) (is_sound other) three

    above : precedes_reverses own rest ≡ true
    above = first_true (precedes_reverses own rest) (is_map other) two

    mapped : is_map other ≡ true
    mapped = second_true (precedes_reverses own rest) (is_map other) two

    inner : is_sound other ≡ true
    inner = second_true (precedes_reverses own rest && is_map other) (is_sound other) three

    later : are_sound_reverses rest ≡ true
    later = second_true (precedes_reverses own rest && is_map other && is_sound other) (are_sound_reverses rest) h

    by : (o : Ordering) → compared iri own ≡ o → are_sound_reverses (put_reverse iri sub rest) ≡ true → are_sound_reverses (match_ordering o (reverse_prop iri sub (reverse_prop own other rest)) (reverse_prop iri sub rest) (reverse_prop own other (put_reverse iri sub rest))) ≡ true
    by Less c more = rw (ap is_lt c, reversed-chain iri own rest (ap is_lt c) above, m, s, above, mapped, inner, later) refl
    by Equal c more = rw (reversed-alike iri own rest c above, m, s, later) refl
    by Greater c more = rw (reversed-put own iri sub rest (turned iri own c) above, mapped, inner, more) refl
