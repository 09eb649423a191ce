-- Boards at home among the live frames of a state.
use Rattle.std.proofs.Common.{◌≡◌, refl, sym, ◌∙◌, ap, ℕ, nat_eq, List, [], ◌∷◌, ◌++◌, Bool, true, false, not, cond, ◌||◌, Option, Some, None, is_some}
use Rattle.std.proofs.lemmas.Bool.{eq-eqb, false≢true}
use Rattle.std.proofs.lemmas.Grind.{flat_map-append}
use Rattle.std.proofs.lemmas.List.Elements.{filter-append}
use Rattle.std.proofs.lemmas.List.Folds.{list_any-append}
use Rattle.std.specs.List.{AllByRecursion}
use Rattle.lf_rdf.specs.Equality.{text_eq}
use Rattle.def_histories.specs.declared.live.Live.{Live}
use Rattle.def_histories.proofs.LiveProofs.{text_is}
use Rattle.lf_board.specs.Boards.{Shown}
use Rattle.lf_core.specs.declared.frames.Kept.{Kept}
use Rattle.lf_core.specs.Kept.{find_kept, has_name, lives, updated, without_board, without_kept}
use Rattle.lf_core.specs.Held.{Held, boards_of, held_by, held_of, is_home, of_other_texts, of_others}
use Rattle.lf_core.specs.Taken.{home_of}
use Rattle.lf_core.proofs.Each.{each_both, each_found, each_of_map}
use Rattle.lf_core.proofs.Once.{Apart, AreOnce, IsAlone, apart_names, apart_numbers}

itself : (n : ℕ) → nat_eq n n ≡ true
itself n = eq-eqb n n refl

-- kept frames apart from one
abbrev pub AloneKept : Live → List Kept → Type 0
AloneKept frame frames = AllByRecursion (λ (kept : Kept). Apart frame kept.live) frames

pub alone_kept : (frame : Live) (frames : List Kept) → IsAlone frame (lives frames) → AloneKept frame frames
alone_kept frame frames alone = each_of_map (Apart frame) (λ (kept : Kept). kept.live) frames alone

-- ---- each frame is found by its name

found_itself : (kept : Kept) (rest : List Kept) → find_kept kept.live.name (kept ∷ rest) ≡ Some kept
found_itself kept rest = rw (text_is kept.live.name) refl

found_behind : (first kept : Kept) (rest : List Kept) → Apart first.live kept.live → find_kept kept.live.name rest ≡ Some kept
    → find_kept kept.live.name (first ∷ rest) ≡ Some kept
found_behind first kept rest apart found = rw (apart_names first.live.name kept.live.name apart.name) found

pub each_is_found : (frames : List Kept) → AreOnce (lives frames) → AllByRecursion (λ (kept : Kept). find_kept kept.live.name frames ≡ Some kept) frames
each_is_found [] once = tt
each_is_found (first ∷ rest) once = (
  found_itself first rest,
  each_both (λ (kept : Kept). Apart first.live kept.live) (λ (kept : Kept). find_kept kept.live.name rest ≡ Some kept)
      (λ (kept : Kept). find_kept kept.live.name (first ∷ rest) ≡ Some kept) rest
      (λ kept apart found. found_behind first kept rest apart found) (alone_kept first.live rest once.0) (each_is_found rest once.1),
)

-- ---- a board is at home where its frame has one

home_itself : (frame : Live) (board : Option Shown) → is_home (held_by frame board) frame.number ≡ is_some board
home_itself frame None = refl
home_itself frame (Some board) = rw (itself frame.number) refl

not_home : (frame : Live) (board : Option Shown) (number : ℕ) → nat_eq number frame.number ≡ false → is_home (held_by frame board) number ≡ false
not_home frame None number apart = refl
not_home frame (Some board) number apart = rw apart refl

home-append : (one two : List Held) (number : ℕ) → is_home (one ++ two) number ≡ (is_home one number || is_home two number)
home-append one two number = list_any-append (λ (held : Held). nat_eq number held.number) one two

or_false : (a : Bool) → (a || false) ≡ a
or_false true = refl
or_false false = refl

none_home : (frame : Live) (rest : List Kept) → AloneKept frame rest → is_home (boards_of rest) frame.number ≡ false
none_home frame [] alone = refl
none_home frame (kept ∷ rest) alone =
    home-append (held_of kept) (boards_of rest) frame.number
    ∙ (λ i. not_home kept.live kept.board frame.number alone.0.number i || none_home frame rest alone.1 i)

pub each_is_home : (frames : List Kept) → AreOnce (lives frames)
    → AllByRecursion (λ (kept : Kept). is_home (boards_of frames) kept.live.number ≡ is_some kept.board) frames
each_is_home [] once = tt
each_is_home (first ∷ rest) once = (
  home-append (held_of first) (boards_of rest) first.live.number
      ∙ ((λ i. home_itself first.live first.board i || none_home first.live rest (alone_kept first.live rest once.0) i) ∙ or_false (is_some first.board)),
  each_both (λ (kept : Kept). Apart first.live kept.live) (λ (kept : Kept). is_home (boards_of rest) kept.live.number ≡ is_some kept.board)
      (λ (kept : Kept). is_home (boards_of (first ∷ rest)) kept.live.number ≡ is_some kept.board) rest
      (λ kept apart home.
      home-append (held_of first) (boards_of rest) kept.live.number
      ∙ (ap (λ (b : Bool). b || is_home (boards_of rest) kept.live.number)
      (not_home first.live first.board kept.live.number (apart_numbers first.live.number kept.live.number apart.number)) ∙ home))
      (alone_kept first.live rest once.0) (each_is_home rest once.1),
)

-- ---- the board of a frame goes out or comes home

others-append : (number : ℕ) (one two : List Held) → of_other_texts number (one ++ two) ≡ of_other_texts number one ++ of_other_texts number two
others-append number one two = filter-append (λ (held : Held). not (nat_eq number held.number)) one two

dropped : (frame : Live) (board : Option Shown) (number : ℕ) → frame.number ≡ number → of_other_texts number (held_by frame board) ≡ []
dropped frame None number same = refl
dropped frame (Some board) number same = rw (eq-eqb number frame.number (sym same)) refl

kept_apart : (frame : Live) (board : Option Shown) (number : ℕ) → nat_eq number frame.number ≡ false
    → of_other_texts number (held_by frame board) ≡ held_by frame board
kept_apart frame None number apart = refl
kept_apart frame (Some board) number apart = rw apart refl

all_apart : (frame : Live) (rest : List Kept) → AloneKept frame rest → of_other_texts frame.number (boards_of rest) ≡ boards_of rest
all_apart frame [] alone = refl
all_apart frame (kept ∷ rest) alone =
    others-append frame.number (held_of kept) (boards_of rest)
    ∙ (λ i. kept_apart kept.live kept.board frame.number alone.0.number i ++ all_apart frame rest alone.1 i)

some_is : (one two : Kept) → Some one ≡ Some two → one ≡ two
some_is one two same = cc

-- the boards of other texts stay

others_at : (name : List ℕ) (change : Kept → Kept) (first kept : Kept) (rest : List Kept) (b : Bool)
    → ((one : Kept) → (change one).live.number ≡ one.live.number)
    → (find_kept name rest ≡ Some kept → of_other_texts kept.live.number (boards_of (updated name change rest)) ≡ of_other_texts kept.live.number (boards_of rest))
    → cond b (Some first) (find_kept name rest) ≡ Some kept
    → of_other_texts kept.live.number (boards_of (cond b (change first ∷ rest) (first ∷ updated name change rest)))
    ≡ of_other_texts kept.live.number (boards_of (first ∷ rest))
others_at name change first kept rest true same ih e =
    let is : first ≡ kept = some_is first kept e in
    let number : first.live.number ≡ kept.live.number = ap (λ (one : Kept). one.live.number) is in
    others-append kept.live.number (held_of (change first)) (boards_of rest)
    ∙ (ap (λ (w : List Held). w ++ of_other_texts kept.live.number (boards_of rest))
    (dropped (change first).live (change first).board kept.live.number (same first ∙ number)
    ∙ sym (dropped first.live first.board kept.live.number number))
    ∙ sym (others-append kept.live.number (held_of first) (boards_of rest)))
others_at name change first kept rest false same ih e =
    others-append kept.live.number (held_of first) (boards_of (updated name change rest))
    ∙ (ap (λ (w : List Held). of_other_texts kept.live.number (held_of first) ++ w) (ih e)
    ∙ sym (others-append kept.live.number (held_of first) (boards_of rest)))

pub others_stay : (name : List ℕ) (change : Kept → Kept) (frames : List Kept) (kept : Kept)
    → ((one : Kept) → (change one).live.number ≡ one.live.number) → find_kept name frames ≡ Some kept
    → of_other_texts kept.live.number (boards_of (updated name change frames)) ≡ of_other_texts kept.live.number (boards_of frames)
others_stay name change [] kept same e = refl
others_stay name change (first ∷ rest) kept same e =
    others_at name change first kept rest (has_name name first) same (others_stay name change rest kept same) e

-- and the board that came home is found

find_past : (frame : Live) (board : Option Shown) (rest : List Held) (number : ℕ) → nat_eq number frame.number ≡ false
    → home_of number (held_by frame board ++ rest) ≡ home_of number rest
find_past frame None rest number apart = refl
find_past frame (Some board) rest number apart = rw apart refl

found_held : (frame : Live) (board : Shown) (rest : List Held) (number : ℕ) → frame.number ≡ number
    → home_of number (held_by frame (Some board) ++ rest) ≡ Some (record { name = frame.name; number = frame.number; board = board })
found_held frame board rest number same = rw (eq-eqb number frame.number (sym same)) refl

-- a frame that has this board at home
abbrev pub holding : Kept → Shown → Held
holding kept board = record { name = kept.live.name; number = kept.live.number; board = board }

home_at : (name : List ℕ) (change : Kept → Kept) (board : Shown) (first kept : Kept) (rest : List Kept) (b : Bool)
    → ((one : Kept) → held_of (change one) ≡ holding one board ∷ [])
    → (find_kept name rest ≡ Some kept → home_of kept.live.number (boards_of (updated name change rest)) ≡ Some (holding kept board))
    → AloneKept first.live rest → cond b (Some first) (find_kept name rest) ≡ Some kept
    → home_of kept.live.number (boards_of (cond b (change first ∷ rest) (first ∷ updated name change rest))) ≡ Some (holding kept board)
home_at name change board first kept rest true held ih alone e =
    let is : first ≡ kept = some_is first kept e in
    let number : first.live.number ≡ kept.live.number = ap (λ (one : Kept). one.live.number) is in
    ap (λ (w : List Held). home_of kept.live.number (w ++ boards_of rest)) (held first)
    ∙ (found_held first.live board (boards_of rest) kept.live.number number ∙ ap {B = Option Held} (λ (one : Kept). Some (holding one board)) is)
home_at name change board first kept rest false held ih alone e =
    let apart : Apart first.live kept.live =
    each_found (λ (one : Kept). Apart first.live one.live) (has_name name) rest kept alone e in
    find_past first.live first.board (boards_of (updated name change rest)) kept.live.number
    (apart_numbers first.live.number kept.live.number apart.number) ∙ ih e

pub home_found : (name : List ℕ) (change : Kept → Kept) (board : Shown) (frames : List Kept) (kept : Kept)
    → ((one : Kept) → held_of (change one) ≡ holding one board ∷ []) → AreOnce (lives frames) → find_kept name frames ≡ Some kept
    → home_of kept.live.number (boards_of (updated name change frames)) ≡ Some (holding kept board)
home_found name change board [] kept held once e = absurd (false≢true (ap is_some e))
home_found name change board (first ∷ rest) kept held once e =
    home_at name change board first kept rest (has_name name first) held (home_found name change board rest kept held once.1)
    (alone_kept first.live rest once.0) e

-- the board that is taken is at home, and the others are what is left

was_at : (name : List ℕ) (board : Shown) (first kept : Kept) (rest : List Kept) (b : Bool) → kept.board ≡ Some board
    → (find_kept name rest ≡ Some kept → home_of kept.live.number (boards_of rest) ≡ Some (holding kept board))
    → AloneKept first.live rest → cond b (Some first) (find_kept name rest) ≡ Some kept
    → home_of kept.live.number (held_of first ++ boards_of rest) ≡ Some (holding kept board)
was_at name board first kept rest true has ih alone e =
    let is : first ≡ kept = some_is first kept e in
    let number : first.live.number ≡ kept.live.number = ap (λ (one : Kept). one.live.number) is in
    ap (λ (o : Option Shown). home_of kept.live.number (held_by first.live o ++ boards_of rest))
    (ap (λ (one : Kept). one.board) is ∙ has)
    ∙ (found_held first.live board (boards_of rest) kept.live.number number ∙ ap {B = Option Held} (λ (one : Kept). Some (holding one board)) is)
was_at name board first kept rest false has ih alone e =
    let apart : Apart first.live kept.live =
    each_found (λ (one : Kept). Apart first.live one.live) (has_name name) rest kept alone e in
    find_past first.live first.board (boards_of rest) kept.live.number (apart_numbers first.live.number kept.live.number apart.number) ∙ ih e

pub was_home : (name : List ℕ) (board : Shown) (frames : List Kept) (kept : Kept) → AreOnce (lives frames)
    → find_kept name frames ≡ Some kept → kept.board ≡ Some board
    → home_of kept.live.number (boards_of frames) ≡ Some (holding kept board)
was_home name board [] kept once e has = absurd (false≢true (ap is_some e))
was_home name board (first ∷ rest) kept once e has =
    was_at name board first kept rest (has_name name first) has (λ found. was_home name board rest kept once.1 found has)
    (alone_kept first.live rest once.0) e

left_at : (name : List ℕ) (first kept : Kept) (rest : List Kept) (b : Bool)
    → (find_kept name rest ≡ Some kept → boards_of (updated name without_board rest) ≡ of_other_texts kept.live.number (boards_of rest))
    → AloneKept first.live rest → cond b (Some first) (find_kept name rest) ≡ Some kept
    → boards_of (cond b (without_board first ∷ rest) (first ∷ updated name without_board rest))
    ≡ of_other_texts kept.live.number (held_of first ++ boards_of rest)
left_at name first kept rest true ih alone e =
    let is : first ≡ kept = some_is first kept e in
    let number : first.live.number ≡ kept.live.number = ap (λ (one : Kept). one.live.number) is in
    sym
    (others-append kept.live.number (held_of first) (boards_of rest)
    ∙ (ap (λ (w : List Held). w ++ of_other_texts kept.live.number (boards_of rest)) (dropped first.live first.board kept.live.number number)
    ∙ (ap (λ (n : ℕ). of_other_texts n (boards_of rest)) (sym number) ∙ all_apart first.live rest alone)))
left_at name first kept rest false ih alone e =
    let apart : Apart first.live kept.live =
    each_found (λ (one : Kept). Apart first.live one.live) (has_name name) rest kept alone e in
    ap (λ (w : List Held). held_of first ++ w) (ih e)
    ∙ sym
    (others-append kept.live.number (held_of first) (boards_of rest)
    ∙ ap (λ (w : List Held). w ++ of_other_texts kept.live.number (boards_of rest))
    (kept_apart first.live first.board kept.live.number (apart_numbers first.live.number kept.live.number apart.number)))

pub others_left : (name : List ℕ) (frames : List Kept) (kept : Kept) → AreOnce (lives frames) → find_kept name frames ≡ Some kept
    → boards_of (updated name without_board frames) ≡ of_other_texts kept.live.number (boards_of frames)
others_left name [] kept once e = refl
others_left name (first ∷ rest) kept once e =
    left_at name first kept rest (has_name name first) (others_left name rest kept once.1) (alone_kept first.live rest once.0) e

-- ---- frames that are left out, and one more

others_of : (name : List ℕ) (one two : List Held) → of_others name (one ++ two) ≡ of_others name one ++ of_others name two
others_of name one two = filter-append (λ (held : Held). not (text_eq name held.name)) one two

held_out : (name : List ℕ) (frame : Live) (board : Option Shown) (b : Bool) → text_eq name frame.name ≡ b
    → of_others name (held_by frame board) ≡ cond (not b) (held_by frame board) []
held_out name frame None true e = refl
held_out name frame None false e = refl
held_out name frame (Some board) true e = rw e refl
held_out name frame (Some board) false e = rw e refl

without_at : (name : List ℕ) (first : Kept) (rest : List Kept) (b : Bool) → has_name name first ≡ b
    → boards_of (without_kept name rest) ≡ of_others name (boards_of rest)
    → boards_of (cond (not b) (first ∷ without_kept name rest) (without_kept name rest)) ≡ of_others name (held_of first ++ boards_of rest)
without_at name first rest true e ih =
    ih ∙ sym (others_of name (held_of first) (boards_of rest) ∙ ap (λ (w : List Held). w ++ of_others name (boards_of rest)) (held_out name first.live first.board true e))
without_at name first rest false e ih =
    ap (λ (w : List Held). held_of first ++ w) ih
    ∙ sym (others_of name (held_of first) (boards_of rest) ∙ ap (λ (w : List Held). w ++ of_others name (boards_of rest)) (held_out name first.live first.board false e))

pub boards_without : (name : List ℕ) (frames : List Kept) → boards_of (without_kept name frames) ≡ of_others name (boards_of frames)
boards_without name [] = refl
boards_without name (first ∷ rest) = without_at name first rest (has_name name first) refl (boards_without name rest)

pub boards_end : (frames : List Kept) (kept : Kept) → boards_of (frames ++ kept ∷ []) ≡ boards_of frames ++ held_of kept
boards_end frames kept = flat_map-append held_of frames (kept ∷ []) ∙ ap (λ (w : List Held). boards_of frames ++ w) (nothing_more (held_of kept))
  where
    nothing_more : (xs : List Held) → xs ++ [] ≡ xs
    nothing_more [] = refl
    nothing_more (x ∷ xs) = ap (λ (w : List Held). x ∷ w) (nothing_more xs)
