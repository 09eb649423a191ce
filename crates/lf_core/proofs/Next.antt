-- The frame whose turn is next, among the frames of a state.
use Rattle.std.proofs.Common.{◌≡◌, refl, sym, ◌∙◌, ap, subst, ℕ, nat_eq, List, [], ◌∷◌, Bool, true, false, not, cond, ◌&&◌, ◌||◌, Option, Some, None, is_some}
use Rattle.std.proofs.lemmas.Bool.{eq-eqb, and_parts}
use Rattle.std.specs.List.{filter, fold, list_any, AllByRecursion}
use Rattle.std.specs.Option.{option_map}
use Rattle.def_histories.specs.declared.live.Live.{Live}
use Rattle.def_histories.specs.declared.operation.Operation.{Operation}
use Rattle.def_histories.specs.History.{commits, live_frames}
use Rattle.def_turns.specs.Turns.{first, first_of, is_before, is_older, next_frame, waits}
use Rattle.lf_core.specs.declared.frames.Kept.{Kept}
use Rattle.lf_core.specs.Kept.{better_kept, find_kept, first_kept, live_of, lives, next_kept, waits_home}
use Rattle.lf_core.specs.Held.{Held, away_from, boards_of, is_home, numbers}
use Rattle.lf_core.proofs.Boards.{each_is_found, each_is_home}
use Rattle.lf_core.proofs.Each.{any_filtered, each_both, each_given, each_of_map}
use Rattle.lf_core.proofs.Once.{AreOnce, live_once}

-- ---- a test of kept frames that agrees with one of live frames

fold_at : (newest : ℕ) (p : Live → Bool) (best : Option Kept) (kept : Kept) (rest : List Kept) (b : Bool) → p kept.live ≡ b
    → ((other : Option Kept) → option_map live_of (fold (better_kept newest) other rest) ≡ fold first_of (option_map live_of other) (filter p (lives rest)))
    → option_map live_of (fold (better_kept newest) (cond b (first_kept best kept) best) rest)
    ≡ fold first_of (option_map live_of best) (cond b (kept.live ∷ filter p (lives rest)) (filter p (lives rest)))
fold_at newest p best kept rest true e ih =
    ih (first_kept best kept) ∙ ap (λ (o : Option Live). fold first_of o (filter p (lives rest))) (first_lives best)
  where
    chosen : (other : Kept) (ahead : Bool) → option_map live_of (cond ahead (Some kept) (Some other)) ≡ cond ahead (Some kept.live) (Some other.live)
    chosen other true = refl
    chosen other false = refl

    first_lives : (other : Option Kept) → option_map live_of (first_kept other kept) ≡ first_of (option_map live_of other) kept.live
    first_lives None = refl
    first_lives (Some other) = chosen other (is_before kept.live other.live)
fold_at newest p best kept rest false e ih = ih best

fold_lives : (newest : ℕ) (p : Live → Bool) (best : Option Kept) (frames : List Kept)
    → AllByRecursion (λ (kept : Kept). waits_home newest kept ≡ p kept.live) frames
    → option_map live_of (fold (better_kept newest) best frames) ≡ fold first_of (option_map live_of best) (filter p (lives frames))
fold_lives newest p best [] all = refl
fold_lives newest p best (kept ∷ rest) all =
    ap (λ (b : Bool). option_map live_of (fold (better_kept newest) (cond b (first_kept best kept) best) rest)) all.0
    ∙ fold_at newest p best kept rest (p kept.live) refl (λ other. fold_lives newest p other rest all.1)

-- ---- a frame waits at home where it waits by the texts that are away

itself : (n : ℕ) → nat_eq n n ≡ true
itself n = eq-eqb n n refl

or_true : (a b : Bool) → b ≡ true → (a || b) ≡ true
or_true true b e = refl
or_true false b e = e

pub each_is_numbered : (frames : List Live) → AllByRecursion (λ (frame : Live). list_any (nat_eq frame.number) (numbers frames) ≡ true) frames
each_is_numbered [] = tt
each_is_numbered (frame ∷ rest) = (
  ap (λ (b : Bool). b || list_any (nat_eq frame.number) (numbers rest)) (itself frame.number),
  each_given (λ (other : Live). list_any (nat_eq other.number) (numbers rest) ≡ true)
      (λ (other : Live). (nat_eq other.number frame.number || list_any (nat_eq other.number) (numbers rest)) ≡ true) rest
      (λ other e. or_true (nat_eq other.number frame.number) (list_any (nat_eq other.number) (numbers rest)) e) (each_is_numbered rest),
)

swapped : (home older : Bool) → (home && older) ≡ (older && not (true && not home))
swapped true true = refl
swapped true false = refl
swapped false true = refl
swapped false false = refl

waits_at : (newest : ℕ) (frames : List Live) (boards : List Held) (kept : Kept) → list_any (nat_eq kept.live.number) (numbers frames) ≡ true
    → is_home boards kept.live.number ≡ is_some kept.board
    → waits_home newest kept
    ≡ waits (filter (λ number. not (is_home boards number)) (numbers frames)) newest kept.live
waits_at newest frames boards kept numbered home =
    swapped (is_some kept.board) (is_older newest kept.live.published)
    ∙ ap (λ (b : Bool). is_older newest kept.live.published && not b)
    (sym
    (any_filtered kept.live.number (λ number. not (is_home boards number)) (numbers frames)
    ∙ (λ i. numbered i && not (home i))))

each_waits : (newest : ℕ) (frames : List Kept) → AreOnce (lives frames)
    → AllByRecursion
    (λ (kept : Kept). waits_home newest kept
    ≡ waits (filter (λ number. not (is_home (boards_of frames) number)) (numbers (lives frames))) newest kept.live) frames
each_waits newest frames once =
    each_both (λ (kept : Kept). list_any (nat_eq kept.live.number) (numbers (lives frames)) ≡ true)
    (λ (kept : Kept). is_home (boards_of frames) kept.live.number ≡ is_some kept.board)
    (λ (kept : Kept). waits_home newest kept
    ≡ waits (filter (λ number. not (is_home (boards_of frames) number)) (numbers (lives frames))) newest kept.live) frames
    (λ kept numbered home. waits_at newest (lives frames) (boards_of frames) kept numbered home)
    (each_of_map (λ (frame : Live). list_any (nat_eq frame.number) (numbers (lives frames)) ≡ true) live_of frames (each_is_numbered (lives frames)))
    (each_is_home frames once)

-- the frame whose turn is next is that of the history
pub next_is : (history : List Operation) (frames : List Kept) (newest : ℕ) → lives frames ≡ live_frames history → newest ≡ commits history
    → next_frame (away_from history (boards_of frames)) history ≡ option_map live_of (next_kept newest frames)
next_is history frames newest same counted =
    sym
    (fold_lives newest (waits (filter (λ number. not (is_home (boards_of frames) number)) (numbers (lives frames))) newest) None frames
    (each_waits newest frames (subst AreOnce (sym same) (live_once history)))
    ∙ (λ i. first (filter (waits (filter (λ number. not (is_home (boards_of frames) number)) (numbers (same i))) (counted i)) (same i))))

-- ---- what holds of the frames that wait holds of the one whose turn is next

HoldsOf : (Kept → Type 0) → Option Kept → Type 0
HoldsOf R None = Unit {0}
HoldsOf R (Some kept) = R kept

holds_first : (R : Kept → Type 0) (best : Option Kept) (kept : Kept) → HoldsOf R best → R kept → HoldsOf R (first_kept best kept)
unfolding HoldsOf
holds_first R None kept before is = is
holds_first R (Some best) kept before is = by (is_before kept.live best.live)
  where
    by : (ahead : Bool) → HoldsOf R (cond ahead (Some kept) (Some best))
    by true = is
    by false = before

holds_at : (R : Kept → Type 0) (best : Option Kept) (kept : Kept) (b : Bool) → (b ≡ true → R kept) → HoldsOf R best
    → HoldsOf R (cond b (first_kept best kept) best)
holds_at R best kept true is before = holds_first R best kept before (is refl)
holds_at R best kept false is before = before

holds_fold : (R : Kept → Type 0) (newest : ℕ) (best : Option Kept) (frames : List Kept) → HoldsOf R best
    → AllByRecursion (λ (kept : Kept). waits_home newest kept ≡ true → R kept) frames → HoldsOf R (fold (better_kept newest) best frames)
holds_fold R newest best [] before all = before
holds_fold R newest best (kept ∷ rest) before all =
    holds_fold R newest (better_kept newest best kept) rest (holds_at R best kept (waits_home newest kept) all.0 before) all.1

holds_next : (R : Kept → Type 0) (newest : ℕ) (frames : List Kept) (kept : Kept)
    → AllByRecursion (λ (one : Kept). waits_home newest one ≡ true → R one) frames → next_kept newest frames ≡ Some kept → R kept
unfolding HoldsOf
holds_next R newest frames kept all e = subst (HoldsOf R) e (holds_fold R newest None frames tt all)

each_here : (frames : List Kept) (newest : ℕ) → AllByRecursion (λ (one : Kept). waits_home newest one ≡ true → is_some one.board ≡ true) frames
each_here [] newest = tt
each_here (kept ∷ rest) newest =
    (λ e. (and_parts (is_some kept.board) _ e).0, each_here rest newest)

-- it has its board at home, and is found by its name
pub next_has_board : (newest : ℕ) (frames : List Kept) (kept : Kept) → next_kept newest frames ≡ Some kept → is_some kept.board ≡ true
next_has_board newest frames kept e = holds_next (λ one. is_some one.board ≡ true) newest frames kept (each_here frames newest) e

pub next_is_found : (newest : ℕ) (frames : List Kept) (kept : Kept) → AreOnce (lives frames) → next_kept newest frames ≡ Some kept
    → find_kept kept.live.name frames ≡ Some kept
next_is_found newest frames kept once e =
    holds_next (λ one. find_kept one.live.name frames ≡ Some one) newest frames kept
    (each_given (λ (one : Kept). find_kept one.live.name frames ≡ Some one)
    (λ (one : Kept). waits_home newest one ≡ true → find_kept one.live.name frames ≡ Some one) frames (λ one found waits. found) (each_is_found frames once)) e
