-- The texts whose boards are away are live.
use Rattle.std.proofs.Common.{◌≡◌, refl, ap, ℕ, nat_eq, List, [], ◌∷◌, Bool, true, false, not, cond, ◌||◌}
use Rattle.std.proofs.lemmas.Bool.{eq-eqb}
use Rattle.std.specs.List.{filter, list_any, AllByRecursion}
use Rattle.def_histories.specs.declared.live.Live.{Live}
use Rattle.def_histories.specs.declared.operation.Operation.{Operation}
use Rattle.def_histories.specs.History.{live_frames}
use Rattle.def_turns.specs.Turns.{is_live, still_live}
use Rattle.lf_core.specs.Held.{Held, away_from, is_home, numbers}

-- some live frame has the number
abbrev has_number : ℕ → List Live → Bool
has_number number frames = list_any (λ (frame : Live). nat_eq frame.number number) frames

or_true : (a b : Bool) → b ≡ true → (a || b) ≡ true
or_true true b e = refl
or_true false b e = e

has_more :
    (one : Live) (some others : List Live) →
    AllByRecursion (λ (frame : Live). has_number frame.number others ≡ true) some
    → AllByRecursion (λ (frame : Live). has_number frame.number (one ∷ others) ≡ true) some
has_more one [] others all = tt
has_more one (frame ∷ rest) others all = (
  or_true (nat_eq one.number frame.number) (has_number frame.number others) all.0,
  has_more one rest others all.1,
)

each_has_number :
    (frames : List Live) →
    AllByRecursion (λ (frame : Live). has_number frame.number frames ≡ true) frames
each_has_number [] = tt
each_has_number (frame ∷ rest) = (
  ap (λ (b : Bool). b || has_number frame.number rest) (eq-eqb frame.number frame.number refl),
  has_more frame rest rest (each_has_number rest),
)

kept_first :
    (p q : ℕ → Bool) (n : ℕ) (ns : List ℕ) (b : Bool) → p n ≡ true →
    filter p (filter q ns) ≡ filter q ns
    → filter p (cond b (n ∷ filter q ns) (filter q ns)) ≡ cond b (n ∷ filter q ns) (filter q ns)
kept_first p q n ns true e ih = rw e (ap (λ (w : List ℕ). n ∷ w) ih)
kept_first p q n ns false e ih = ih

kept_all :
    (p q : ℕ → Bool) (frames : List Live) →
    AllByRecursion (λ (frame : Live). p frame.number ≡ true) frames
    → filter p (filter q (numbers frames)) ≡ filter q (numbers frames)
kept_all p q [] all = refl
kept_all p q (frame ∷ rest) all =
    kept_first p q frame.number (numbers rest) (q frame.number) all.0 (kept_all p q rest all.1)

pub live_away :
    (history : List Operation) (boards : List Held) →
    still_live history (away_from history boards) ≡ away_from history boards
live_away history boards =
    kept_all (is_live history) (λ number. not (is_home boards number)) (live_frames history)
    (each_has_number (live_frames history))
