-- The first of some frames is one of them, and none of them stands before it.
use Rattle.std.proofs.Common.{◌≡◌, refl, sym, ap, ◌∙◌, subst, List, [], ◌∷◌, Bool, true, false, not, cond, Option, Some, None}
use Rattle.std.proofs.lemmas.Bool.{and_from, and_parts, false≢true}
use Rattle.std.proofs.lemmas.Cmp.{lists_total, nat_cmp_total, on_total, then_total, tied_itself}
use Rattle.std.specs.Cmp.{IsTotalOrder}
use Rattle.std.specs.Cmp.Lexicographic.{options_total}
use Rattle.std.specs.List.{fold, list_all}
use Rattle.std.specs.Ordering.{is_lt}
use Rattle.std.specs.declared.cmp.Ordering.{Ordering}
use Rattle.std.specs.declared.cmp.Ordering.TheVariants.{Less, Equal, Greater}
use Rattle.def_histories.specs.declared.live.Live.{Live}
use Rattle.def_turns.specs.Turns.{first, first_of, is_before, turn_cmp, waiting}
use Rattle.def_turns.specs.TurnLaws.{NextIsFirst, NobodyWaits}

turn_total : IsTotalOrder turn_cmp
turn_total =
    then_total (on_total (λ (frame : Live). frame.published) (options_total nat_cmp_total))
    (on_total (λ (frame : Live). frame.name) (lists_total nat_cmp_total))

less : (r : Ordering) → is_lt r ≡ true → r ≡ Less
less Less e = refl
less Equal e = absurd (false≢true e)
less Greater e = absurd (false≢true e)

not_itself : (frame : Live) → is_before frame frame ≡ false
not_itself frame = ap is_lt (tied_itself turn_total frame)

stays_behind : (other best frame : Live) → is_before other best ≡ false → is_before frame best ≡ true → is_before other frame ≡ false
stays_behind other best frame behind ahead = go (is_before other frame) refl
  where
    go : (c : Bool) → is_before other frame ≡ c → c ≡ false
    go false e = refl
    go true e =
        absurd
        (false≢true
        (sym behind ∙ ap is_lt (turn_total.trans other frame best (less (turn_cmp other frame) e) (less (turn_cmp frame best) ahead))))

abbrev passes : (Live → Bool) → Option Live → Bool
passes test None = true
passes test (Some frame) = test frame

-- what holds of each holds of the first

abbrev chosen : (Live → Bool) → Live → Live → Bool → Bool
chosen test best frame ahead = passes test (cond ahead (Some frame) (Some best))

chosen_passes : (test : Live → Bool) (best frame : Live) (ahead : Bool) → test best ≡ true → test frame ≡ true → chosen test best frame ahead ≡ true
chosen_passes test best frame true a b = b
chosen_passes test best frame false a b = a

step_passes : (test : Live → Bool) (best : Option Live) (frame : Live) → passes test best ≡ true → test frame ≡ true → passes test (first_of best frame) ≡ true
step_passes test None frame a b = b
step_passes test (Some best) frame a b = chosen_passes test best frame (is_before frame best) a b

fold_passes : (test : Live → Bool) (best : Option Live) (frames : List Live) → passes test best ≡ true → list_all test frames ≡ true
    → passes test (fold first_of best frames) ≡ true
fold_passes test best [] a b = a
fold_passes test best (frame ∷ rest) a b =
    let parts = and_parts (test frame) (list_all test rest) b in
    fold_passes test (first_of best frame) rest (step_passes test best frame a parts.0) parts.1

-- none stands before the first

abbrev behind : Live → Option Live → Bool
behind other None = true
behind other (Some best) = not (is_before other best)

not_ahead : (b : Bool) → not b ≡ true → b ≡ false
not_ahead true e = absurd (false≢true e)
not_ahead false e = refl

kept_behind : (other best frame : Live) (ahead : Bool) → is_before frame best ≡ ahead → not (is_before other best) ≡ true
    → behind other (cond ahead (Some frame) (Some best)) ≡ true
kept_behind other best frame true e a = ap not (stays_behind other best frame (not_ahead (is_before other best) a) e)
kept_behind other best frame false e a = a

fold_behind : (other best : Live) (frames : List Live) → not (is_before other best) ≡ true → behind other (fold first_of (Some best) frames) ≡ true
fold_behind other best [] a = a
fold_behind other best (frame ∷ rest) a = go (is_before frame best) refl (λ next at_next. fold_behind other next rest at_next)
  where
    go : (ahead : Bool) → is_before frame best ≡ ahead
        → ((next : Live) → not (is_before other next) ≡ true → behind other (fold first_of (Some next) rest) ≡ true)
        → behind other (fold first_of (cond ahead (Some frame) (Some best)) rest) ≡ true
    go true e on = on frame (kept_behind other best frame true e a)
    go false e on = on best a

-- the one that was looked at last
last_behind : (best : Option Live) (frame : Live) (rest : List Live) → behind frame (fold first_of (first_of best frame) rest) ≡ true
last_behind None frame rest = fold_behind frame frame rest (ap not (not_itself frame))
last_behind (Some best) frame rest = go (is_before frame best) refl
  where
    go : (ahead : Bool) → is_before frame best ≡ ahead → behind frame (fold first_of (cond ahead (Some frame) (Some best)) rest) ≡ true
    go true e = fold_behind frame frame rest (ap not (not_itself frame))
    go false e = fold_behind frame best rest (ap not e)

all_behind : (best : Option Live) (frames : List Live) → list_all (λ other. behind other (fold first_of best frames)) frames ≡ true
all_behind best [] = refl
all_behind best (frame ∷ rest) =
    and_from (behind frame (fold first_of (first_of best frame) rest)) (list_all (λ other. behind other (fold first_of (first_of best frame) rest)) rest)
    (last_behind best frame rest)
    (all_behind (first_of best frame) rest)

pub next_is_first : NextIsFirst
next_is_first away history frame e = (
  λ test all. subst (λ found. passes test found ≡ true) e (fold_passes test None (waiting away history) refl all),
  subst (λ found. list_all (λ other. behind other found) (waiting away history) ≡ true) e (all_behind None (waiting away history)),
)

-- ---- none

abbrev is_there : Option Live → Bool
is_there None = false
is_there (Some frame) = true

chosen_there : (best frame : Live) (ahead : Bool) → is_there (cond ahead (Some frame) (Some best)) ≡ true
chosen_there best frame true = refl
chosen_there best frame false = refl

step_there : (best : Option Live) (frame : Live) → is_there (first_of best frame) ≡ true
step_there None frame = refl
step_there (Some best) frame = chosen_there best frame (is_before frame best)

fold_there : (best : Option Live) (frames : List Live) → is_there best ≡ true → is_there (fold first_of best frames) ≡ true
fold_there best [] a = a
fold_there best (frame ∷ rest) a = fold_there (first_of best frame) rest (step_there best frame)

none_first : (frames : List Live) → first frames ≡ None → frames ≡ []
none_first [] e = refl
none_first (frame ∷ rest) e = absurd (false≢true (sym (ap is_there e) ∙ fold_there (Some frame) rest refl))

pub nobody_waits : NobodyWaits
nobody_waits away history = (λ e. ap first e, λ e. none_first (waiting away history) e)
