-- The texts whose boards are away, over the calls of a state.
use Rattle.std.proofs.Common.{◌≡◌, refl, sym, ◌∙◌, ap, subst, suc, ◌≤◌, ℕ, nat_eq, List, [], ◌∷◌, ◌++◌, map, Bool, true, false, not, cond, ◌&&◌, ◌||◌, Option, Some, is_some, arith}
use Rattle.std.proofs.lemmas.Bool.{eq-eqb, eqb-true, false≢true}
use Rattle.std.proofs.lemmas.List.{append-nil, map-append}
use Rattle.std.proofs.lemmas.List.Elements.{filter-append}
use Rattle.std.proofs.lemmas.List.Folds.{list_any-append}
use Rattle.std.specs.List.{filter, find, list_any, AllByRecursion}
use Rattle.lf_rdf.specs.Equality.{text_eq}
use Rattle.def_histories.specs.declared.live.Live.{Live}
use Rattle.def_histories.specs.declared.operation.Operation.{Operation}
use Rattle.def_histories.specs.declared.operation.Operation.TheVariants.{Register, Retire, Publish}
use Rattle.def_histories.specs.History.{live, live_frames, publish, registered, registrations, without}
use Rattle.def_histories.specs.Jobs.{IsRegistered}
use Rattle.def_histories.proofs.JobProofs.{text_numbers_are_one}
use Rattle.def_histories.proofs.LiveProofs.{live_frames_step}
use Rattle.def_turns.specs.declared.turned.Given.TheVariants.{IsSuperseded}
use Rattle.def_turns.specs.Turns.{given_to, home_or_published, kind_of, still_live}
use Rattle.lf_desk.specs.Rotas.{back}
use Rattle.lf_desk.proofs.Found.{found_named}
use Rattle.lf_board.specs.Boards as shown
use Rattle.lf_core.specs.AwayLaws.{live_away}
use Rattle.lf_core.specs.Held.{AreHeld, Held, away_from, is_home, numbers, of_other_texts, of_others}
use Rattle.lf_core.specs.Taken.{FitsHistory, HasHome, Taken, given_job, held_job, home_of}
use Rattle.lf_core.proofs.Each.{any_filtered, each_both, each_found, each_left, each_map, filter_of_map, filter_twice, same_filter}
use Rattle.lf_core.proofs.Giving.{home_isnt_superseded}
use Rattle.lf_core.proofs.Next.{each_is_numbered}
use Rattle.lf_core.proofs.Once.{Apart, AreOnce, IsAlone, apart_numbers, each_is_live, live_counted, live_once, live_registered, live_text_is, published_number}

itself : (n : ℕ) → nat_eq n n ≡ true
itself n = eq-eqb n n refl

turned_round : (one two : ℕ) → nat_eq one two ≡ nat_eq two one
turned_round one two = by (nat_eq one two) refl
  where
    by : (b : Bool) → nat_eq one two ≡ b → b ≡ nat_eq two one
    by true e = sym (eq-eqb two one (sym (eqb-true one two e)))
    by false e = sym (apart_numbers one two e)

or_true : (a b : Bool) → b ≡ true → (a || b) ≡ true
or_true true b e = refl
or_true false b e = e

and_true : (a b : Bool) → b ≡ true → (a && b) ≡ a
and_true true b e = e
and_true false b e = refl

-- an entry that leaves the numbers of live texts leaves what is away
pub away_stays : (history later : List Operation) (boards : List Held) → numbers (live_frames later) ≡ numbers (live_frames history)
    → away_from later boards ≡ still_live later (away_from history boards)
away_stays history later boards same =
    sym (live_away later boards) ∙ ap (still_live later) (ap (filter (λ number. not (is_home boards number))) same)

-- ---- a registration and a retirement

home-append : (one two : List Held) (number : ℕ) → is_home (one ++ two) number ≡ (is_home one number || is_home two number)
home-append one two number = list_any-append (λ (held : Held). nat_eq number held.number) one two

-- a board with the number of a live text has its name
held_name : (history : List Operation) (held : Held) (frame one : Live) → live history held.name ≡ Some one → held.number ≡ one.number
    → IsRegistered history frame.number frame.name frame.text → frame.number ≡ held.number → held.name ≡ frame.name
held_name history held frame one is_live numbered registered_as same =
    sym (found_named held.name (live_frames history) one is_live)
    ∙ (live_text_is history held.name one frame.number frame.name frame.text is_live (same ∙ numbered) registered_as).0

others_at : (name : List ℕ) (number : ℕ) (held : Held) (rest : List Held) (b c : Bool) → nat_eq number held.number ≡ b → (b ≡ true → c ≡ false)
    → is_home (of_others name rest) number ≡ is_home rest number
    → is_home (cond (not c) (held ∷ of_others name rest) (of_others name rest)) number ≡ (b || is_home rest number)
others_at name number held rest b false e kept ih = λ i. e i || ih i
others_at name number held rest true true e kept ih = absurd (false≢true (sym (kept refl)))
others_at name number held rest false true e kept ih = ih

pub others_home : (history : List Operation) (name : List ℕ) (frame : Live) (boards : List Held) → AreHeld history boards
    → IsRegistered history frame.number frame.name frame.text → text_eq name frame.name ≡ false
    → is_home (of_others name boards) frame.number ≡ is_home boards frame.number
others_home history name frame [] all registered_as apart = refl
others_home history name frame (held ∷ rest) all registered_as apart =
    others_at name frame.number held rest (nat_eq frame.number held.number) (text_eq name held.name) refl
    (λ same. ap (text_eq name) (held_name history held frame all.0.frame all.0.live all.0.number registered_as (eqb-true frame.number held.number same)) ∙ apart)
    (others_home history name frame rest all.1 registered_as apart)

-- whether a live number is left, when the frame of a name goes

none_number : (frame : Live) (frames : List Live) → IsAlone frame frames → list_any (λ (other : Live). nat_eq other.number frame.number) frames ≡ false
none_number frame [] alone = refl
none_number frame (other ∷ rest) alone =
    λ i. apart_numbers frame.number other.number alone.0.number i || none_number frame rest alone.1 i

alone_left : (name : List ℕ) (frame : Live) (frames : List Live) → IsAlone frame frames → IsAlone frame (without name frames)
alone_left name frame frames alone = each_left (Apart frame) (λ (other : Live). not (text_eq name other.name)) frames alone

left_here : (name : List ℕ) (frame : Live) (rest : List Live) (b : Bool) → IsAlone frame rest
    → list_any (λ (other : Live). nat_eq other.number frame.number) (cond (not b) (frame ∷ without name rest) (without name rest)) ≡ not b
left_here name frame rest true alone = none_number frame (without name rest) (alone_left name frame rest alone)
left_here name frame rest false alone =
    ap (λ (b : Bool). b || list_any (λ (other : Live). nat_eq other.number frame.number) (without name rest)) (itself frame.number)

left_past : (name : List ℕ) (one frame : Live) (rest : List Live) (b : Bool) → nat_eq one.number frame.number ≡ false
    → list_any (λ (other : Live). nat_eq other.number frame.number) (without name rest) ≡ not (text_eq name frame.name)
    → list_any (λ (other : Live). nat_eq other.number frame.number) (cond (not b) (one ∷ without name rest) (without name rest)) ≡ not (text_eq name frame.name)
left_past name one frame rest true apart ih = ih
left_past name one frame rest false apart ih =
    ap (λ (b : Bool). b || list_any (λ (other : Live). nat_eq other.number frame.number) (without name rest)) apart ∙ ih

each_left_number : (name : List ℕ) (frames : List Live) → AreOnce frames
    → AllByRecursion
    (λ (frame : Live). list_any (λ (other : Live). nat_eq other.number frame.number) (without name frames) ≡ not (text_eq name frame.name)) frames
each_left_number name [] once = tt
each_left_number name (one ∷ rest) once = (
  left_here name one rest (text_eq name one.name) once.0,
  each_both (Apart one)
      (λ (frame : Live). list_any (λ (other : Live). nat_eq other.number frame.number) (without name rest) ≡ not (text_eq name frame.name))
      (λ (frame : Live). list_any (λ (other : Live). nat_eq other.number frame.number) (without name (one ∷ rest)) ≡ not (text_eq name frame.name)) rest
      (λ frame apart ih. left_past name one frame rest (text_eq name one.name) apart.number ih) once.0 (each_left_number name rest once.1),
)

-- the frames that go by their names are those whose boards and numbers go
agree : (b home others_are_home left : Bool) → left ≡ not b → (b ≡ false → others_are_home ≡ home)
    → (not b && not others_are_home) ≡ (not home && left)
agree true home others_are_home left gone stay = sym (ap (λ (c : Bool). not home && c) gone ∙ and_false (not home))
  where
    and_false : (a : Bool) → (a && false) ≡ false
    and_false true = refl
    and_false false = refl
agree false home others_are_home left gone stay =
    ap not (stay refl) ∙ sym (ap (λ (c : Bool). not home && c) gone ∙ and_true (not home) true refl)

-- a filter of the frames of other names by their numbers, and one of all numbers
pub filtered_left : (name : List ℕ) (frames : List Live) (p q : ℕ → Bool)
    → AllByRecursion (λ (frame : Live). (not (text_eq name frame.name) && p frame.number) ≡ q frame.number) frames
    → filter p (numbers (without name frames)) ≡ filter q (numbers frames)
filtered_left name frames p q all =
    filter_of_map p (λ (frame : Live). frame.number) (without name frames)
    ∙ (ap numbers
    (filter_twice (λ (frame : Live). p frame.number) (λ (frame : Live). not (text_eq name frame.name)) frames
    ∙ same_filter (λ (frame : Live). not (text_eq name frame.name) && p frame.number) (λ (frame : Live). q frame.number) frames all)
    ∙ sym (filter_of_map q (λ (frame : Live). frame.number) frames))

-- a retirement
pub away_retired : (history : List Operation) (boards : List Held) (seat : ℕ) (name : List ℕ) → AreHeld history boards
    → away_from (history ++ Retire seat name ∷ []) (of_others name boards)
    ≡ still_live (history ++ Retire seat name ∷ []) (away_from history boards)
away_retired history boards seat name held =
    ap (λ (frames : List Live). filter (λ number. not (is_home (of_others name boards) number)) (numbers frames)) step
    ∙ (filtered_left name (live_frames history) (λ number. not (is_home (of_others name boards) number))
    (λ number. not (is_home boards number) && list_any (λ (other : Live). nat_eq other.number number) (without name (live_frames history)))
    (each_both (λ (frame : Live). IsRegistered history frame.number frame.name frame.text)
    (λ (frame : Live). list_any (λ (other : Live). nat_eq other.number frame.number) (without name (live_frames history)) ≡ not (text_eq name frame.name))
    (λ (frame : Live). (not (text_eq name frame.name) && not (is_home (of_others name boards) frame.number))
    ≡ (not (is_home boards frame.number) && list_any (λ (other : Live). nat_eq other.number frame.number) (without name (live_frames history))))
    (live_frames history)
    (λ frame is left.
    agree (text_eq name frame.name) (is_home boards frame.number) (is_home (of_others name boards) frame.number)
    (list_any (λ (other : Live). nat_eq other.number frame.number) (without name (live_frames history))) left
    (λ apart. others_home history name frame boards held is apart)) (live_registered history) (each_left_number name (live_frames history) (live_once history)))
    ∙ (sym
    (filter_twice (λ number. list_any (λ (other : Live). nat_eq other.number number) (without name (live_frames history)))
    (λ number. not (is_home boards number)) (numbers (live_frames history)))
    ∙ ap (λ (frames : List Live). filter (λ number. list_any (λ (other : Live). nat_eq other.number number) frames) (away_from history boards)) (sym step)))
  where
    step : live_frames (history ++ Retire seat name ∷ []) ≡ without name (live_frames history)
    step = live_frames_step history (Retire seat name)

-- ---- a registration

or_false : (a : Bool) → (a || false) ≡ a
or_false true = refl
or_false false = refl

above : (n count : ℕ) (b : Bool) → nat_eq n (suc count) ≡ b → n ≤ count → b ≡ false
above n count true e low = let same : n ≡ suc count = eqb-true n (suc count) e in absurd (omega (arith, same, low))
above n count false e low = refl

one_more : (name : List ℕ) (number : ℕ) (boards : List Held) (new : Held) → nat_eq number new.number ≡ false
    → is_home (of_others name boards ++ new ∷ []) number ≡ is_home (of_others name boards) number
one_more name number boards new apart =
    home-append (of_others name boards) (new ∷ []) number
    ∙ (ap (λ (b : Bool). is_home (of_others name boards) number || (b || false)) apart ∙ or_false (is_home (of_others name boards) number))

new_home : (name : List ℕ) (boards : List Held) (new : Held) → is_home (of_others name boards ++ new ∷ []) new.number ≡ true
new_home name boards new =
    home-append (of_others name boards) (new ∷ []) new.number
    ∙ or_true (is_home (of_others name boards) new.number) (nat_eq new.number new.number || false)
    (ap (λ (b : Bool). b || false) (itself new.number))

pub away_registered : (history : List Operation) (boards : List Held) (seat : ℕ) (name text : List ℕ) (new : Held) → AreHeld history boards
    → new.number ≡ suc (registrations history)
    → away_from (history ++ Register seat name text ∷ []) (of_others name boards ++ new ∷ [])
    ≡ still_live (history ++ Register seat name text ∷ []) (away_from history boards)
away_registered history boards seat name text new held counted =
    ap (λ (frames : List Live). filter away_now (numbers frames)) step
    ∙ (ap (filter away_now) (map-append (λ (frame : Live). frame.number) (without name (live_frames history)) (fresh ∷ []))
    ∙ (filter-append away_now (numbers (without name (live_frames history))) (fresh.number ∷ [])
    ∙ (ap (λ (w : List ℕ). filter away_now (numbers (without name (live_frames history))) ++ w) new_is_home
    ∙ (append-nil (filter away_now (numbers (without name (live_frames history))))
    ∙ (filtered_left name (live_frames history) away_now (λ number. not (is_home boards number) && left number) agreed
    ∙ (sym (filter_twice left (λ number. not (is_home boards number)) (numbers (live_frames history)))
    ∙ ap (λ (frames : List Live). filter (λ number. list_any (λ (other : Live). nat_eq other.number number) frames) (away_from history boards)) (sym step)))))))
  where
    fresh : Live
    fresh = registered name (suc (registrations history)) text

    away_now : ℕ → Bool
    away_now number = not (is_home (of_others name boards ++ new ∷ []) number)

    left : ℕ → Bool
    left number = list_any (λ (other : Live). nat_eq other.number number) (without name (live_frames history) ++ fresh ∷ [])

    step : live_frames (history ++ Register seat name text ∷ []) ≡ without name (live_frames history) ++ fresh ∷ []
    step = live_frames_step history (Register seat name text)

    new_is_home : filter away_now (fresh.number ∷ []) ≡ []
    new_is_home = rw (ap (is_home (of_others name boards ++ new ∷ [])) (sym counted) ∙ new_home name boards new) refl

    left_is : (frame : Live) → frame.number ≤ registrations history
        → list_any (λ (other : Live). nat_eq other.number frame.number) (without name (live_frames history)) ≡ not (text_eq name frame.name)
        → left frame.number ≡ not (text_eq name frame.name)
    left_is frame low e =
        list_any-append (λ (other : Live). nat_eq other.number frame.number) (without name (live_frames history)) (fresh ∷ [])
        ∙ (ap (λ (b : Bool). list_any (λ (other : Live). nat_eq other.number frame.number) (without name (live_frames history)) || (b || false))
        (apart_numbers frame.number (suc (registrations history)) (above frame.number (registrations history) (nat_eq frame.number (suc (registrations history))) refl low))
        ∙ (or_false (list_any (λ (other : Live). nat_eq other.number frame.number) (without name (live_frames history))) ∙ e))

    agreed : AllByRecursion (λ (frame : Live). (not (text_eq name frame.name) && away_now frame.number) ≡ (not (is_home boards frame.number) && left frame.number)) (live_frames history)
    agreed =
        each_both (λ (frame : Live). IsRegistered history frame.number frame.name frame.text × (frame.number ≤ registrations history))
        (λ (frame : Live). list_any (λ (other : Live). nat_eq other.number frame.number) (without name (live_frames history)) ≡ not (text_eq name frame.name))
        (λ (frame : Live). (not (text_eq name frame.name) && away_now frame.number) ≡ (not (is_home boards frame.number) && left frame.number))
        (live_frames history)
        (λ frame is e.
        agree (text_eq name frame.name) (is_home boards frame.number) (is_home (of_others name boards ++ new ∷ []) frame.number) (left frame.number)
        (left_is frame is.1 e)
        (λ apart.
        one_more name frame.number boards new (ap (nat_eq frame.number) counted ∙ above frame.number (registrations history) (nat_eq frame.number (suc (registrations history))) refl is.1)
        ∙ others_home history name frame boards held is.0 apart))
        (each_both (λ (frame : Live). IsRegistered history frame.number frame.name frame.text) (λ (frame : Live). frame.number ≤ registrations history)
        (λ (frame : Live). IsRegistered history frame.number frame.name frame.text × (frame.number ≤ registrations history)) (live_frames history)
        (λ frame one two. (one, two)) (live_registered history) (live_counted history))
        (each_left_number name (live_frames history) (live_once history))

-- ---- a board goes out

texts_at : (number other : ℕ) (held : Held) (rest : List Held) (b c : Bool) → nat_eq other held.number ≡ b → nat_eq number held.number ≡ c
    → is_home (of_other_texts number rest) other ≡ (is_home rest other && not (nat_eq number other))
    → is_home (cond (not c) (held ∷ of_other_texts number rest) (of_other_texts number rest)) other
    ≡ ((b || is_home rest other) && not (nat_eq number other))
texts_at number other held rest true true e is ih =
    ih ∙ (ap (λ (d : Bool). is_home rest other && not d) same ∙ (and_false (is_home rest other) ∙ sym (ap not same)))
  where
    same : nat_eq number other ≡ true
    same = ap (nat_eq number) (eqb-true other held.number e) ∙ is

    and_false : (a : Bool) → (a && false) ≡ false
    and_false true = refl
    and_false false = refl
texts_at number other held rest true false e is ih =
    ap (λ (d : Bool). d || is_home (of_other_texts number rest) other) e ∙ sym (ap not (ap (nat_eq number) (eqb-true other held.number e) ∙ is))
texts_at number other held rest false true e is ih = ih
texts_at number other held rest false false e is ih =
    ap (λ (d : Bool). d || is_home (of_other_texts number rest) other) e ∙ ih

-- which boards are at home, without one
pub texts_home : (number other : ℕ) (boards : List Held) → is_home (of_other_texts number boards) other ≡ (is_home boards other && not (nat_eq number other))
texts_home number other [] = refl
texts_home number other (held ∷ rest) =
    texts_at number other held rest (nat_eq other held.number) (nat_eq number held.number) refl refl (texts_home number other rest)

found_any : (p : Held → Bool) (boards : List Held) (b : Bool) → is_some (find p boards) ≡ b → list_any p boards ≡ b
found_any p [] b e = e
found_any p (held ∷ rest) b e = by (p held) refl (found_any p rest b)
  where
    by : (c : Bool) → p held ≡ c → (is_some (find p rest) ≡ b → list_any p rest ≡ b) → (c || list_any p rest) ≡ b
    by true is ih = ap (λ (d : Bool). is_some (cond d (Some held) (find p rest))) (sym is) ∙ e
    by false is ih = ih (ap (λ (d : Bool). is_some (cond d (Some held) (find p rest))) (sym is) ∙ e)

pub home_is_there : (number : ℕ) (boards : List Held) (held : Held) → home_of number boards ≡ Some held → is_home boards number ≡ true
home_is_there number boards held e = found_any (λ (one : Held). nat_eq number one.number) boards true (ap is_some e)

out_at : (number other : ℕ) (home : Bool) (b : Bool) → nat_eq other number ≡ b → (b ≡ true → home ≡ true)
    → (not (home && not b) && not b) ≡ not home
out_at number other home true e there = and_false (not (home && false)) ∙ sym (ap not (there refl))
  where
    and_false : (a : Bool) → (a && false) ≡ false
    and_false true = refl
    and_false false = refl
out_at number other home false e there = by home
  where
    by : (h : Bool) → (not (h && true) && true) ≡ not h
    by true = refl
    by false = refl

-- without the board that went out, the texts away are those from before
pub away_without : (history : List Operation) (boards : List Held) (number : ℕ) → is_home boards number ≡ true
    → back number (away_from history (of_other_texts number boards)) ≡ away_from history boards
away_without history boards number there =
    filter_twice (λ other. not (nat_eq other number)) (λ other. not (is_home (of_other_texts number boards) other)) (numbers (live_frames history))
    ∙ same_filter (λ other. not (is_home (of_other_texts number boards) other) && not (nat_eq other number)) (λ other. not (is_home boards other))
    (numbers (live_frames history)) (every (numbers (live_frames history)))
  where
    pointwise_at : (other : ℕ) → (not (is_home (of_other_texts number boards) other) && not (nat_eq other number)) ≡ not (is_home boards other)
    pointwise_at other =
        ap (λ (b : Bool). not b && not (nat_eq other number)) (texts_home number other boards ∙ ap (λ (b : Bool). is_home boards other && not b) (turned_round number other))
        ∙ out_at number other (is_home boards other) (nat_eq other number) refl (λ same. ap (is_home boards) (eqb-true other number same) ∙ there)

    every : (xs : List ℕ)
        → AllByRecursion (λ other. (not (is_home (of_other_texts number boards) other) && not (nat_eq other number)) ≡ not (is_home boards other)) xs
    every [] = tt
    every (x ∷ xs) = (pointwise_at x, every xs)

-- and it is away
pub away_with : (history : List Operation) (boards : List Held) (name : List ℕ) (frame : Live) (number : ℕ) → live history name ≡ Some frame
    → number ≡ frame.number → list_any (nat_eq number) (away_from history (of_other_texts number boards)) ≡ true
away_with history boards name frame number is_live same =
    any_filtered number (λ other. not (is_home (of_other_texts number boards) other)) (numbers (live_frames history))
    ∙ (λ i. numbered i && not (out i))
  where
    numbered : list_any (nat_eq number) (numbers (live_frames history)) ≡ true
    numbered =
        ap (λ (n : ℕ). list_any (nat_eq n) (numbers (live_frames history))) same
        ∙ each_found (λ (one : Live). list_any (nat_eq one.number) (numbers (live_frames history)) ≡ true) (λ (one : Live). text_eq name one.name)
        (live_frames history) frame (each_is_numbered (live_frames history)) is_live

    out : is_home (of_other_texts number boards) number ≡ false
    out =
        texts_home number number boards ∙ (ap (λ (b : Bool). is_home boards number && not b) (itself number) ∙ and_false (is_home boards number))
      where
        and_false : (a : Bool) → (a && false) ≡ false
        and_false true = refl
        and_false false = refl

-- ---- a board comes home

back_at : (number other : ℕ) (before after : Bool) (b : Bool) → nat_eq other number ≡ b → (b ≡ true → after ≡ true)
    → (after && not b) ≡ (before && not b) → not after ≡ (not before && not b)
back_at number other before after true e there same = ap not (there refl) ∙ sym (and_false (not before))
  where
    and_false : (a : Bool) → (a && false) ≡ false
    and_false true = refl
    and_false false = refl
back_at number other before after false e there same =
    ap not (sym (and_true after true refl) ∙ (same ∙ and_true before true refl)) ∙ sym (and_true (not before) true refl)

pub away_back : (history later : List Operation) (before after : List Held) (job : Taken) → numbers (live_frames later) ≡ numbers (live_frames history)
    → HasHome before job after → away_from later after ≡ back job.number (away_from history before)
away_back history later before after job same home =
    ap (filter (λ other. not (is_home after other))) same
    ∙ (same_filter (λ other. not (is_home after other)) (λ other. not (is_home before other) && not (nat_eq other job.number))
    (numbers (live_frames history)) (every (numbers (live_frames history)))
    ∙ sym
    (filter_twice (λ other. not (nat_eq other job.number)) (λ other. not (is_home before other)) (numbers (live_frames history))))
  where
    others_same : (other : ℕ) → (is_home after other && not (nat_eq other job.number)) ≡ (is_home before other && not (nat_eq other job.number))
    others_same other =
        ap (λ (b : Bool). is_home after other && not b) (turned_round other job.number)
        ∙ (sym (texts_home job.number other after)
        ∙ (ap (λ (boards : List Held). is_home boards other) home.others
        ∙ (texts_home job.number other before ∙ ap (λ (b : Bool). is_home before other && not b) (turned_round job.number other))))

    every : (xs : List ℕ) → AllByRecursion (λ other. not (is_home after other) ≡ (not (is_home before other) && not (nat_eq other job.number))) xs
    every [] = tt
    every (x ∷ xs) = (
      back_at job.number x (is_home before x) (is_home after x) (nat_eq x job.number) refl
          (λ is. ap (is_home after) (eqb-true x job.number is) ∙ home_is_there job.number after (held_job job) home.home) (others_same x),
      every xs,
    )

pub published_numbers : (history : List Operation) (name : List ℕ) (version : ℕ)
    → numbers (live_frames (history ++ Publish name version ∷ [])) ≡ numbers (live_frames history)
published_numbers history name version = ap numbers (live_frames_step history (Publish name version)) ∙ same (live_frames history)
  where
    same : (frames : List Live) → numbers (map (publish name version) frames) ≡ numbers frames
    same [] = refl
    same (frame ∷ rest) = λ i. published_number name version frame i ∷ same rest i

-- ---- a board is superseded

not_stays : (name : List ℕ) (number : ℕ) (version : Option ℕ) (frame : Live) → frame.number ≡ number
    → kind_of (given_to (Some frame) name number version) ≡ IsSuperseded → ⊥
not_stays name number version frame same e =
    home_isnt_superseded name version frame.published (ap kind_of (sym at_number) ∙ e)
  where
    at_number : given_to (Some frame) name number version ≡ home_or_published name version frame.published
    at_number = rw (eq-eqb frame.number number same) refl

pub away_superseded : (history : List Operation) (boards : List Held) (job : Taken) → FitsHistory history job
    → kind_of (given_job history job) ≡ IsSuperseded → away_from history boards ≡ back job.number (away_from history boards)
away_superseded history boards job fits superseded =
    sym
    (filter_twice (λ other. not (nat_eq other job.number)) (λ other. not (is_home boards other)) (numbers (live_frames history))
    ∙ same_filter (λ other. not (is_home boards other) && not (nat_eq other job.number)) (λ other. not (is_home boards other)) (numbers (live_frames history))
    (each_map (λ other. (not (is_home boards other) && not (nat_eq other job.number)) ≡ not (is_home boards other)) (λ (frame : Live). frame.number)
    (live_frames history)
    (each_both (λ (frame : Live). IsRegistered history frame.number frame.name frame.text) (λ (frame : Live). live history frame.name ≡ Some frame)
    (λ (frame : Live). (not (is_home boards frame.number) && not (nat_eq frame.number job.number)) ≡ not (is_home boards frame.number)) (live_frames history)
    (λ frame is is_live. and_true (not (is_home boards frame.number)) (not (nat_eq frame.number job.number)) (ap not (other frame is is_live (nat_eq frame.number job.number) refl)))
    (live_registered history) (each_is_live (live_frames history) (live_once history)))))
  where
    other : (frame : Live) → IsRegistered history frame.number frame.name frame.text → live history frame.name ≡ Some frame → (b : Bool)
        → nat_eq frame.number job.number ≡ b → b ≡ false
    other frame is is_live false e = refl
    other frame is is_live true e =
        let same : frame.number ≡ job.number = eqb-true frame.number job.number e in
        let name : frame.name ≡ job.name =
        (text_numbers_are_one history job.number frame.name job.name frame.text fits.text
        (subst (λ (n : ℕ). IsRegistered history n frame.name frame.text) same is) fits.registered).0 in
        absurd
        (not_stays job.name job.number (shown.number job.board) frame same
        (ap (λ (found : Option Live). kind_of (given_to found job.name job.number (shown.number job.board)))
        (sym (ap (live history) (sym name) ∙ is_live)) ∙ superseded))
