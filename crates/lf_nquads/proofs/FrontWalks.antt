-- How far labels and tags go, whose end is known only by what follows it.
use Rattle.std.proofs.Common.{◌≡◌, ℕ, zero, suc, ◌≤◌, Bool, true, false, cond, List, [], ◌∷◌, ◌++◌, length, Option, Some, None, refl, sym, ap, subst, ◌∙◌, append_assoc, arith, inl, inr}
use Rattle.std.specs.Prelude.{nat_eq, not, ◌||◌, ◌⊎◌}
use Rattle.std.specs.List.{list_all}
use Rattle.std.proofs.lemmas.Bool.{and_from, eqb-true, eqb-false, false≢true}
use Rattle.std.proofs.lemmas.List.{length-append, append-nil}
use Rattle.def_patch_texts.specs.declared.kind.LineKind.{LineKind}
use Rattle.def_patch_texts.specs.declared.kind.LineKind.TheVariants.{Syntax}
use Rattle.def_patch_texts.specs.Terminals.{Allowed}
use Rattle.def_patch_texts.specs.Characters.{is_digit, is_pn_chars_u, is_label_char, is_label, is_tag, is_tag_rest}
use Rattle.def_patch_texts.specs.PatchText.{absolute_iris}
use Rattle.def_patch_texts.specs.Reading.{is_comment, front_at}
use Rattle.lf_nquads.specs.Scanning.{first_is, is_tag_char}
use Rattle.lf_nquads.proofs.Places.{skip_none}
use Rattle.lf_nquads.proofs.LabelProofs.{is_dot, longer_label, dots_are_chars, label_found, no_label, none_found}
use Rattle.lf_nquads.proofs.TagProofs.{TagSoFar, goes_further, dash_not_needed, tag_found, no_tag}
use Rattle.lf_nquads.proofs.Walks.{Lang, Mode, allowed_in, Found, any_step, shift, Finish, IsPlain, at_end, stop, same_on, Good, anything, good_anything, skipped, good_skip}

-- ---- the end of a line: nothing, or a comment

abbrev pub ended : Lang
ended A text = cond (is_comment text) None (Some Syntax)

finish_ended : Finish ended
finish_ended = record { finish = []; done = λ m k le. refl }

walk_ended : (c : ℕ) (t : List ℕ) (b : Bool) → nat_eq c 35 ≡ b → Found ended (c ∷ t)
walk_ended c t true e = shift ended anything c (any_step ended anything c (λ A t. rw e refl)) t (good_anything.walk t)
walk_ended c t false e = stop ended finish_ended c t (λ A t. rw e refl)

walks_ended : (text : List ℕ) → Found ended text
walks_ended [] = at_end ended finish_ended (inl refl)
walks_ended (c ∷ t) = walk_ended c t (nat_eq c 35) refl

good_ended : Good ended None
unfolding finish_ended
good_ended = record { ending = finish_ended; begins = refl; ends = inl refl; walk = walks_ended }

abbrev pub rest : Lang
rest = skipped ended

pub good_rest : Good rest None
good_rest = good_skip ended None good_ended refl

rest_dot : (A : Allowed) (t : List ℕ) → rest A (46 ∷ t) ≡ Some Syntax
rest_dot A t = ap (ended A) (skip_none (46 ∷ t) refl)

-- ---- what may follow a label or a tag

pub record After (K : Lang) : Type 0 where
  pub first : Option ℕ
  pub good : Good K first
  pub spaced : (A : Allowed) (t : List ℕ) → K A (32 ∷ t) ≡ K A t
  pub stops : K absolute_iris [] ≡ Some Syntax
  pub on_dash : (A : Allowed) (t : List ℕ) → K A (45 ∷ t) ≡ Some Syntax
  pub on_dot : ((A : Allowed) (t : List ℕ) → K A (46 ∷ t) ≡ Some Syntax) ⊎ ((A : Allowed) (t : List ℕ) → K A (46 ∷ t) ≡ rest A t)

abbrev pub over : Option (List ℕ × List ℕ) → (List ℕ → Option LineKind) → Option LineKind
over None k = Some Syntax
over (Some x) k = k x.1

two_dots : (K : Lang) → After K → (A : Allowed) (t : List ℕ) → K A (46 ∷ 46 ∷ t) ≡ Some Syntax
two_dots K a A t = elim a.on_dot [ inl dead ↦ dead A (46 ∷ t) | inr goes ↦ goes A (46 ∷ t) ∙ rest_dot A t ]

one_dot_ends : (K : Lang) → After K → IsPlain (K absolute_iris (46 ∷ []))
one_dot_ends K a =
    elim a.on_dot [
      | inl dead ↦ inr (dead absolute_iris [])
      | inr goes ↦ subst IsPlain (sym (goes absolute_iris [])) good_rest.ends
    ]

-- ---- labels

abbrev pub dots_of : ℕ → List ℕ
dots_of zero = []
dots_of (suc n) = 46 ∷ dots_of n

dots_of-push : (n : ℕ) (t : List ℕ) → dots_of n ++ 46 ∷ t ≡ dots_of (suc n) ++ t
dots_of-push zero t = refl
dots_of-push (suc n) t = ap (λ (x : List ℕ). 46 ∷ x) (dots_of-push n t)

all_dots : (n : ℕ) → list_all is_dot (dots_of n) ≡ true
all_dots zero = refl
all_dots (suc n) = all_dots n

abbrev pub label : Lang → Lang
label K A text = over (front_at is_label text) (K A)

-- behind a label and so many dots
abbrev running : List ℕ → ℕ → Lang → Lang
running l n K A text = over (front_at is_label (l ++ (dots_of n ++ text))) (K A)

run_found : (l : List ℕ) (n : ℕ) → is_label l ≡ true → (text : List ℕ) → first_is is_label_char text ≡ false → front_at is_label (l ++ (dots_of n ++ text)) ≡ Some (l, dots_of n ++ text)
run_found l n fits text h =
    label_found (l ++ (dots_of n ++ text)) (dots_of n ++ text) text (record { label = l; dots = dots_of n; begins = refl; goes_on = refl; fits = fits; dotted = all_dots n }) h

run_stops : (K : Lang) (l : List ℕ) (n : ℕ) → is_label l ≡ true → (A : Allowed) (text : List ℕ) → first_is is_label_char text ≡ false → running l n K A text ≡ K A (dots_of n ++ text)
run_stops K l n fits A text h = ap (λ (o : Option (List ℕ × List ℕ)). over o (K A)) (run_found l n fits text h)

regroup : (l d t : List ℕ) (c : ℕ) → l ++ (d ++ c ∷ t) ≡ (l ++ (d ++ c ∷ [])) ++ t
regroup l d t c = sym (append_assoc l (d ++ c ∷ []) t ∙ ap (λ (x : List ℕ). l ++ x) (append_assoc d (c ∷ []) t))

run_more : (K : Lang) (l : List ℕ) (n c : ℕ) (A : Allowed) (t : List ℕ) → running l n K A (c ∷ t) ≡ running (l ++ (dots_of n ++ c ∷ [])) 0 K A t
run_more K l n c A t = ap (λ (x : List ℕ). over (front_at is_label x) (K A)) (regroup l (dots_of n) t c)

run_dot : (K : Lang) (l : List ℕ) (n c : ℕ) → nat_eq c 46 ≡ true → (A : Allowed) (t : List ℕ) → running l n K A (c ∷ t) ≡ running l (suc n) K A t
run_dot K l n c dot A t =
    let same : c ≡ 46 = eqb-true c 46 dot in
    ap (λ (x : List ℕ). over (front_at is_label (l ++ x)) (K A)) (ap (λ (d : ℕ). dots_of n ++ d ∷ t) same ∙ dots_of-push n t)

longer_run : (l : List ℕ) (n c : ℕ) → is_label l ≡ true → is_label_char c ≡ true → nat_eq c 46 ≡ false → is_label (l ++ (dots_of n ++ c ∷ [])) ≡ true
longer_run l n c fits char_ other = longer_label l (dots_of n) c fits (dots_are_chars (dots_of n) (all_dots n)) char_ other

spaced_finish : (K : Lang) (a : After K) (l : List ℕ) → is_label l ≡ true → (m : Mode) (k : ℕ) → length a.good.ending.finish ≤ k
    → running l 0 K (allowed_in m k) (32 ∷ a.good.ending.finish) ≡ None
spaced_finish K a l fits m k le =
    run_stops K l 0 fits (allowed_in m k) (32 ∷ a.good.ending.finish) refl ∙ a.spaced (allowed_in m k) a.good.ending.finish ∙ a.good.ending.done m k le

finish_run : (K : Lang) (a : After K) (l : List ℕ) (n : ℕ) → is_label l ≡ true → Finish (running l n K)
finish_run K a l n fits = record {
  finish = 97 ∷ 32 ∷ a.good.ending.finish;
  done = λ m k le.
      run_more K l n 97 (allowed_in m k) (32 ∷ a.good.ending.finish)
      ∙ spaced_finish K a (l ++ (dots_of n ++ 97 ∷ [])) (longer_run l n 97 fits refl refl) m k (omega arith);
}

run_ends : (K : Lang) → After K → (l : List ℕ) (n : ℕ) → is_label l ≡ true → IsPlain (running l n K absolute_iris [])
run_ends K a l n fits = subst IsPlain (sym (run_stops K l n fits absolute_iris [] refl)) (go n)
  where
    go : (n : ℕ) → IsPlain (K absolute_iris (dots_of n ++ []))
    go zero = inr a.stops
    go (suc zero) = one_dot_ends K a
    go (suc (suc n)) = inr (two_dots K a absolute_iris (dots_of n ++ []))

run_over : (K : Lang) → After K → (l : List ℕ) (n : ℕ) → is_label l ≡ true → (c : ℕ) (t : List ℕ) → is_label_char c ≡ false → Found (running l n K) (c ∷ t)
run_over K a l zero fits c t h =
    same_on K (running l 0 K) a.good.ending (finish_run K a l 0 fits) c t (λ A t. run_stops K l 0 fits A (c ∷ t) h) (a.good.walk (c ∷ t))
run_over K a l (suc zero) fits c t h =
    elim a.on_dot [
      | inl dead ↦ stop (running l 1 K) (finish_run K a l 1 fits) c t (λ A t. run_stops K l 1 fits A (c ∷ t) h ∙ dead A (c ∷ t))
      | inr goes ↦
          same_on rest (running l 1 K) good_rest.ending (finish_run K a l 1 fits) c t (λ A t. run_stops K l 1 fits A (c ∷ t) h ∙ goes A (c ∷ t)) (good_rest.walk (c ∷ t))
    ]
run_over K a l (suc (suc n)) fits c t h =
    stop (running l (suc (suc n)) K) (finish_run K a l (suc (suc n)) fits) c t
    (λ A t. run_stops K l (suc (suc n)) fits A (c ∷ t) h ∙ two_dots K a A (dots_of n ++ c ∷ t))

walks_run : (K : Lang) → After K → (l : List ℕ) (n : ℕ) → is_label l ≡ true → (text : List ℕ) → Found (running l n K) text
walks_run K a l n fits [] = at_end (running l n K) (finish_run K a l n fits) (run_ends K a l n fits)
walks_run K a l n fits (c ∷ t) =
    go (is_label_char c) (nat_eq c 46) refl refl (λ more. walks_run K a (l ++ (dots_of n ++ c ∷ [])) 0 more t) (walks_run K a l (suc n) fits t)
  where
    go : (b d : Bool) → is_label_char c ≡ b → nat_eq c 46 ≡ d → (is_label (l ++ (dots_of n ++ c ∷ [])) ≡ true → Found (running (l ++ (dots_of n ++ c ∷ [])) 0 K) t)
        → Found (running l (suc n) K) t → Found (running l n K) (c ∷ t)
    go true true b d more dotted =
        shift (running l n K) (running l (suc n) K) c (any_step (running l n K) (running l (suc n) K) c (run_dot K l n c d)) t dotted
    go true false b d more dotted =
        shift (running l n K) (running (l ++ (dots_of n ++ c ∷ [])) 0 K) c (any_step (running l n K) (running (l ++ (dots_of n ++ c ∷ [])) 0 K) c (run_more K l n c)) t
        (more (longer_run l n c fits b d))
    go false d b e more dotted = run_over K a l n fits c t b

abbrev is_first : ℕ → Bool
is_first c = is_pn_chars_u c || is_digit c

one_label : (c : ℕ) → is_first c ≡ true → is_label (c ∷ []) ≡ true
one_label c h = and_from _ _ (and_from _ _ h refl) (no_dot (nat_eq c 46) refl)
  where
    no_dot : (b : Bool) → nat_eq c 46 ≡ b → not b ≡ true
    no_dot true e = let same : c ≡ 46 = eqb-true c 46 e in absurd (false≢true (subst (λ (x : ℕ). is_first x ≡ true) same h))
    no_dot false e = refl

label_dead : (K : Lang) (A : Allowed) (text : List ℕ) → first_is is_first text ≡ false → label K A text ≡ Some Syntax
label_dead K A text h = ap (λ (o : Option (List ℕ × List ℕ)). over o (K A)) (none_found is_label text (no_label text h))

finish_label : (K : Lang) → After K → Finish (label K)
finish_label K a = record {
  finish = 97 ∷ 32 ∷ a.good.ending.finish;
  done = λ m k le. spaced_finish K a (97 ∷ []) refl m k (omega arith);
}

walk_label : (K : Lang) → After K → (c : ℕ) (t : List ℕ) (b : Bool) → is_first c ≡ b → Found (label K) (c ∷ t)
walk_label K a c t true e =
    shift (label K) (running (c ∷ []) 0 K) c (any_step (label K) (running (c ∷ []) 0 K) c (λ A t. refl)) t (walks_run K a (c ∷ []) 0 (one_label c e) t)
walk_label K a c t false e = stop (label K) (finish_label K a) c t (λ A t. label_dead K A (c ∷ t) e)

walks_label : (K : Lang) → After K → (text : List ℕ) → Found (label K) text
walks_label K a [] = at_end (label K) (finish_label K a) (inr (label_dead K absolute_iris [] refl))
walks_label K a (c ∷ t) = walk_label K a c t (is_first c) refl

pub good_label : (K : Lang) → After K → Good (label K) (Some 97)
unfolding finish_label
good_label K a = record { ending = finish_label K a; begins = refl; ends = inr (label_dead K absolute_iris [] refl); walk = walks_label K a }

-- ---- tags

abbrev pub tag : Lang → Lang
tag K A text = over (front_at is_tag text) (K A)

abbrev dash_of : Bool → List ℕ
dash_of true = 45 ∷ []
dash_of false = []

-- a tag, then `-` or not, and what may follow
record TagState (read so_far : List ℕ) (dash needed digits : Bool) : Type 0 where
  spelled : read ≡ so_far ++ dash_of dash
  goes_on : (more : List ℕ) → is_tag (read ++ more) ≡ is_tag_rest needed digits more
  whole : needed ≡ false → dash ≡ false
  fits : (length so_far ≡ 0 → ⊥) → is_tag so_far ≡ true

no_dash : (xs : List ℕ) (b : Bool) → b ≡ false → xs ++ dash_of b ≡ xs
no_dash xs b e = ap (λ (x : Bool). xs ++ dash_of x) e ∙ append-nil xs

dash_length : (b : Bool) → length (dash_of b) ≤ 1
dash_length true = omega arith
dash_length false = omega arith

so_far_of : (read so_far : List ℕ) (dash needed digits : Bool) (s : TagState read so_far dash needed digits) (text : List ℕ) → TagSoFar (read ++ text) (dash_of dash ++ text) text needed digits
so_far_of read so_far dash needed digits s text = record {
  tag = so_far;
  read = read;
  begins = ap (λ (x : List ℕ). x ++ text) s.spelled ∙ append_assoc so_far (dash_of dash) text;
  spelled = refl;
  goes_on = s.goes_on;
  whole = λ e. s.spelled ∙ no_dash so_far dash (s.whole e);
  most = omega (arith, ap length s.spelled, length-append so_far (dash_of dash), dash_length dash);
  fits = s.fits;
}

abbrev tagging : List ℕ → Lang → Lang
tagging read K A text = over (front_at is_tag (read ++ text)) (K A)

tag_stops : (K : Lang) (read so_far : List ℕ) (dash needed digits : Bool) → TagState read so_far dash needed digits → (length so_far ≡ 0 → ⊥) → (A : Allowed) (text : List ℕ)
    → first_is (is_tag_char needed digits) text ≡ false → tagging read K A text ≡ K A (dash_of dash ++ text)
unfolding so_far_of
tag_stops K read so_far dash needed digits s some A text h =
    ap (λ (o : Option (List ℕ × List ℕ)). over o (K A)) (tag_found (read ++ text) (dash_of dash ++ text) text needed digits (so_far_of read so_far dash needed digits s text) h some)

tag_none : (K : Lang) (read so_far : List ℕ) (dash needed digits : Bool) → TagState read so_far dash needed digits → length so_far ≡ 0 → (A : Allowed) (text : List ℕ)
    → first_is (is_tag_char needed digits) text ≡ false → tagging read K A text ≡ Some Syntax
unfolding so_far_of
tag_none K read so_far dash needed digits s none A text h =
    ap (λ (o : Option (List ℕ × List ℕ)). over o (K A)) (no_tag (read ++ text) (dash_of dash ++ text) text needed digits (so_far_of read so_far dash needed digits s text) h none)

tag_goes : (K : Lang) (read : List ℕ) (c : ℕ) (A : Allowed) (t : List ℕ) → tagging read K A (c ∷ t) ≡ tagging (read ++ c ∷ []) K A t
tag_goes K read c A t = ap (λ (x : List ℕ). over (front_at is_tag x) (K A)) (sym (append_assoc read (c ∷ []) t))

letter_state : (read so_far : List ℕ) (dash needed digits : Bool) (c : ℕ) → TagState read so_far dash needed digits → is_tag_char needed digits c ≡ true → nat_eq c 45 ≡ false
    → TagState (read ++ c ∷ []) (read ++ c ∷ []) false (nat_eq c 45) (digits || nat_eq c 45)
letter_state read so_far dash needed digits c s h other =
    let further = goes_further read needed digits c s.goes_on h in
    record {
      spelled = sym (append-nil (read ++ c ∷ []));
      goes_on = further;
      whole = λ e. refl;
      fits = λ some. ap is_tag (sym (append-nil (read ++ c ∷ []))) ∙ further [] ∙ ap not other;
    }

dash_state : (read so_far : List ℕ) (dash needed digits : Bool) (c : ℕ) → TagState read so_far dash needed digits → is_tag_char needed digits c ≡ true → nat_eq c 45 ≡ true
    → TagState (read ++ c ∷ []) so_far true (nat_eq c 45) (digits || nat_eq c 45)
dash_state read so_far dash needed digits c s h is_dash =
    let same : read ≡ so_far = s.spelled ∙ no_dash so_far dash (s.whole (dash_not_needed needed digits c h is_dash)) in
    let sign : c ≡ 45 = eqb-true c 45 is_dash in
    record {
      spelled = ap (λ (x : List ℕ). x ++ c ∷ []) same ∙ ap (λ (d : ℕ). so_far ++ d ∷ []) sign;
      goes_on = goes_further read needed digits c s.goes_on h;
      whole = λ e. absurd (false≢true (sym e ∙ is_dash));
      fits = s.fits;
    }

space_ends_tag : (needed digits : Bool) → is_tag_char needed digits 32 ≡ false
space_ends_tag true true = refl
space_ends_tag true false = refl
space_ends_tag false true = refl
space_ends_tag false false = refl

pushed_some : (read : List ℕ) (c : ℕ) → length (read ++ c ∷ []) ≡ 0 → ⊥
pushed_some read c e = omega (arith, length-append read (c ∷ []))

finish_tag : (K : Lang) (a : After K) (read so_far : List ℕ) (dash needed digits : Bool) → TagState read so_far dash needed digits → Finish (tagging read K)
finish_tag K a read so_far dash needed digits s =
    let f : List ℕ = a.good.ending.finish in
    let next_ = letter_state read so_far dash needed digits 97 s refl refl in
    record {
      finish = 97 ∷ 32 ∷ f;
      done = λ m k le.
          tag_goes K read 97 (allowed_in m k) (32 ∷ f)
          ∙ tag_stops K (read ++ 97 ∷ []) (read ++ 97 ∷ []) false false (digits || false) next_ (pushed_some read 97) (allowed_in m k) (32 ∷ f) (space_ends_tag false (digits || false))
          ∙ a.spaced (allowed_in m k) f ∙ a.good.ending.done m k (omega arith);
    }

dash_plain : (K : Lang) → After K → (dash : Bool) → IsPlain (K absolute_iris (dash_of dash ++ []))
dash_plain K a true = inr (a.on_dash absolute_iris [])
dash_plain K a false = inr a.stops

tag_ends : (K : Lang) → After K → (read so_far : List ℕ) (dash needed digits : Bool) → TagState read so_far dash needed digits → (b : Bool) → nat_eq (length so_far) 0 ≡ b → IsPlain (tagging read K absolute_iris [])
tag_ends K a read so_far dash needed digits s true e = inr (tag_none K read so_far dash needed digits s (eqb-true (length so_far) 0 e) absolute_iris [] refl)
tag_ends K a read so_far dash needed digits s false e =
    subst IsPlain (sym (tag_stops K read so_far dash needed digits s (eqb-false (length so_far) 0 e) absolute_iris [] refl)) (dash_plain K a dash)

tag_over : (K : Lang) → After K → (read so_far : List ℕ) (dash needed digits : Bool) → TagState read so_far dash needed digits → (c : ℕ) (t : List ℕ) → is_tag_char needed digits c ≡ false
    → (b : Bool) → nat_eq (length so_far) 0 ≡ b → Found (tagging read K) (c ∷ t)
tag_over K a read so_far dash needed digits s c t h true e =
    stop (tagging read K) (finish_tag K a read so_far dash needed digits s) c t (λ A t. tag_none K read so_far dash needed digits s (eqb-true (length so_far) 0 e) A (c ∷ t) h)
tag_over K a read so_far true needed digits s c t h false e =
    stop (tagging read K) (finish_tag K a read so_far true needed digits s) c t
    (λ A t. tag_stops K read so_far true needed digits s (eqb-false (length so_far) 0 e) A (c ∷ t) h ∙ a.on_dash A (c ∷ t))
tag_over K a read so_far false needed digits s c t h false e =
    same_on K (tagging read K) a.good.ending (finish_tag K a read so_far false needed digits s) c t
    (λ A t. tag_stops K read so_far false needed digits s (eqb-false (length so_far) 0 e) A (c ∷ t) h) (a.good.walk (c ∷ t))

walks_tag : (K : Lang) → After K → (read so_far : List ℕ) (dash needed digits : Bool) → TagState read so_far dash needed digits → (text : List ℕ) → Found (tagging read K) text
walks_tag K a read so_far dash needed digits s [] =
    at_end (tagging read K) (finish_tag K a read so_far dash needed digits s) (tag_ends K a read so_far dash needed digits s (nat_eq (length so_far) 0) refl)
walks_tag K a read so_far dash needed digits s (c ∷ t) =
    go (is_tag_char needed digits c) (nat_eq c 45) refl refl
    (λ tag_ dash_ n d st. walks_tag K a (read ++ c ∷ []) tag_ dash_ n d st t)
  where
    go : (b d : Bool) → is_tag_char needed digits c ≡ b → nat_eq c 45 ≡ d
        → ((tag_ : List ℕ) (dash_ n d : Bool) → TagState (read ++ c ∷ []) tag_ dash_ n d → Found (tagging (read ++ c ∷ []) K) t)
        → Found (tagging read K) (c ∷ t)
    go true true b d more =
        shift (tagging read K) (tagging (read ++ c ∷ []) K) c (any_step (tagging read K) (tagging (read ++ c ∷ []) K) c (tag_goes K read c)) t
        (more so_far true (nat_eq c 45) (digits || nat_eq c 45) (dash_state read so_far dash needed digits c s b d))
    go true false b d more =
        shift (tagging read K) (tagging (read ++ c ∷ []) K) c (any_step (tagging read K) (tagging (read ++ c ∷ []) K) c (tag_goes K read c)) t
        (more (read ++ c ∷ []) false (nat_eq c 45) (digits || nat_eq c 45) (letter_state read so_far dash needed digits c s b d))
    go false d b e more = tag_over K a read so_far dash needed digits s c t b (nat_eq (length so_far) 0) refl

tag_start : TagState [] [] false true false
tag_start = record { spelled = refl; goes_on = λ more. refl; whole = λ e. refl; fits = λ some. absurd (some refl) }

pub good_tag : (K : Lang) → After K → Good (tag K) (Some 97)
unfolding finish_tag
good_tag K a = record {
  begins = refl;
  ending = finish_tag K a [] [] false true false tag_start;
  ends = tag_ends K a [] [] false true false tag_start true refl;
  walk = walks_tag K a [] [] false true false tag_start;
}
