-- How far a line goes: what is left to be read, as a function of the characters that are left, and the longest front that goes on.
use Rattle.std.proofs.Common.{◌≡◌, ℕ, zero, suc, ◌≤◌, Bool, true, false, cond, List, [], ◌∷◌, ◌++◌, length, take, Option, Some, None, refl, sym, ap, subst, ◌∙◌, arith, inl, inr}
use Rattle.std.specs.Prelude.{nat_eq, ◌⊎◌}
use Rattle.std.proofs.lemmas.Bool.{eq-eqb}
use Rattle.std.proofs.lemmas.Option.{none-some}
use Rattle.std.proofs.lemmas.List.{length-append}
use Rattle.def_patch_texts.specs.declared.kind.LineKind.{LineKind}
use Rattle.def_patch_texts.specs.declared.kind.LineKind.TheVariants.{Syntax, RelativeIri, BadEscape, NotUtf8, LineTooLong}
use Rattle.def_patch_texts.specs.Terminals.{Allowed}
use Rattle.def_patch_texts.specs.Characters.{is_blank}
use Rattle.def_patch_texts.specs.PatchText.{absolute_iris}
use Rattle.def_patch_texts.specs.BadLine.{any_iris, absolute_before, whole_before}
use Rattle.def_patch_texts.specs.Reading.{starts, after_char, skip, is_comment}
use Rattle.lf_nquads.specs.Scanning.{first_is}
use Rattle.lf_nquads.proofs.Places.{skip_one, skip_none}

-- What is left of a line: nothing is wrong with these characters, or this is, where reading stops.
abbrev pub Lang : Type 0
Lang = Allowed → List ℕ → Option LineKind

-- the three grammars in which a line may go on with a number of characters
pub data Mode : Type 0 where
  lax_mode : Mode
  absolute_mode : Mode
  whole_mode : Mode

abbrev pub allowed_in : Mode → ℕ → Allowed
allowed_in lax_mode more = any_iris
allowed_in absolute_mode more = absolute_before more
allowed_in whole_mode more = whole_before more

-- what is left goes on behind this front
abbrev pub Opens : Lang → Mode → List ℕ → Type 0
Opens L m front = (more : List ℕ) × (L (allowed_in m (length more)) (front ++ more) ≡ None)

abbrev pub FaultOf : Lang → List ℕ → Option LineKind → Type 0
FaultOf L front None = Unit {0}
FaultOf L front (Some Syntax) = Opens L absolute_mode front × Opens L whole_mode front
FaultOf L front (Some RelativeIri) = Opens L absolute_mode front → ⊥
FaultOf L front (Some BadEscape) = Opens L absolute_mode front × (Opens L whole_mode front → ⊥)
FaultOf L front (Some NotUtf8) = ⊥
FaultOf L front (Some LineTooLong) = ⊥

-- the longest front of these characters that goes on, and what is wrong with it where reading stops
pub record Found (L : Lang) (text : List ℕ) : Type 0 where
  pub len : ℕ
  pub within : len ≤ length text
  pub opens : Opens L lax_mode (take len text)
  pub longest : (longer : ℕ) → longer ≤ length text → Opens L lax_mode (take longer text) → longer ≤ len
  pub fault : FaultOf L (take len text) (L absolute_iris text)

-- ---- a step over one character

pub record Step (L K : Lang) (c : ℕ) : Type 0 where
  pub goes : (m : Mode) (k : ℕ) (t : List ℕ) → k ≤ length t → L (allowed_in m k) (c ∷ t) ≡ K (allowed_in m k) t
  pub strict : (t : List ℕ) → L absolute_iris (c ∷ t) ≡ K absolute_iris t

-- a step in every grammar
pub any_step : (L K : Lang) (c : ℕ) → ((A : Allowed) (t : List ℕ) → L A (c ∷ t) ≡ K A t) → Step L K c
any_step L K c e = record { goes = λ m k t le. e (allowed_in m k) t; strict = λ t. e absolute_iris t }

more_within : (front more : List ℕ) → length more ≤ length (front ++ more)
more_within front more = omega (arith, length-append front more)

opens_on : (L K : Lang) (c : ℕ) → Step L K c → (m : Mode) (front : List ℕ) → Opens K m front → Opens L m (c ∷ front)
opens_on L K c s m front o = (o.0, s.goes m (length o.0) (front ++ o.0) (more_within front o.0) ∙ o.1)

opens_back : (L K : Lang) (c : ℕ) → Step L K c → (m : Mode) (front : List ℕ) → Opens L m (c ∷ front) → Opens K m front
opens_back L K c s m front o = (o.0, sym (s.goes m (length o.0) (front ++ o.0) (more_within front o.0)) ∙ o.1)

-- two fronts that go on alike have the same faults
fault_alike : (L K : Lang) (f g : List ℕ) → ((m : Mode) → Opens L m f → Opens K m g) → ((m : Mode) → Opens K m g → Opens L m f) → (o : Option LineKind) → FaultOf L f o → FaultOf K g o
fault_alike L K f g to from None h = tt
fault_alike L K f g to from (Some Syntax) h = (to absolute_mode h.0, to whole_mode h.1)
fault_alike L K f g to from (Some RelativeIri) h = λ o. h (from absolute_mode o)
fault_alike L K f g to from (Some BadEscape) h = (to absolute_mode h.0, λ o. h.1 (from whole_mode o))
fault_alike L K f g to from (Some NotUtf8) h = h
fault_alike L K f g to from (Some LineTooLong) h = h

shift_longest : (L K : Lang) (c : ℕ) → ((front : List ℕ) → Opens L lax_mode (c ∷ front) → Opens K lax_mode front) → (t : List ℕ) (n : ℕ)
    → ((longer : ℕ) → longer ≤ length t → Opens K lax_mode (take longer t) → longer ≤ n)
    → (longer : ℕ) → longer ≤ length (c ∷ t) → Opens L lax_mode (take longer (c ∷ t)) → longer ≤ suc n
shift_longest L K c back t n h zero le o = omega arith
shift_longest L K c back t n h (suc longer) le o =
    let below : longer ≤ n = h longer (omega arith) (back (take longer t) o) in omega arith

pub shift : (L K : Lang) (c : ℕ) → Step L K c → (t : List ℕ) → Found K t → Found L (c ∷ t)
shift L K c s t f = record {
  len = suc f.len;
  within = let le : f.len ≤ length t = f.within in omega arith;
  opens = opens_on L K c s lax_mode (take f.len t) f.opens;
  longest = shift_longest L K c (λ front o. opens_back L K c s lax_mode front o) t f.len f.longest;
  fault =
      subst (λ (o : Option LineKind). FaultOf L (c ∷ take f.len t) o) (sym (s.strict t))
      (fault_alike K L (take f.len t) (c ∷ take f.len t) (λ m o. opens_on L K c s m (take f.len t) o) (λ m o. opens_back L K c s m (take f.len t) o) (K absolute_iris t) f.fault);
}

-- the closing of a relative IRI
pub record Closes (L K : Lang) (c : ℕ) : Type 0 where
  pub goes : (t : List ℕ) → L any_iris (c ∷ t) ≡ K any_iris t
  pub refuses : (k : ℕ) (t : List ℕ) → k ≤ length t → L (absolute_before k) (c ∷ t) ≡ Some RelativeIri
  pub strict : (t : List ℕ) → L absolute_iris (c ∷ t) ≡ Some RelativeIri

pub shift_relative : (L K : Lang) (c : ℕ) → Closes L K c → (t : List ℕ) → Found K t → Found L (c ∷ t)
shift_relative L K c s t f = record {
  len = suc f.len;
  within = let le : f.len ≤ length t = f.within in omega arith;
  opens = (f.opens.0, s.goes (take f.len t ++ f.opens.0) ∙ f.opens.1);
  longest = shift_longest L K c (λ front o. (o.0, sym (s.goes (front ++ o.0)) ∙ o.1)) t f.len f.longest;
  fault =
      subst (λ (o : Option LineKind). FaultOf L (c ∷ take f.len t) o) (sym (s.strict t))
      (λ o. none-some RelativeIri (sym o.1 ∙ s.refuses (length o.0) (take f.len t ++ o.0) (more_within (take f.len t) o.0)));
}

-- ---- where reading stops

-- characters with which what is left may end, in each of the grammars
pub record Finish (L : Lang) : Type 0 where
  pub finish : List ℕ
  pub done : (m : Mode) (k : ℕ) → length finish ≤ k → L (allowed_in m k) finish ≡ None

pub opens_nil : (L : Lang) → Finish L → (m : Mode) → Opens L m []
opens_nil L f m = (f.finish, f.done m (length f.finish) (omega arith))

-- nothing is wrong with the text that ends here but that it may end
abbrev pub IsPlain : Option LineKind → Type 0
IsPlain o = (o ≡ None) ⊎ (o ≡ Some Syntax)

plain_fault : (L : Lang) → Finish L → (o : Option LineKind) → IsPlain o → FaultOf L [] o
plain_fault L f o h =
    elim h [
      | inl none ↦ subst (λ (o : Option LineKind). FaultOf L [] o) (sym none) tt
      | inr syntax_ ↦ subst (λ (o : Option LineKind). FaultOf L [] o) (sym syntax_) (opens_nil L f absolute_mode, opens_nil L f whole_mode)
    ]

pub at_end : (L : Lang) → Finish L → IsPlain (L absolute_iris []) → Found L []
at_end L f plain = record {
  len = 0;
  within = omega arith;
  opens = opens_nil L f lax_mode;
  longest = λ longer le o. le;
  fault = plain_fault L f (L absolute_iris []) plain;
}

stop_longest : (L : Lang) (c : ℕ) (t : List ℕ) (kind : LineKind) → ((t : List ℕ) → L any_iris (c ∷ t) ≡ Some kind)
    → (longer : ℕ) → longer ≤ length (c ∷ t) → Opens L lax_mode (take longer (c ∷ t)) → longer ≤ 0
stop_longest L c t kind dead zero le o = omega arith
stop_longest L c t kind dead (suc longer) le o = absurd (none-some kind (sym o.1 ∙ dead (take longer t ++ o.0)))

pub stop : (L : Lang) → Finish L → (c : ℕ) (t : List ℕ) → ((A : Allowed) (t : List ℕ) → L A (c ∷ t) ≡ Some Syntax) → Found L (c ∷ t)
stop L f c t dead = record {
  len = 0;
  within = omega arith;
  opens = opens_nil L f lax_mode;
  longest = stop_longest L c t Syntax (dead any_iris);
  fault = plain_fault L f (L absolute_iris (c ∷ t)) (inr (dead absolute_iris t));
}

-- inside an escape
pub inside : (L : Lang) (text : List ℕ) → Opens L lax_mode [] → Opens L absolute_mode [] → (Opens L whole_mode [] → ⊥)
    → ((longer : ℕ) → longer ≤ length text → Opens L lax_mode (take longer text) → longer ≤ 0) → L absolute_iris text ≡ Some BadEscape → Found L text
inside L text lax absolute never dead e = record {
  len = 0;
  within = omega arith;
  opens = lax;
  longest = dead;
  fault = subst (λ (o : Option LineKind). FaultOf L [] o) (sym e) (absolute, never);
}

pub inside_end : (L : Lang) → Opens L lax_mode [] → Opens L absolute_mode [] → (Opens L whole_mode [] → ⊥) → L absolute_iris [] ≡ Some BadEscape → Found L []
inside_end L lax absolute never e = inside L [] lax absolute never (λ longer le o. le) e

pub inside_stop : (L : Lang) (c : ℕ) (t : List ℕ) → Opens L lax_mode [] → Opens L absolute_mode [] → (Opens L whole_mode [] → ⊥) → ((A : Allowed) (t : List ℕ) → L A (c ∷ t) ≡ Some BadEscape) → Found L (c ∷ t)
inside_stop L c t lax absolute never dead = inside L (c ∷ t) lax absolute never (stop_longest L c t BadEscape (dead any_iris)) (dead absolute_iris t)

-- ---- one and the same behind a first character

opens_same : (L S : Lang) → Finish S → (c : ℕ) (t : List ℕ) → ((A : Allowed) (t : List ℕ) → S A (c ∷ t) ≡ L A (c ∷ t)) → (m : Mode) (n : ℕ)
    → Opens L m (take n (c ∷ t)) → Opens S m (take n (c ∷ t))
opens_same L S f c t e m zero o = opens_nil S f m
opens_same L S f c t e m (suc n) o = (o.0, e (allowed_in m (length o.0)) (take n t ++ o.0) ∙ o.1)

pub same_on : (L S : Lang) → Finish L → Finish S → (c : ℕ) (t : List ℕ) → ((A : Allowed) (t : List ℕ) → S A (c ∷ t) ≡ L A (c ∷ t)) → Found L (c ∷ t) → Found S (c ∷ t)
same_on L S fl fs c t e f =
    let back : (A : Allowed) (t : List ℕ) → L A (c ∷ t) ≡ S A (c ∷ t) = λ A t. sym (e A t) in
    record {
      len = f.len;
      within = f.within;
      opens = opens_same L S fs c t e lax_mode f.len f.opens;
      longest = λ longer le o. f.longest longer le (opens_same S L fl c t back lax_mode longer o);
      fault =
          subst (λ (o : Option LineKind). FaultOf S (take f.len (c ∷ t)) o) (sym (e absolute_iris t))
          (fault_alike L S (take f.len (c ∷ t)) (take f.len (c ∷ t)) (λ m o. opens_same L S fs c t e m f.len o) (λ m o. opens_same S L fl c t back m f.len o) (L absolute_iris (c ∷ t)) f.fault);
    }

-- ---- what is left, made of parts

abbrev pub first_of : List ℕ → Option ℕ
first_of [] = None
first_of (c ∷ rest) = Some c

abbrev pub first_passes : (ℕ → Bool) → Option ℕ → Bool
first_passes p None = false
first_passes p (Some c) = p c

-- Each text has its longest front, and a text that ends here lacks something at most. The ending that is known begins with this.
pub record Good (L : Lang) (first : Option ℕ) : Type 0 where
  pub ending : Finish L
  pub begins : first_of ending.finish ≡ first
  pub ends : IsPlain (L absolute_iris [])
  pub walk : (text : List ℕ) → Found L text

first_is_of : (p : ℕ → Bool) (xs : List ℕ) → first_is p xs ≡ first_passes p (first_of xs)
first_is_of p [] = refl
first_is_of p (x ∷ xs) = refl

starts_of : (c : ℕ) (xs : List ℕ) → starts c xs ≡ first_passes (λ d. nat_eq d c) (first_of xs)
starts_of c [] = refl
starts_of c (x ∷ xs) = refl

pub good_as : (L K : Lang) (first : Option ℕ) → ((A : Allowed) (t : List ℕ) → L A t ≡ K A t) → Good K first → Good L first
good_as L K first e g = let same : K ≡ L = λ i. λ A t. (sym (e A t)) i in subst (λ (M : Lang). Good M first) same g

-- anything may follow
abbrev pub anything : Lang
anything A text = None

take_length : (xs : List ℕ) → take (length xs) xs ≡ xs
take_length [] = refl
take_length (x ∷ xs) = ap (λ (t : List ℕ). x ∷ t) (take_length xs)

pub good_anything : Good anything None
good_anything = record {
  ending = record { finish = []; done = λ m k le. refl };
  begins = refl;
  ends = inl refl;
  walk = λ text. record { len = length text; within = omega arith; opens = ([], refl); longest = λ longer le o. le; fault = tt };
}

-- ---- one character

abbrev pub next : Option (List ℕ) → (List ℕ → Option LineKind) → Option LineKind
next None k = Some Syntax
next (Some rest) k = k rest

abbrev pub char : ℕ → Lang → Lang
char c K A text = next (after_char c text) (K A)

after_same : (c d : ℕ) (t : List ℕ) → nat_eq d c ≡ true → after_char c (d ∷ t) ≡ Some t
unfolding after_char
after_same c d t e = rw e refl

after_other : (c d : ℕ) (t : List ℕ) → nat_eq d c ≡ false → after_char c (d ∷ t) ≡ None
unfolding after_char
after_other c d t e = rw e refl

after_nothing : (c : ℕ) → after_char c [] ≡ None
unfolding after_char
after_nothing c = refl

char_goes : (c : ℕ) (K : Lang) (d : ℕ) → nat_eq d c ≡ true → (A : Allowed) (t : List ℕ) → char c K A (d ∷ t) ≡ K A t
char_goes c K d e A t = ap (λ (o : Option (List ℕ)). next o (K A)) (after_same c d t e)

char_dead : (c : ℕ) (K : Lang) (d : ℕ) → nat_eq d c ≡ false → (A : Allowed) (t : List ℕ) → char c K A (d ∷ t) ≡ Some Syntax
char_dead c K d e A t = ap (λ (o : Option (List ℕ)). next o (K A)) (after_other c d t e)

pub finish_char : (c : ℕ) (K : Lang) → Finish K → Finish (char c K)
finish_char c K f = record {
  finish = c ∷ f.finish;
  done = λ m k le. char_goes c K c (eq-eqb c c refl) (allowed_in m k) f.finish ∙ f.done m k (omega arith);
}

pub char_ends : (c : ℕ) (K : Lang) (A : Allowed) → char c K A [] ≡ Some Syntax
char_ends c K A = ap (λ (o : Option (List ℕ)). next o (K A)) (after_nothing c)

walk_char : (c : ℕ) (K : Lang) (first : Option ℕ) → Good K first → (d : ℕ) (t : List ℕ) (b : Bool) → nat_eq d c ≡ b → Found (char c K) (d ∷ t)
walk_char c K first g d t true e = shift (char c K) K d (any_step (char c K) K d (char_goes c K d e)) t (g.walk t)
walk_char c K first g d t false e = stop (char c K) (finish_char c K g.ending) d t (char_dead c K d e)

walks_char : (c : ℕ) (K : Lang) (first : Option ℕ) → Good K first → (text : List ℕ) → Found (char c K) text
walks_char c K first g [] = at_end (char c K) (finish_char c K g.ending) (inr (char_ends c K absolute_iris))
walks_char c K first g (d ∷ t) = walk_char c K first g d t (nat_eq d c) refl

pub good_char : (c : ℕ) (K : Lang) (first : Option ℕ) → Good K first → Good (char c K) (Some c)
unfolding finish_char
good_char c K first g = record {
  ending = finish_char c K g.ending;
  begins = refl;
  ends = inr (char_ends c K absolute_iris);
  walk = walks_char c K first g;
}

-- ---- spaces

abbrev pub skipped : Lang → Lang
skipped L A text = L A (skip text)

skip_nothing : skip [] ≡ []
skip_nothing = skip_none [] refl

pub skip_blank : (c : ℕ) (t : List ℕ) → is_blank c ≡ true → skip (c ∷ t) ≡ skip t
skip_blank c t h = skip_one (c ∷ t) t c h refl

pub finish_skip : (L : Lang) (f : Finish L) → first_is is_blank f.finish ≡ false → Finish (skipped L)
finish_skip L f h = record {
  finish = f.finish;
  done = λ m k le. ap (L (allowed_in m k)) (skip_none f.finish h) ∙ f.done m k le;
}

pub skip_ends : (L : Lang) → IsPlain (L absolute_iris []) → IsPlain (skipped L absolute_iris [])
skip_ends L h = subst (λ (t : List ℕ). IsPlain (L absolute_iris t)) (sym skip_nothing) h

walks_skip : (L : Lang) (first : Option ℕ) → Good L first → Finish (skipped L) → (text : List ℕ) → Found (skipped L) text
walks_skip L first g f [] = at_end (skipped L) f (skip_ends L g.ends)
walks_skip L first g f (c ∷ t) = go (is_blank c) refl (walks_skip L first g f t)
  where
    go : (b : Bool) → is_blank c ≡ b → Found (skipped L) t → Found (skipped L) (c ∷ t)
    go true e rest = shift (skipped L) (skipped L) c (any_step (skipped L) (skipped L) c (λ A t. ap (L A) (skip_blank c t e))) t rest
    go false e rest = same_on L (skipped L) g.ending f c t (λ A t. ap (L A) (skip_none (c ∷ t) e)) (g.walk (c ∷ t))

pub good_skip : (L : Lang) (first : Option ℕ) → Good L first → first_passes is_blank first ≡ false → Good (skipped L) first
unfolding finish_skip
good_skip L first g h =
    let f = finish_skip L g.ending (first_is_of is_blank g.ending.finish ∙ ap (first_passes is_blank) g.begins ∙ h) in
    record { ending = f; begins = g.begins; ends = skip_ends L g.ends; walk = walks_skip L first g f }

-- ---- a choice by the first character

abbrev pub branch : ℕ → Lang → Lang → Lang
branch c M L A text = cond (starts c text) (M A text) (L A text)

finish_branch : (c : ℕ) (M L : Lang) (f : Finish L) → starts c f.finish ≡ false → Finish (branch c M L)
finish_branch c M L f h = record { finish = f.finish; done = λ m k le. rw h (f.done m k le) }

walk_branch : (c : ℕ) (M L : Lang) (fm fl : Option ℕ) → Good M fm → Good L fl → Finish (branch c M L) → (d : ℕ) (t : List ℕ) (b : Bool) → nat_eq d c ≡ b → Found (branch c M L) (d ∷ t)
walk_branch c M L fm fl gm gl f d t true e = same_on M (branch c M L) gm.ending f d t (λ A t. rw e refl) (gm.walk (d ∷ t))
walk_branch c M L fm fl gm gl f d t false e = same_on L (branch c M L) gl.ending f d t (λ A t. rw e refl) (gl.walk (d ∷ t))

walks_branch : (c : ℕ) (M L : Lang) (fm fl : Option ℕ) → Good M fm → Good L fl → Finish (branch c M L) → (text : List ℕ) → Found (branch c M L) text
walks_branch c M L fm fl gm gl f [] = at_end (branch c M L) f gl.ends
walks_branch c M L fm fl gm gl f (d ∷ t) = walk_branch c M L fm fl gm gl f d t (nat_eq d c) refl

pub good_branch : (c : ℕ) (M L : Lang) (fm fl : Option ℕ) → Good M fm → Good L fl → first_passes (λ d. nat_eq d c) fl ≡ false → Good (branch c M L) fl
unfolding finish_branch
good_branch c M L fm fl gm gl h =
    let f = finish_branch c M L gl.ending (starts_of c gl.ending.finish ∙ ap (first_passes (λ d. nat_eq d c)) gl.begins ∙ h) in
    record { ending = f; begins = gl.begins; ends = gl.ends; walk = walks_branch c M L fm fl gm gl f }

-- ---- a comment, or this

abbrev pub commented : Lang → Lang
commented L A text = cond (is_comment text) None (L A text)

finish_commented : (L : Lang) → Finish (commented L)
finish_commented L = record { finish = []; done = λ m k le. refl }

walk_commented : (L : Lang) (first : Option ℕ) → Good L first → (c : ℕ) (t : List ℕ) (b : Bool) → nat_eq c 35 ≡ b → Found (commented L) (c ∷ t)
walk_commented L first g c t true e = shift (commented L) anything c (any_step (commented L) anything c (λ A t. rw e refl)) t (good_anything.walk t)
walk_commented L first g c t false e = same_on L (commented L) g.ending (finish_commented L) c t (λ A t. rw e refl) (g.walk (c ∷ t))

walks_commented : (L : Lang) (first : Option ℕ) → Good L first → (text : List ℕ) → Found (commented L) text
walks_commented L first g [] = at_end (commented L) (finish_commented L) (inl refl)
walks_commented L first g (c ∷ t) = walk_commented L first g c t (nat_eq c 35) refl

pub good_commented : (L : Lang) (first : Option ℕ) → Good L first → Good (commented L) None
unfolding finish_commented
good_commented L first g = record { ending = finish_commented L; begins = refl; ends = inl refl; walk = walks_commented L first g }
