-- Live frames stand once: no two have one name or one text number, and each has its registration.
use Rattle.std.proofs.Common.{◌≡◌, refl, sym, ◌∙◌, ap, subst, suc, ◌+◌, ◌≤◌, ℕ, nat_eq, List, [], ◌∷◌, ◌++◌, map, Bool, true, false, not, cond, Some, arith}
use Rattle.std.proofs.lemmas.Bool.{eqb-true, false≢true}
use Rattle.std.proofs.lemmas.List.{append-nil, append_assoc}
use Rattle.std.specs.List.{AllByRecursion}
use Rattle.std.specs.Cmp.Lexicographic.{bytes_decides}
use Rattle.lf_rdf.specs.Equality.{text_eq}
use Rattle.def_histories.specs.declared.live.Live.{Live}
use Rattle.def_histories.specs.declared.operation.Operation.{Operation}
use Rattle.def_histories.specs.declared.operation.Operation.TheVariants.{Commit, Register, Retire, Publish}
use Rattle.def_histories.specs.History.{find_frame, live, live_frames, live_from, live_step, publish, registered, registrations, without}
use Rattle.def_histories.specs.Jobs.{IsRegistered}
use Rattle.def_histories.proofs.Appended.{registrations-cons}
use Rattle.def_histories.proofs.JobProofs.{registered_on, text_numbers_are_one}
use Rattle.def_histories.proofs.LiveProofs.{live_frames_step, text_is}
use Rattle.lf_core.proofs.Each.{each_both, each_end, each_found, each_given, each_left, each_map}

pub record Apart (one two : Live) : Type 0 where
  pub name : text_eq one.name two.name ≡ false
  pub number : nat_eq one.number two.number ≡ false

abbrev pub IsAlone : Live → List Live → Type 0
IsAlone frame frames = AllByRecursion (Apart frame) frames

abbrev pub AreOnce : List Live → Type 0
AreOnce [] = Unit {0}
AreOnce (frame ∷ rest) = IsAlone frame rest × AreOnce rest

abbrev pub AreCounted : ℕ → List Live → Type 0
AreCounted count frames = AllByRecursion (λ (frame : Live). frame.number ≤ count) frames

-- ---- the other way round

names_apart : (one two : List ℕ) (b : Bool) → text_eq two one ≡ b → text_eq one two ≡ false → b ≡ false
names_apart one two true e apart =
    absurd (false≢true (sym apart ∙ (bytes_decides one two).1 (sym ((bytes_decides two one).0 e))))
names_apart one two false e apart = refl

pub apart_names : (one two : List ℕ) → text_eq one two ≡ false → text_eq two one ≡ false
apart_names one two apart = names_apart one two (text_eq two one) refl apart

numbers_apart : (one two : ℕ) (b : Bool) → nat_eq two one ≡ b → nat_eq one two ≡ false → b ≡ false
numbers_apart one two true e apart =
    absurd (false≢true (sym apart ∙ (ap (λ (n : ℕ). nat_eq n two) (sym (eqb-true two one e)) ∙ (ap (nat_eq two) (eqb-true two one e) ∙ e))))
numbers_apart one two false e apart = refl

pub apart_numbers : (one two : ℕ) → nat_eq one two ≡ false → nat_eq two one ≡ false
apart_numbers one two apart = numbers_apart one two (nat_eq two one) refl apart

pub apart_too : (one two : Live) → Apart one two → Apart two one
apart_too one two apart =
    record { name = apart_names one.name two.name apart.name; number = apart_numbers one.number two.number apart.number }

-- ---- frames that are left out

once_first : (frame : Live) (rest : List Live) (b : Bool) → IsAlone frame rest → AreOnce rest → AreOnce (cond b (frame ∷ rest) rest)
once_first frame rest true alone once = (alone, once)
once_first frame rest false alone once = once

once_left : (name : List ℕ) (frames : List Live) → AreOnce frames → AreOnce (without name frames)
once_left name [] once = tt
once_left name (frame ∷ rest) once =
    once_first frame (without name rest) (not (text_eq name frame.name))
    (each_left (Apart frame) (λ (other : Live). not (text_eq name other.name)) rest once.0) (once_left name rest once.1)

-- ---- one more frame

once_end : (frames : List Live) (last : Live) → AreOnce frames → AllByRecursion (λ (frame : Live). Apart frame last) frames
    → AreOnce (frames ++ last ∷ [])
once_end [] last once apart = (tt, tt)
once_end (frame ∷ rest) last once apart =
    (each_end (Apart frame) rest last once.0 apart.0, once_end rest last once.1 apart.1)

denied : (b : Bool) → not b ≡ true → b ≡ false
denied true e = absurd (false≢true e)
denied false e = refl

other_first : (name : List ℕ) (frame : Live) (rest : List Live) (b : Bool) → text_eq name frame.name ≡ b
    → AllByRecursion (λ (other : Live). text_eq name other.name ≡ false) rest
    → AllByRecursion (λ (other : Live). text_eq name other.name ≡ false) (cond (not b) (frame ∷ rest) rest)
other_first name frame rest true e all = all
other_first name frame rest false e all = (e, all)

-- the frames that are left have other names
pub others_left : (name : List ℕ) (frames : List Live) → AllByRecursion (λ (other : Live). text_eq name other.name ≡ false) (without name frames)
others_left name [] = tt
others_left name (frame ∷ rest) = other_first name frame (without name rest) (text_eq name frame.name) refl (others_left name rest)

above : (n count : ℕ) (b : Bool) → nat_eq n (suc count) ≡ b → n ≤ count → b ≡ false
above n count true e low = let same : n ≡ suc count = eqb-true n (suc count) e in absurd (omega (arith, same, low))
above n count false e low = refl

apart_new : (name text : List ℕ) (count : ℕ) (frame : Live) → text_eq name frame.name ≡ false → frame.number ≤ count
    → Apart frame (registered name (suc count) text)
apart_new name text count frame apart low = record {
  name = apart_names name frame.name apart;
  number = above frame.number count (nat_eq frame.number (suc count)) refl low;
}

-- ---- published frames have their names and numbers

same_name : (frame : Live) (version : ℕ) (b : Bool)
    → (cond b (record { name = frame.name; number = frame.number; text = frame.text; published = Some version }) frame).name ≡ frame.name
same_name frame version true = refl
same_name frame version false = refl

same_number : (frame : Live) (version : ℕ) (b : Bool)
    → (cond b (record { name = frame.name; number = frame.number; text = frame.text; published = Some version }) frame).number ≡ frame.number
same_number frame version true = refl
same_number frame version false = refl

same_text : (frame : Live) (version : ℕ) (b : Bool)
    → (cond b (record { name = frame.name; number = frame.number; text = frame.text; published = Some version }) frame).text ≡ frame.text
same_text frame version true = refl
same_text frame version false = refl

pub published_name : (name : List ℕ) (version : ℕ) (frame : Live) → (publish name version frame).name ≡ frame.name
published_name name version frame = same_name frame version (text_eq name frame.name)

pub published_number : (name : List ℕ) (version : ℕ) (frame : Live) → (publish name version frame).number ≡ frame.number
published_number name version frame = same_number frame version (text_eq name frame.name)

pub published_text : (name : List ℕ) (version : ℕ) (frame : Live) → (publish name version frame).text ≡ frame.text
published_text name version frame = same_text frame version (text_eq name frame.name)

apart_published : (name : List ℕ) (version : ℕ) (one two : Live) → Apart one two → Apart (publish name version one) (publish name version two)
apart_published name version one two apart = record {
  name = (λ i. text_eq (published_name name version one i) (published_name name version two i)) ∙ apart.name;
  number = (λ i. nat_eq (published_number name version one i) (published_number name version two i)) ∙ apart.number;
}

once_published : (name : List ℕ) (version : ℕ) (frames : List Live) → AreOnce frames → AreOnce (map (publish name version) frames)
once_published name version [] once = tt
once_published name version (frame ∷ rest) once = (
  each_map (Apart (publish name version frame)) (publish name version) rest
      (each_given (Apart frame) (λ (other : Live). Apart (publish name version frame) (publish name version other)) rest
      (λ other apart. apart_published name version frame other apart) once.0),
  once_published name version rest once.1,
)

counted_published : (name : List ℕ) (version count : ℕ) (frames : List Live) → AreCounted count frames
    → AreCounted count (map (publish name version) frames)
counted_published name version count frames all =
    each_map (λ (frame : Live). frame.number ≤ count) (publish name version) frames
    (each_given (λ (frame : Live). frame.number ≤ count) (λ (frame : Live). (publish name version frame).number ≤ count) frames
    (λ frame low. subst (λ (n : ℕ). n ≤ count) (sym (published_number name version frame)) low) all)

counted_more : (count more : ℕ) (frames : List Live) → count ≤ more → AreCounted count frames → AreCounted more frames
counted_more count more frames low all =
    each_given (λ (frame : Live). frame.number ≤ count) (λ (frame : Live). frame.number ≤ more) frames (λ frame under. omega (arith, low, under)) all

-- ---- one more entry

once_step : (count : ℕ) (frames : List Live) (entry : Operation) → AreOnce frames → AreCounted count frames → AreOnce (live_step count frames entry)
once_step count frames (Commit seat patch) once all = once
once_step count frames (Register seat name text) once all =
    once_end (without name frames) (registered name (suc count) text) (once_left name frames once)
    (each_both (λ (frame : Live). text_eq name frame.name ≡ false) (λ (frame : Live). frame.number ≤ count)
    (λ (frame : Live). Apart frame (registered name (suc count) text)) (without name frames) (λ frame apart low. apart_new name text count frame apart low)
    (others_left name frames)
    (each_left (λ (frame : Live). frame.number ≤ count) (λ (frame : Live). not (text_eq name frame.name)) frames all))
once_step count frames (Retire seat name) once all = once_left name frames once
once_step count frames (Publish name version) once all = once_published name version frames once

counted_step : (count : ℕ) (frames : List Live) (entry : Operation) → AreCounted count frames
    → AreCounted (count + registrations (entry ∷ [])) (live_step count frames entry)
counted_step count frames (Commit seat patch) all = counted_more count (count + 0) frames (omega arith) all
counted_step count frames (Register seat name text) all =
    each_end (λ (frame : Live). frame.number ≤ count + 1) (without name frames) (registered name (suc count) text)
    (counted_more count (count + 1) (without name frames) (omega arith)
    (each_left (λ (frame : Live). frame.number ≤ count) (λ (frame : Live). not (text_eq name frame.name)) frames all))
    (omega arith)
counted_step count frames (Retire seat name) all =
    counted_more count (count + 0) (without name frames) (omega arith)
    (each_left (λ (frame : Live). frame.number ≤ count) (λ (frame : Live). not (text_eq name frame.name)) frames all)
counted_step count frames (Publish name version) all =
    counted_more count (count + 0) (map (publish name version) frames) (omega arith) (counted_published name version count frames all)

once_from : (count : ℕ) (frames : List Live) (later : List Operation) → AreOnce frames → AreCounted count frames → AreOnce (live_from count frames later)
once_from count frames [] once all = once
once_from count frames (entry ∷ rest) once all =
    once_from (count + registrations (entry ∷ [])) (live_step count frames entry) rest (once_step count frames entry once all)
    (counted_step count frames entry all)

pub live_once : (history : List Operation) → AreOnce (live_frames history)
live_once history = once_from 0 [] history tt tt

-- ---- each live frame has its registration

abbrev HasRegistration : List Operation → Live → Type 0
HasRegistration history frame = IsRegistered history frame.number frame.name frame.text

on : (history : List Operation) (entry : Operation) (frames : List Live) → AllByRecursion (HasRegistration history) frames
    → AllByRecursion (HasRegistration (history ++ entry ∷ [])) frames
on history entry frames all =
    each_given (HasRegistration history) (HasRegistration (history ++ entry ∷ [])) frames
    (λ frame is. registered_on history (entry ∷ []) frame.number frame.name frame.text is) all

registered_published : (history : List Operation) (name : List ℕ) (version : ℕ) (frame : Live) → HasRegistration history frame
    → HasRegistration history (publish name version frame)
registered_published history name version frame is = record {
  before = is.before;
  seat = is.seat;
  later = is.later;
  stands =
      is.stands
      ∙ (λ i. is.before ++ Register is.seat (sym (published_name name version frame) i) (sym (published_text name version frame) i) ∷ is.later);
  numbered = published_number name version frame ∙ is.numbered;
}

registered_step : (history : List Operation) (entry : Operation) → AllByRecursion (HasRegistration history) (live_frames history)
    → AllByRecursion (HasRegistration (history ++ entry ∷ [])) (live_step (registrations history) (live_frames history) entry)
registered_step history (Commit seat patch) all = on history (Commit seat patch) (live_frames history) all
registered_step history (Register seat name text) all =
    each_end (HasRegistration (history ++ Register seat name text ∷ [])) (without name (live_frames history))
    (registered name (suc (registrations history)) text)
    (each_left (HasRegistration (history ++ Register seat name text ∷ [])) (λ (frame : Live). not (text_eq name frame.name)) (live_frames history)
    (on history (Register seat name text) (live_frames history) all))
    (record { before = history; seat = seat; later = []; stands = refl; numbered = refl })
registered_step history (Retire seat name) all =
    each_left (HasRegistration (history ++ Retire seat name ∷ [])) (λ (frame : Live). not (text_eq name frame.name)) (live_frames history)
    (on history (Retire seat name) (live_frames history) all)
registered_step history (Publish name version) all =
    each_map (HasRegistration (history ++ Publish name version ∷ [])) (publish name version) (live_frames history)
    (each_given (HasRegistration (history ++ Publish name version ∷ []))
    (λ (frame : Live). HasRegistration (history ++ Publish name version ∷ []) (publish name version frame)) (live_frames history)
    (λ frame is. registered_published (history ++ Publish name version ∷ []) name version frame is)
    (on history (Publish name version) (live_frames history) all))

registered_from : (history rest : List Operation) → AllByRecursion (HasRegistration history) (live_frames history)
    → AllByRecursion (HasRegistration (history ++ rest)) (live_frames (history ++ rest))
registered_from history [] all =
    subst (λ (h : List Operation). AllByRecursion (HasRegistration h) (live_frames h)) (sym (append-nil history)) all
registered_from history (entry ∷ rest) all =
    subst (λ (h : List Operation). AllByRecursion (HasRegistration h) (live_frames h)) (append_assoc history (entry ∷ []) rest)
    (registered_from (history ++ entry ∷ []) rest
    (subst (AllByRecursion (HasRegistration (history ++ entry ∷ []))) (sym (live_frames_step history entry)) (registered_step history entry all)))

pub live_registered : (history : List Operation) → AllByRecursion (HasRegistration history) (live_frames history)
live_registered history = registered_from [] history tt

-- the frame that is live under a name has the text of the registration with its number
pub live_text_is : (history : List Operation) (name : List ℕ) (frame : Live) (number : ℕ) (other text : List ℕ)
    → live history name ≡ Some frame → number ≡ frame.number → IsRegistered history number other text → (frame.name ≡ other) × (frame.text ≡ text)
live_text_is history name frame number other text found same is =
    text_numbers_are_one history frame.number frame.name other frame.text text
    (each_found (HasRegistration history) (λ (one : Live). text_eq name one.name) (live_frames history) frame (live_registered history) found)
    (subst (λ (n : ℕ). IsRegistered history n other text) same is)

-- ---- numbers are counted, and each live frame is found by its name

counted_from : (count : ℕ) (frames : List Live) (later : List Operation) → AreCounted count frames
    → AreCounted (count + registrations later) (live_from count frames later)
counted_from count frames [] all = counted_more count (count + 0) frames (omega arith) all
counted_from count frames (entry ∷ rest) all =
    subst (λ (n : ℕ). AreCounted n (live_from (count + registrations (entry ∷ [])) (live_step count frames entry) rest))
    (joined (registrations (entry ∷ [])) (registrations rest) ∙ ap (λ (n : ℕ). count + n) (sym (registrations-cons entry rest)))
    (counted_from (count + registrations (entry ∷ [])) (live_step count frames entry) rest (counted_step count frames entry all))
  where
    joined : (a b : ℕ) → count + a + b ≡ count + (a + b)
    joined a b = omega arith

pub live_counted : (history : List Operation) → AreCounted (registrations history) (live_frames history)
live_counted history = counted_more (0 + registrations history) (registrations history) (live_frames history) (omega arith) (counted_from 0 [] history tt)

found_itself : (frame : Live) (rest : List Live) → find_frame frame.name (frame ∷ rest) ≡ Some frame
found_itself frame rest = rw (text_is frame.name) refl

found_past : (one frame : Live) (rest : List Live) → Apart one frame → find_frame frame.name rest ≡ Some frame
    → find_frame frame.name (one ∷ rest) ≡ Some frame
found_past one frame rest apart found = rw (apart_names one.name frame.name apart.name) found

pub each_is_live : (frames : List Live) → AreOnce frames → AllByRecursion (λ (frame : Live). find_frame frame.name frames ≡ Some frame) frames
each_is_live [] once = tt
each_is_live (one ∷ rest) once = (
  found_itself one rest,
  each_both (Apart one) (λ (frame : Live). find_frame frame.name rest ≡ Some frame) (λ (frame : Live). find_frame frame.name (one ∷ rest) ≡ Some frame) rest
      (λ frame apart found. found_past one frame rest apart found) once.0 (each_is_live rest once.1),
)
