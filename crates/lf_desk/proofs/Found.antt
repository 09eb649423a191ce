-- What is live under a name, entry by entry; and what holds of the frame that is next.
use Rattle.std.proofs.Common.{◌≡◌, refl, sym, ◌∙◌, ap, subst, suc, ◌+◌, ◌≤◌, ℕ, List, [], ◌∷◌, ◌++◌, map, Bool, true, false, cond, Option, Some, None, arith}
use Rattle.std.proofs.lemmas.Bool.{and_from, and_parts, false≢true}
use Rattle.std.specs.List.{filter, fold, list_all}
use Rattle.std.specs.Option.{option_map}
use Rattle.std.specs.Cmp.Lexicographic.{bytes_decides}
use Rattle.lf_rdf.specs.Equality.{text_eq}
use Rattle.def_histories.specs.declared.live.Live.{Live}
use Rattle.def_histories.specs.declared.operation.Operation.{Operation}
use Rattle.def_histories.specs.declared.operation.Operation.TheVariants.{Commit, Register, Retire, Publish}
use Rattle.def_histories.specs.History.{commits, find_frame, live, live_frames, live_from, live_step, publish, registered, registrations, without}
use Rattle.def_histories.proofs.Appended.{live_from-more, registrations-cons}
use Rattle.def_histories.proofs.LiveProofs.{found_before, found_behind, found_others, found_without}
use Rattle.def_turns.specs.Turns.{first, first_of, is_before, is_older, next_frame, waiting, waits}

-- ---- what is live under a name after one more entry

abbrev pub seen : List ℕ → ℕ → Operation → Option Live → Option Live
seen name count (Commit seat patch) found = found
seen name count (Register seat other text) found = cond (text_eq name other) (Some (registered other (suc count) text)) found
seen name count (Retire seat other) found = cond (text_eq name other) None found
seen name count (Publish other version) found = option_map (publish other version) found

abbrev pub seen_all : List ℕ → ℕ → List Operation → Option Live → Option Live
seen_all name count [] found = found
seen_all name count (entry ∷ rest) found = seen_all name (count + registrations (entry ∷ [])) rest (seen name count entry found)

name_at : (frame : Live) (version : ℕ) (b : Bool)
    → (cond b (record { name = frame.name; number = frame.number; text = frame.text; published = Some version }) frame).name ≡ frame.name
name_at frame version true = refl
name_at frame version false = refl

map_first : (name other : List ℕ) (version : ℕ) (first_one : Live) (rest : List Live) (b : Bool)
    → find_frame name (map (publish other version) rest) ≡ option_map (publish other version) (find_frame name rest)
    → cond b (Some (publish other version first_one)) (find_frame name (map (publish other version) rest))
    ≡ option_map (publish other version) (cond b (Some first_one) (find_frame name rest))
map_first name other version first_one rest true ih = refl
map_first name other version first_one rest false ih = ih

pub found_published : (name other : List ℕ) (version : ℕ) (frames : List Live)
    → find_frame name (map (publish other version) frames) ≡ option_map (publish other version) (find_frame name frames)
found_published name other version [] = refl
found_published name other version (first_one ∷ rest) =
    ap (λ (n : List ℕ).
    cond (text_eq name n) (Some (publish other version first_one)) (find_frame name (map (publish other version) rest)))
    (name_at first_one version (text_eq other first_one.name))
    ∙ map_first name other version first_one rest (text_eq name first_one.name) (found_published name other version rest)

gone : (name other : List ℕ) (frames : List Live) → text_eq name other ≡ true → find_frame name (without other frames) ≡ None
gone name other frames same =
    ap (λ (n : List ℕ). find_frame name (without n frames)) (sym ((bytes_decides name other).0 same)) ∙ found_without name frames

one_frame : (name other : List ℕ) (number : ℕ) (text : List ℕ) → text_eq name other ≡ true
    → find_frame name (registered other number text ∷ []) ≡ Some (registered other number text)
one_frame name other number text same = rw same refl

after_registration : (name other text : List ℕ) (count : ℕ) (frames : List Live) (b : Bool) → text_eq name other ≡ b
    → find_frame name (without other frames ++ registered other (suc count) text ∷ [])
    ≡ cond b (Some (registered other (suc count) text)) (find_frame name frames)
after_registration name other text count frames true same =
    found_behind name (without other frames) (registered other (suc count) text ∷ []) (gone name other frames same)
    ∙ one_frame name other (suc count) text same
after_registration name other text count frames false apart =
    found_before name (without other frames) (registered other (suc count) text) apart ∙ found_others name other frames apart

after_retirement : (name other : List ℕ) (frames : List Live) (b : Bool) → text_eq name other ≡ b
    → find_frame name (without other frames) ≡ cond b None (find_frame name frames)
after_retirement name other frames true same = gone name other frames same
after_retirement name other frames false apart = found_others name other frames apart

pub found_step : (name : List ℕ) (count : ℕ) (frames : List Live) (entry : Operation)
    → find_frame name (live_step count frames entry) ≡ seen name count entry (find_frame name frames)
found_step name count frames (Commit seat patch) = refl
found_step name count frames (Register seat other text) = after_registration name other text count frames (text_eq name other) refl
found_step name count frames (Retire seat other) = after_retirement name other frames (text_eq name other) refl
found_step name count frames (Publish other version) = found_published name other version frames

pub found_all : (name : List ℕ) (count : ℕ) (frames : List Live) (later : List Operation)
    → find_frame name (live_from count frames later) ≡ seen_all name count later (find_frame name frames)
found_all name count frames [] = refl
found_all name count frames (entry ∷ rest) =
    found_all name (count + registrations (entry ∷ [])) (live_step count frames entry) rest
    ∙ ap (seen_all name (count + registrations (entry ∷ [])) rest) (found_step name count frames entry)

-- what is live after more entries
pub live_on : (history later : List Operation) (name : List ℕ)
    → live (history ++ later) name ≡ seen_all name (0 + registrations history) later (live history name)
live_on history later name =
    ap (find_frame name) (live_from-more 0 [] history later) ∙ found_all name (0 + registrations history) (live_frames history) later

-- ---- text numbers are counted

abbrev pub IsCounted : ℕ → Option Live → Type 0
IsCounted count None = Unit {0}
IsCounted count (Some frame) = frame.number ≤ count

counted_more : (count more : ℕ) (found : Option Live) → count ≤ more → IsCounted count found → IsCounted more found
counted_more count more None low counted = tt
counted_more count more (Some frame) low counted = omega (arith, low, counted)

published_counted : (count version : ℕ) (frame : Live) (b : Bool) → frame.number ≤ count
    → (cond b (record { name = frame.name; number = frame.number; text = frame.text; published = Some version }) frame).number ≤ count + 0
published_counted count version frame true low = omega (arith, low)
published_counted count version frame false low = omega (arith, low)

register_counted : (other text : List ℕ) (count : ℕ) (found : Option Live) (b : Bool) → IsCounted count found
    → IsCounted (count + 1) (cond b (Some (registered other (suc count) text)) found)
register_counted other text count found true counted = omega arith
register_counted other text count found false counted = counted_more count (count + 1) found (omega arith) counted

retire_counted : (count : ℕ) (found : Option Live) (b : Bool) → IsCounted count found → IsCounted (count + 0) (cond b None found)
retire_counted count found true counted = tt
retire_counted count found false counted = counted_more count (count + 0) found (omega arith) counted

step_counted : (name : List ℕ) (count : ℕ) (entry : Operation) (found : Option Live) → IsCounted count found
    → IsCounted (count + registrations (entry ∷ [])) (seen name count entry found)
step_counted name count (Commit seat patch) found counted = counted_more count (count + 0) found (omega arith) counted
step_counted name count (Register seat other text) found counted = register_counted other text count found (text_eq name other) counted
step_counted name count (Retire seat other) found counted = retire_counted count found (text_eq name other) counted
step_counted name count (Publish other version) None counted = tt
step_counted name count (Publish other version) (Some frame) counted = published_counted count version frame (text_eq other frame.name) counted

pub all_counted : (name : List ℕ) (count : ℕ) (later : List Operation) (found : Option Live) → IsCounted count found
    → IsCounted (count + registrations later) (seen_all name count later found)
all_counted name count [] found counted = counted_more count (count + 0) found (omega arith) counted
all_counted name count (entry ∷ rest) found counted =
    subst (λ (n : ℕ). IsCounted n (seen_all name (count + registrations (entry ∷ [])) rest (seen name count entry found)))
    (joined (registrations (entry ∷ [])) (registrations rest) ∙ ap (λ (n : ℕ). count + n) (sym (registrations-cons entry rest)))
    (all_counted name (count + registrations (entry ∷ [])) rest (seen name count entry found) (step_counted name count entry found counted))
  where
    joined : (a b : ℕ) → count + a + b ≡ count + (a + b)
    joined a b = omega arith

-- the number of a live text is at most that of the registrations
pub live_is_counted : (history : List Operation) (name : List ℕ) → IsCounted (registrations history) (live history name)
live_is_counted history name =
    subst (IsCounted (registrations history)) (sym (found_all name 0 [] history))
    (counted_more (0 + registrations history) (registrations history) (seen_all name 0 history None) (omega arith) (all_counted name 0 history None tt))

-- ---- what holds of the frames that wait holds of the one that is next

abbrev passes : (Live → Bool) → Option Live → Bool
passes test None = true
passes test (Some frame) = test frame

chosen_passes : (test : Live → Bool) (best frame : Live) (ahead : Bool) → test best ≡ true → test frame ≡ true
    → passes test (cond ahead (Some frame) (Some best)) ≡ true
chosen_passes test best frame true a b = b
chosen_passes test best frame false a b = a

step_passes : (test : Live → Bool) (best : Option Live) (frame : Live) → passes test best ≡ true → test frame ≡ true
    → passes test (first_of best frame) ≡ true
step_passes test None frame a b = b
step_passes test (Some best) frame a b = chosen_passes test best frame (is_before frame best) a b

fold_passes : (test : Live → Bool) (best : Option Live) (frames : List Live) → passes test best ≡ true → list_all test frames ≡ true
    → passes test (fold first_of best frames) ≡ true
fold_passes test best [] a b = a
fold_passes test best (frame ∷ rest) a b =
    let parts = and_parts (test frame) (list_all test rest) b in
    fold_passes test (first_of best frame) rest (step_passes test best frame a parts.0) parts.1

pub first_passes : (test : Live → Bool) (frames : List Live) (frame : Live) → first frames ≡ Some frame → list_all test frames ≡ true
    → test frame ≡ true
first_passes test frames frame e all = subst (λ (found : Option Live). passes test found ≡ true) e (fold_passes test None frames refl all)

filtered_first : (p : Live → Bool) (frame : Live) (rest : List Live) (b : Bool) → p frame ≡ b → list_all p (filter p rest) ≡ true
    → list_all p (cond b (frame ∷ filter p rest) (filter p rest)) ≡ true
filtered_first p frame rest true e ih = and_from (p frame) (list_all p (filter p rest)) e ih
filtered_first p frame rest false e ih = ih

pub filtered_passes : (p : Live → Bool) (frames : List Live) → list_all p (filter p frames) ≡ true
filtered_passes p [] = refl
filtered_passes p (frame ∷ rest) = filtered_first p frame rest (p frame) refl (filtered_passes p rest)

pub next_waits : (away : List ℕ) (history : List Operation) (frame : Live) → next_frame away history ≡ Some frame
    → waits away (commits history) frame ≡ true
next_waits away history frame e =
    first_passes (waits away (commits history)) (waiting away history) frame e (filtered_passes (waits away (commits history)) (live_frames history))

pub next_is_older : (away : List ℕ) (history : List Operation) (frame : Live) → next_frame away history ≡ Some frame
    → is_older (commits history) frame.published ≡ true
next_is_older away history frame e = (and_parts (is_older (commits history) frame.published) _ (next_waits away history frame e)).0

-- ---- what is found has the name

found_named_at : (name : List ℕ) (first_one frame : Live) (rest : List Live) (b : Bool) → text_eq name first_one.name ≡ b
    → cond b (Some first_one) (find_frame name rest) ≡ Some frame → (find_frame name rest ≡ Some frame → frame.name ≡ name)
    → frame.name ≡ name
found_named_at name first_one frame rest true here e ih =
    let is : first_one ≡ frame = cc in
    ap (λ (f : Live). f.name) (sym is) ∙ sym ((bytes_decides name first_one.name).0 here)
found_named_at name first_one frame rest false here e ih = ih e

pub found_named : (name : List ℕ) (frames : List Live) (frame : Live) → find_frame name frames ≡ Some frame → frame.name ≡ name
found_named name [] frame e = cc
found_named name (first_one ∷ rest) frame e =
    found_named_at name first_one frame rest (text_eq name first_one.name) refl e (found_named name rest frame)

-- ---- no frame is next only where none waits

is_there : Option Live → Bool
is_there None = false
is_there (Some frame) = true

chosen_there : (best frame : Live) (ahead : Bool) → is_there (cond ahead (Some frame) (Some best)) ≡ true
unfolding is_there
chosen_there best frame true = refl
chosen_there best frame false = refl

step_there : (best : Option Live) (frame : Live) → is_there (first_of best frame) ≡ true
unfolding is_there
step_there None frame = refl
step_there (Some best) frame = chosen_there best frame (is_before frame best)

fold_there : (best : Option Live) (frames : List Live) → is_there best ≡ true → is_there (fold first_of best frames) ≡ true
fold_there best [] there = there
fold_there best (frame ∷ rest) there = fold_there (first_of best frame) rest (step_there best frame)

none_first : (frames : List Live) → first frames ≡ None → frames ≡ []
unfolding is_there
none_first [] e = refl
none_first (frame ∷ rest) e = absurd (false≢true (sym (ap is_there e) ∙ fold_there (Some frame) rest refl))

pub none_waits : (away : List ℕ) (history : List Operation) → next_frame away history ≡ None → waiting away history ≡ []
none_waits away history e = none_first (waiting away history) e
