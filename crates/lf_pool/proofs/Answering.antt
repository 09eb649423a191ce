-- Why a board that was turned isn't published.
use Rattle.std.proofs.Common.{◌≡◌, ◌≢◌, ◌⊎◌, inl, inr, refl, sym, ◌∙◌, ap, subst, suc, ◌+◌, ◌≤◌, ℕ, nat_eq, List, [], ◌∷◌, ◌++◌, length, Bool, true, false, not, ◌||◌, cond, Option, Some, None, arith}
use Rattle.std.proofs.lemmas.Bool.{eq-eqb, eqb-true, false≢true}
use Rattle.std.proofs.lemmas.List.{append-nil, append_assoc}
use Rattle.std.proofs.lemmas.List.Folds.{list_any-append}
use Rattle.std.specs.List.{list_any}
use Rattle.std.specs.Cmp.Lexicographic.{bytes_decides}
use Rattle.lf_rdf.specs.Equality.{text_eq}
use Rattle.def_histories.specs.declared.live.Live.{Live}
use Rattle.def_histories.specs.declared.operation.Operation.{Operation}
use Rattle.def_histories.specs.declared.operation.Operation.TheVariants.{Commit, Register, Retire, Publish}
use Rattle.def_histories.specs.History.{commits, live, live_frames, patches, registered, registrations}
use Rattle.def_histories.specs.Jobs.{Job}
use Rattle.def_turns.specs.declared.turned.Given.{Given}
use Rattle.def_turns.specs.declared.turned.Given.TheVariants.{Publishes, GoesHome, IsSuperseded}
use Rattle.def_turns.specs.declared.turned.Turned.{Turned}
use Rattle.def_turns.specs.declared.turned.Turned.TheVariants as t
use Rattle.def_turns.specs.Turns.{given_back, given_to, home_or_published, is_newer, is_older, kind_of}
use Rattle.lf_desk.specs.Rotas.{board_number}
use Rattle.lf_desk.proofs.Found.{IsCounted, found_named, live_is_counted, live_on, next_is_older, seen, seen_all}
use Rattle.lf_pool.specs.Causes.{HasNew, HomeWasPublished, NewerIsPublished, PublishedStandsLast, SupersededWasChanged, ends, number_of, publishes}

none_of : (a b : Bool) → (a || b) ≡ false → (a ≡ false) × (b ≡ false)
none_of true b e = absurd (false≢true (sym e))
none_of false b e = (refl, e)

-- ---- an answer by its kind

abbrev pub name_of : Turned → List ℕ
name_of t.Idle = []
name_of (t.Published name version) = name
name_of (t.Home name version) = name
name_of (t.Superseded name was now) = name

abbrev was_of : Turned → ℕ
was_of t.Idle = 0
was_of (t.Published name version) = 0
was_of (t.Home name version) = 0
was_of (t.Superseded name was now) = was

abbrev now_of : Turned → Option ℕ
now_of t.Idle = None
now_of (t.Published name version) = None
now_of (t.Home name version) = None
now_of (t.Superseded name was now) = now

abbrev is_home : Given → Bool
is_home Publishes = false
is_home GoesHome = true
is_home IsSuperseded = false

abbrev is_superseded : Given → Bool
is_superseded Publishes = false
is_superseded GoesHome = false
is_superseded IsSuperseded = true

-- the name of the answer is that of the board's frame

home_name : (name : List ℕ) (reached : ℕ) (b : Bool) → name_of (cond b (t.Published name reached) (t.Home name (Some reached))) ≡ name
home_name name reached true = refl
home_name name reached false = refl

home_named : (name : List ℕ) (version published : Option ℕ) → name_of (home_or_published name version published) ≡ name
home_named name None published = refl
home_named name (Some reached) published = home_name name reached (is_newer reached published)

text_named : (name : List ℕ) (version : Option ℕ) (frame : Live) (number : ℕ) (b : Bool)
    → name_of (cond b (home_or_published name version frame.published) (t.Superseded name number (Some frame.number))) ≡ name
text_named name version frame number true = home_named name version frame.published
text_named name version frame number false = refl

pub given_name : (found : Option Live) (name : List ℕ) (number : ℕ) (version : Option ℕ) → name_of (given_to found name number version) ≡ name
given_name None name number version = refl
given_name (Some frame) name number version = text_named name version frame number (nat_eq frame.number number)

-- ---- a live text of which nothing is published in the meantime

-- the frame has the name, and where it still has the text its published version stayed
abbrev Stays : List ℕ → ℕ → Option ℕ → Option Live → Type 0
Stays name number published None = Unit {0}
Stays name number published (Some frame) = (frame.name ≡ name) × (frame.number ≡ number → frame.published ≡ published)

register_stays : (name other text : List ℕ) (number count : ℕ) (published : Option ℕ) (found : Option Live) (b : Bool) → text_eq name other ≡ b
    → number ≤ count → Stays name number published found
    → Stays name number published (cond b (Some (registered other (suc count) text)) found)
register_stays name other text number count published found true same low stays =
    (sym ((bytes_decides name other).0 same), λ again. absurd (later again))
  where
    later : suc count ≡ number → ⊥
    later again = omega (arith, again, low)
register_stays name other text number count published found false apart low stays = stays

retire_stays : (name : List ℕ) (number : ℕ) (published : Option ℕ) (found : Option Live) (b : Bool) → Stays name number published found
    → Stays name number published (cond b None found)
retire_stays name number published found true stays = tt
retire_stays name number published found false stays = stays

other_published : (name other : List ℕ) (version number : ℕ) (published : Option ℕ) (frame : Live) (b : Bool) → text_eq other frame.name ≡ b
    → text_eq name other ≡ false → Stays name number published (Some frame)
    → Stays name number published (Some (cond b (record { name = frame.name; number = frame.number; text = frame.text; published = Some version }) frame))
other_published name other version number published frame true same apart stays = absurd (false≢true (sym apart ∙ equal))
  where
    equal : text_eq name other ≡ true
    equal = (bytes_decides name other).1 (sym ((bytes_decides other frame.name).0 same ∙ stays.0))
other_published name other version number published frame false same apart stays = stays

step_stays : (name : List ℕ) (number count : ℕ) (published : Option ℕ) (entry : Operation) (found : Option Live)
    → publishes name entry ≡ false → number ≤ count → Stays name number published found
    → Stays name number published (seen name count entry found)
step_stays name number count published (Commit seat patch) found none low stays = stays
step_stays name number count published (Register seat other text) found none low stays =
    register_stays name other text number count published found (text_eq name other) refl low stays
step_stays name number count published (Retire seat other) found none low stays =
    retire_stays name number published found (text_eq name other) stays
step_stays name number count published (Publish other version) None none low stays = tt
step_stays name number count published (Publish other version) (Some frame) none low stays =
    other_published name other version number published frame (text_eq other frame.name) refl none stays

all_stay : (name : List ℕ) (number count : ℕ) (published : Option ℕ) (later : List Operation) (found : Option Live)
    → list_any (publishes name) later ≡ false → number ≤ count → Stays name number published found
    → Stays name number published (seen_all name count later found)
all_stay name number count published [] found none low stays = stays
all_stay name number count published (entry ∷ rest) found none low stays =
    let parts = none_of (publishes name entry) (list_any (publishes name) rest) none in
    all_stay name number (count + registrations (entry ∷ [])) published rest (seen name count entry found) parts.1
    (grown (registrations (entry ∷ []))) (step_stays name number count published entry found parts.0 low stays)
  where
    grown : (more : ℕ) → number ≤ count + more
    grown more = omega (arith, low)

-- older than the newest is what the newest is newer than
newer_too : (newest : ℕ) (published : Option ℕ) → is_older newest published ≡ true → is_newer newest published ≡ true
newer_too newest None e = refl
newer_too newest (Some version) e = e

not_home_at : (name : List ℕ) (newest : ℕ) (published : Option ℕ) → is_newer newest published ≡ true
    → is_home (kind_of (home_or_published name (Some newest) published)) ≡ false
not_home_at name newest published newer = rw newer refl

not_home_text : (name : List ℕ) (number newest : ℕ) (frame : Live) (b : Bool)
    → (b ≡ true → is_newer newest frame.published ≡ true)
    → is_home (kind_of (cond b (home_or_published name (Some newest) frame.published) (t.Superseded name number (Some frame.number)))) ≡ false
not_home_text name number newest frame true newer = not_home_at name newest frame.published (newer refl)
not_home_text name number newest frame false newer = refl

not_home : (name : List ℕ) (number newest : ℕ) (published : Option ℕ) (found : Option Live) → is_older newest published ≡ true
    → Stays name number published found → is_home (kind_of (given_to found name number (Some newest))) ≡ false
not_home name number newest published None older stays = refl
not_home name number newest published (Some frame) older stays =
    not_home_text name number newest frame (nat_eq frame.number number)
    (λ same. ap (is_newer newest) (stays.1 (eqb-true frame.number number same)) ∙ newer_too newest published older)

-- ---- a live text that is neither registered anew nor retired

abbrev Lives : ℕ → Option Live → Type 0
Lives number None = ⊥
Lives number (Some frame) = frame.number ≡ number

denied : (b : Bool) → not (not b) ≡ false → b ≡ false
denied true e = absurd (false≢true (sym e))
denied false e = refl

register_lives : (other text : List ℕ) (number count : ℕ) (found : Option Live) (b : Bool) → b ≡ false → Lives number found
    → Lives number (cond b (Some (registered other (suc count) text)) found)
register_lives other text number count found true apart lives = absurd (false≢true (sym apart))
register_lives other text number count found false apart lives = lives

retire_lives : (number : ℕ) (found : Option Live) (b : Bool) → b ≡ false → Lives number found → Lives number (cond b None found)
retire_lives number found true apart lives = absurd (false≢true (sym apart))
retire_lives number found false apart lives = lives

published_lives : (number version : ℕ) (frame : Live) (b : Bool) → frame.number ≡ number
    → Lives number (Some (cond b (record { name = frame.name; number = frame.number; text = frame.text; published = Some version }) frame))
published_lives number version frame true same = same
published_lives number version frame false same = same

step_lives : (name : List ℕ) (number count : ℕ) (entry : Operation) (found : Option Live) → ends name entry ≡ false → Lives number found
    → Lives number (seen name count entry found)
step_lives name number count (Commit seat patch) found kept lives = lives
step_lives name number count (Register seat other text) found kept lives =
    register_lives other text number count found (text_eq name other) (denied (text_eq name other) kept) lives
step_lives name number count (Retire seat other) found kept lives =
    retire_lives number found (text_eq name other) (denied (text_eq name other) kept) lives
step_lives name number count (Publish other version) None kept lives = absurd lives
step_lives name number count (Publish other version) (Some frame) kept lives =
    published_lives number version frame (text_eq other frame.name) lives

all_live : (name : List ℕ) (number count : ℕ) (later : List Operation) (found : Option Live) → list_any (ends name) later ≡ false
    → Lives number found → Lives number (seen_all name count later found)
all_live name number count [] found kept lives = lives
all_live name number count (entry ∷ rest) found kept lives =
    let parts = none_of (ends name entry) (list_any (ends name) rest) kept in
    all_live name number (count + registrations (entry ∷ [])) rest (seen name count entry found) parts.1
    (step_lives name number count entry found parts.0 lives)

not_superseded_at : (name : List ℕ) (version published : Option ℕ) → is_superseded (kind_of (home_or_published name version published)) ≡ false
not_superseded_at name None published = refl
not_superseded_at name (Some reached) published = go (is_newer reached published)
  where
    go : (b : Bool) → is_superseded (kind_of (cond b (t.Published name reached) (t.Home name (Some reached)))) ≡ false
    go true = refl
    go false = refl

not_superseded : (name : List ℕ) (number : ℕ) (version : Option ℕ) (found : Option Live) → Lives number found
    → is_superseded (kind_of (given_to found name number version)) ≡ false
not_superseded name number version None lives = absurd lives
not_superseded name number version (Some frame) lives =
    rw (same) (not_superseded_at name version frame.published)
  where
    same : nat_eq frame.number number ≡ true
    same = ap (λ (n : ℕ). nat_eq n number) lives ∙ eq-eqb number number refl

-- what a superseded board tells
abbrev Tells : Option Live → Turned → Type 0
Tells found turned = (now_of turned ≡ number_of found) × (now_of turned ≢ Some (was_of turned))

apart_at : (frame : Live) (number : ℕ) → nat_eq frame.number number ≡ false → Some frame.number ≢ Some number
apart_at frame number apart same =
    let is : frame.number ≡ number = cc in
    false≢true (sym apart ∙ (ap (λ (n : ℕ). nat_eq n number) is ∙ eq-eqb number number refl))

none_apart : (number : ℕ) → None ≢ Some number
none_apart number same = false≢true (ap there same)
  where
    there : Option ℕ → Bool
    there None = false
    there (Some n) = true

superseded_tells : (name : List ℕ) (number : ℕ) (version : Option ℕ) (frame : Live) (b : Bool) → nat_eq frame.number number ≡ b
    → is_superseded (kind_of (cond b (home_or_published name version frame.published) (t.Superseded name number (Some frame.number)))) ≡ true
    → Tells (Some frame) (cond b (home_or_published name version frame.published) (t.Superseded name number (Some frame.number)))
superseded_tells name number version frame true e is =
    absurd (false≢true (sym (not_superseded_at name version frame.published) ∙ is))
superseded_tells name number version frame false e is = (refl, apart_at frame number e)

tells : (name : List ℕ) (number : ℕ) (version : Option ℕ) (found : Option Live)
    → is_superseded (kind_of (given_to found name number version)) ≡ true → Tells found (given_to found name number version)
tells name number version None is = (refl, none_apart number)
tells name number version (Some frame) is = superseded_tells name number version frame (nat_eq frame.number number) refl is

-- ---- what is new from the take to the give

newest_of : (history : List Operation) (job : Job) → job.target ≡ patches history → length job.target ≡ commits history
newest_of history job target = ap length target

-- among the entries from the take to the give is one that publishes the frame, where the turned board isn't published
pub home_new : (taken_at fresh : List Operation) (job : Job) (frame : Live)
    → live taken_at job.name ≡ Some frame → frame.name ≡ job.name → job.number ≡ frame.number → job.target ≡ patches taken_at
    → is_older (commits taken_at) frame.published ≡ true
    → is_home (kind_of (given_back (taken_at ++ fresh) job.name job.number (Some (length job.target)))) ≡ true
    → list_any (publishes job.name) fresh ≡ true
home_new taken_at fresh job frame is_live named number target older home = go (list_any (publishes job.name) fresh) refl
  where
    low : job.number ≤ 0 + registrations taken_at
    low =
        let counted : frame.number ≤ registrations taken_at = subst (IsCounted (registrations taken_at)) is_live (live_is_counted taken_at job.name) in
        omega (arith, counted, number)

    first_stays : Stays job.name job.number frame.published (live taken_at job.name)
    first_stays = subst (Stays job.name job.number frame.published) (sym is_live) (named, λ _. refl)

    stays : list_any (publishes job.name) fresh ≡ false → Stays job.name job.number frame.published (live (taken_at ++ fresh) job.name)
    stays none =
        subst (Stays job.name job.number frame.published) (sym (live_on taken_at fresh job.name))
        (all_stay job.name job.number (0 + registrations taken_at) frame.published fresh (live taken_at job.name) none low first_stays)

    at_newest : is_home (kind_of (given_back (taken_at ++ fresh) job.name job.number (Some (commits taken_at)))) ≡ true
    at_newest =
        subst (λ (n : ℕ). is_home (kind_of (given_back (taken_at ++ fresh) job.name job.number (Some n))) ≡ true)
        (newest_of taken_at job target) home

    go : (b : Bool) → list_any (publishes job.name) fresh ≡ b → b ≡ true
    go true e = refl
    go false e =
        absurd
        (false≢true
        (sym (not_home job.name job.number (commits taken_at) frame.published (live (taken_at ++ fresh) job.name) older (stays e)) ∙ at_newest))

-- and one that ends its text, where the board is superseded
pub superseded_new : (taken_at fresh : List Operation) (job : Job) (frame : Live) (version : Option ℕ)
    → live taken_at job.name ≡ Some frame → job.number ≡ frame.number
    → is_superseded (kind_of (given_back (taken_at ++ fresh) job.name job.number version)) ≡ true
    → list_any (ends job.name) fresh ≡ true
superseded_new taken_at fresh job frame version is_live number superseded = go (list_any (ends job.name) fresh) refl
  where
    first_lives : Lives job.number (live taken_at job.name)
    first_lives = subst (Lives job.number) (sym is_live) (sym number)

    lives : list_any (ends job.name) fresh ≡ false → Lives job.number (live (taken_at ++ fresh) job.name)
    lives none =
        subst (Lives job.number) (sym (live_on taken_at fresh job.name))
        (all_live job.name job.number (0 + registrations taken_at) fresh (live taken_at job.name) none first_lives)

    go : (b : Bool) → list_any (ends job.name) fresh ≡ b → b ≡ true
    go true e = refl
    go false e =
        absurd
        (false≢true (sym (not_superseded job.name job.number version (live (taken_at ++ fresh) job.name) (lives e)) ∙ superseded))

-- ---- the answers

pub named : (history : List Operation) (name : List ℕ) (frame : Live) → live history name ≡ Some frame → frame.name ≡ name
named history name frame e = found_named name (live_frames history) frame e

any_behind : (p : Operation → Bool) (one two : List Operation) → list_any p two ≡ true → list_any p (one ++ two) ≡ true
any_behind p one two e = list_any-append p one two ∙ ap (λ (b : Bool). list_any p one || b) e ∙ or_true (list_any p one)
  where
    or_true : (a : Bool) → (a || true) ≡ true
    or_true true = refl
    or_true false = refl

-- entries of the middle are new
new_between : (test : Operation → Bool) (before taken_at given_at after first fresh : List Operation)
    → taken_at ≡ before ++ first → given_at ≡ taken_at ++ fresh → after ≡ given_at ++ [] → list_any test fresh ≡ true → HasNew test before after
new_between test before taken_at given_at after first fresh came went is among = record {
  fresh = first ++ fresh;
  follows = is ∙ (append-nil given_at ∙ (went ∙ (ap (λ (w : List Operation). w ++ fresh) came ∙ append_assoc before first fresh)));
  among = any_behind test first fresh among;
}

pub published_stands_last : PublishedStandsLast
published_stands_last alone seat before after away away_after taken taken_after name version made =
    (made.given.given_at, made.given.answer.0)

-- the second way of an answer is a publication
only_published : (turned : Turned) (kind : Given) → kind_of turned ≡ kind → (is_home kind || is_superseded kind) ≡ true → kind_of turned ≡ Publishes → ⊥
only_published turned kind is other published =
    false≢true (sym (ap (λ (k : Given). is_home k || is_superseded k) published) ∙ (ap (λ (k : Given). is_home k || is_superseded k) is ∙ other))

pub home_was_published : HomeWasPublished
home_was_published alone seat before after away away_after taken taken_after name version made = go made.given.answer.1
  where
    among : t.Home name version ≡ given_back made.given.given_at made.job.name made.job.number (Some (length made.job.target))
        → list_any (publishes made.job.name) made.given.went.more ≡ true
    among e =
        home_new made.taken_at made.given.went.more made.job made.is.frame made.is.live (named made.taken_at made.job.name made.is.frame made.is.live)
        made.is.number made.is.target (next_is_older _ made.taken_at made.is.frame made.is.next)
        (ap (λ (h : List Operation). is_home (kind_of (given_back h made.job.name made.job.number (Some (length made.job.target))))) (sym made.given.went.follows)
        ∙ sym (ap (λ (x : Turned). is_home (kind_of x)) e))

    name_is : t.Home name version ≡ given_back made.given.given_at made.job.name made.job.number (Some (length made.job.target)) → made.job.name ≡ name
    name_is e =
        sym (ap name_of e ∙ given_name (live made.given.given_at made.job.name) made.job.name made.job.number (Some (length made.job.target)))

    go : (t.Home name version ≡ given_back made.given.given_at made.job.name made.job.number (Some (length made.job.target)))
        ⊎ ((t.Home name version ≡ given_back made.given.given_at made.job.name made.job.number (board_number made.job.board)) × (GoesHome ≡ Publishes))
        → HasNew (publishes name) before after
    go (inl e) =
        subst (λ (n : List ℕ). HasNew (publishes n) before after) (name_is e)
        (new_between (publishes made.job.name) before made.taken_at made.given.given_at after made.came.more made.given.went.more made.came.follows
        made.given.went.follows made.given.answer.0 (among e))
    go (inr (e, kind)) = absurd (only_published (t.Home name version) GoesHome refl refl kind)

pub superseded_was_changed : SupersededWasChanged
superseded_was_changed alone seat before after away away_after taken taken_after name was now made = go made.given.answer.1
  where
    same_history : after ≡ made.given.given_at
    same_history = made.given.answer.0 ∙ append-nil made.given.given_at

    is_told : t.Superseded name was now ≡ given_back made.given.given_at made.job.name made.job.number (Some (length made.job.target))
        → (now ≡ number_of (live made.given.given_at made.job.name)) × (now ≢ Some was)
    is_told e =
        subst (Tells (live made.given.given_at made.job.name)) (sym e)
        (tells made.job.name made.job.number (Some (length made.job.target)) (live made.given.given_at made.job.name)
        (sym (ap (λ (x : Turned). is_superseded (kind_of x)) e)))

    name_is : t.Superseded name was now ≡ given_back made.given.given_at made.job.name made.job.number (Some (length made.job.target)) → made.job.name ≡ name
    name_is e =
        sym (ap name_of e ∙ given_name (live made.given.given_at made.job.name) made.job.name made.job.number (Some (length made.job.target)))

    among : t.Superseded name was now ≡ given_back made.given.given_at made.job.name made.job.number (Some (length made.job.target))
        → list_any (ends made.job.name) made.given.went.more ≡ true
    among e =
        superseded_new made.taken_at made.given.went.more made.job made.is.frame (Some (length made.job.target)) made.is.live made.is.number
        (ap (λ (h : List Operation). is_superseded (kind_of (given_back h made.job.name made.job.number (Some (length made.job.target))))) (sym made.given.went.follows)
        ∙ sym (ap (λ (x : Turned). is_superseded (kind_of x)) e))

    go : (t.Superseded name was now ≡ given_back made.given.given_at made.job.name made.job.number (Some (length made.job.target)))
        ⊎ ((t.Superseded name was now ≡ given_back made.given.given_at made.job.name made.job.number (board_number made.job.board)) × (IsSuperseded ≡ Publishes))
        → HasNew (ends name) before after × (now ≡ number_of (live after name)) × (now ≢ Some was)
    go (inl e) =
        subst (λ (n : List ℕ). HasNew (ends n) before after × (now ≡ number_of (live after n)) × (now ≢ Some was)) (name_is e) (
          new_between (ends made.job.name) before made.taken_at made.given.given_at after made.came.more made.given.went.more made.came.follows
              made.given.went.follows made.given.answer.0 (among e),
          (is_told e).0 ∙ ap (λ (h : List Operation). number_of (live h made.job.name)) (sym same_history),
          (is_told e).1,
        )
    go (inr (e, kind)) = absurd (only_published (t.Superseded name was now) IsSuperseded refl refl kind)

pub newer_is_published : NewerIsPublished
newer_is_published history name number version frame is_live same newer =
    ap (λ (found : Option Live). given_to found name number (Some version)) is_live ∙ at_frame
  where
    numbered : nat_eq frame.number number ≡ true
    numbered = ap (λ (n : ℕ). nat_eq n number) same ∙ eq-eqb number number refl

    at_frame : given_to (Some frame) name number (Some version) ≡ t.Published name version
    at_frame = rw (numbered, newer) refl
