-- What comes of a board that is given back, by its kind.
use Rattle.std.proofs.Common.{◌≡◌, ◌≤◌, refl, sym, ◌∙◌, ap, ℕ, nat_eq, List, Bool, true, false, cond, Option, Some, None}
use Rattle.std.proofs.lemmas.Bool.{eqb-true, false≢true, ltb-true}
use Rattle.std.specs.Option.{option_map}
use Rattle.def_histories.specs.declared.live.Live.{Live}
use Rattle.def_histories.specs.Legal.{IsNewer}
use Rattle.def_turns.specs.declared.turned.Given.{Given}
use Rattle.def_turns.specs.declared.turned.Given.TheVariants.{GoesHome, IsSuperseded, Publishes}
use Rattle.def_turns.specs.declared.turned.Turned.{Turned}
use Rattle.def_turns.specs.declared.turned.Turned.TheVariants as t
use Rattle.def_turns.specs.Turns.{given_to, home_or_published, is_newer, kind_of}
use Rattle.lf_core.specs.Taken.{needs_place}

abbrev goes_home : Given → Bool
goes_home Publishes = false
goes_home GoesHome = true
goes_home IsSuperseded = false

abbrev pub publishes : Given → Bool
publishes Publishes = true
publishes GoesHome = false
publishes IsSuperseded = false

abbrev stays : Given → Bool
stays Publishes = true
stays GoesHome = true
stays IsSuperseded = false

-- ---- it goes home

home_at : (name : List ℕ) (reached : ℕ) (b : Bool) → goes_home (kind_of (cond b (t.Published name reached) (t.Home name (Some reached)))) ≡ true
    → cond b (t.Published name reached) (t.Home name (Some reached)) ≡ t.Home name (Some reached)
home_at name reached true e = absurd (false≢true e)
home_at name reached false e = refl

home_of_live : (name : List ℕ) (version published : Option ℕ) → goes_home (kind_of (home_or_published name version published)) ≡ true
    → home_or_published name version published ≡ t.Home name version
home_of_live name None published e = refl
home_of_live name (Some reached) published e = home_at name reached (is_newer reached published) e

home_of_text : (name : List ℕ) (number : ℕ) (version : Option ℕ) (frame : Live) (b : Bool)
    → goes_home (kind_of (cond b (home_or_published name version frame.published) (t.Superseded name number (Some frame.number)))) ≡ true
    → cond b (home_or_published name version frame.published) (t.Superseded name number (Some frame.number)) ≡ t.Home name version
home_of_text name number version frame true e = home_of_live name version frame.published e
home_of_text name number version frame false e = absurd (false≢true e)

pub given_home : (found : Option Live) (name : List ℕ) (number : ℕ) (version : Option ℕ) → kind_of (given_to found name number version) ≡ GoesHome
    → given_to found name number version ≡ t.Home name version
given_home None name number version e = absurd (false≢true (ap goes_home e))
given_home (Some frame) name number version e = home_of_text name number version frame (nat_eq frame.number number) (ap goes_home e)

-- ---- it is superseded

not_superseded : (name : List ℕ) (version published : Option ℕ) → stays (kind_of (home_or_published name version published)) ≡ true
not_superseded name None published = refl
not_superseded name (Some reached) published = by (is_newer reached published)
  where
    by : (b : Bool) → stays (kind_of (cond b (t.Published name reached) (t.Home name (Some reached)))) ≡ true
    by true = refl
    by false = refl

pub home_isnt_superseded : (name : List ℕ) (version published : Option ℕ) → kind_of (home_or_published name version published) ≡ IsSuperseded → ⊥
home_isnt_superseded name version published e = false≢true (sym (ap stays e) ∙ not_superseded name version published)

superseded_text : (name : List ℕ) (number : ℕ) (version : Option ℕ) (frame : Live) (b : Bool)
    → stays (kind_of (cond b (home_or_published name version frame.published) (t.Superseded name number (Some frame.number)))) ≡ false
    → cond b (home_or_published name version frame.published) (t.Superseded name number (Some frame.number)) ≡ t.Superseded name number (Some frame.number)
superseded_text name number version frame true e = absurd (false≢true (sym e ∙ not_superseded name version frame.published))
superseded_text name number version frame false e = refl

pub given_superseded : (found : Option Live) (name : List ℕ) (number : ℕ) (version : Option ℕ) → kind_of (given_to found name number version) ≡ IsSuperseded
    → given_to found name number version ≡ t.Superseded name number (option_map (λ (frame : Live). frame.number) found)
given_superseded None name number version e = refl
given_superseded (Some frame) name number version e = superseded_text name number version frame (nat_eq frame.number number) (ap stays e)

-- ---- its text is live

pub record IsLive (found : Option Live) (wanted : ℕ) : Type 0 where
  pub frame : Live
  pub live : found ≡ Some frame
  pub number : wanted ≡ frame.number

live_text : (name : List ℕ) (number : ℕ) (version : Option ℕ) (frame : Live) (b : Bool) → nat_eq frame.number number ≡ b
    → stays (kind_of (cond b (home_or_published name version frame.published) (t.Superseded name number (Some frame.number)))) ≡ true
    → number ≡ frame.number
live_text name number version frame true same e = sym (eqb-true frame.number number same)
live_text name number version frame false same e = absurd (false≢true e)

live_by : (found : Option Live) (name : List ℕ) (number : ℕ) (version : Option ℕ) → stays (kind_of (given_to found name number version)) ≡ true
    → IsLive found number
live_by None name number version e = absurd (false≢true e)
live_by (Some frame) name number version e =
    record { frame = frame; live = refl; number = live_text name number version frame (nat_eq frame.number number) refl e }

pub home_is_live : (found : Option Live) (name : List ℕ) (number : ℕ) (version : Option ℕ) → kind_of (given_to found name number version) ≡ GoesHome
    → IsLive found number
home_is_live found name number version e = live_by found name number version (ap stays e)

pub published_is_live : (found : Option Live) (name : List ℕ) (number : ℕ) (version : Option ℕ) → kind_of (given_to found name number version) ≡ Publishes
    → IsLive found number
published_is_live found name number version e = live_by found name number version (ap stays e)

-- ---- it is published

pub record IsPublication (found : Option Live) (name : List ℕ) (wanted reached : ℕ) : Type 0 where
  pub frame : Live
  pub live : found ≡ Some frame
  pub number : wanted ≡ frame.number
  pub newer : IsNewer reached frame.published
  pub is : given_to found name wanted (Some reached) ≡ t.Published name reached

newer : (version : ℕ) (published : Option ℕ) → is_newer version published ≡ true → IsNewer version published
newer version None e = tt
newer version (Some before) e = ltb-true before version e

published_at : (name : List ℕ) (reached : ℕ) (published : Option ℕ) (b : Bool) → is_newer reached published ≡ b
    → publishes (kind_of (cond b (t.Published name reached) (t.Home name (Some reached)))) ≡ true
    → IsNewer reached published × (cond b (t.Published name reached) (t.Home name (Some reached)) ≡ t.Published name reached)
published_at name reached published true is e = (newer reached published is, refl)
published_at name reached published false is e = absurd (false≢true e)

published_text : (name : List ℕ) (number reached : ℕ) (frame : Live) (b : Bool) → nat_eq frame.number number ≡ b
    → publishes (kind_of (cond b (home_or_published name (Some reached) frame.published) (t.Superseded name number (Some frame.number)))) ≡ true
    → (number ≡ frame.number)
    × (IsNewer reached frame.published
    × (cond b (home_or_published name (Some reached) frame.published) (t.Superseded name number (Some frame.number)) ≡ t.Published name reached))
published_text name number reached frame true same e =
    (sym (eqb-true frame.number number same), published_at name reached frame.published (is_newer reached frame.published) refl e)
published_text name number reached frame false same e = absurd (false≢true e)

pub given_published : (found : Option Live) (name : List ℕ) (number reached : ℕ) → kind_of (given_to found name number (Some reached)) ≡ Publishes
    → IsPublication found name number reached
given_published None name number reached e = absurd (false≢true (ap publishes e))
given_published (Some frame) name number reached e =
    let told = published_text name number reached frame (nat_eq frame.number number) refl (ap publishes e) in
    record { frame = frame; live = refl; number = told.0; newer = told.1.0; is = told.1.1 }

unturned_text : (name : List ℕ) (number : ℕ) (frame : Live) (b : Bool)
    → publishes (kind_of (cond b (t.Home name None) (t.Superseded name number (Some frame.number)))) ≡ false
unturned_text name number frame true = refl
unturned_text name number frame false = refl

-- a board without a version isn't
pub not_published : (found : Option Live) (name : List ℕ) (number : ℕ) → kind_of (given_to found name number None) ≡ Publishes → ⊥
not_published None name number e = false≢true (ap publishes e)
not_published (Some frame) name number e =
    false≢true (sym (unturned_text name number frame (nat_eq frame.number number)) ∙ ap publishes e)

-- a publication needs a place
pub place_needed : (turned : Turned) (places : ℕ) → kind_of turned ≡ Publishes → needs_place turned places → 1 ≤ places
place_needed t.Idle places e need = absurd (false≢true (ap publishes e))
place_needed (t.Published name version) places e need = need
place_needed (t.Home name version) places e need = absurd (false≢true (ap publishes e))
place_needed (t.Superseded name was now) places e need = absurd (false≢true (ap publishes e))

-- and nothing else does
pub no_place_needed : (turned : Turned) (places : ℕ) → publishes (kind_of turned) ≡ false → needs_place turned places
no_place_needed t.Idle places e = tt
no_place_needed (t.Published name version) places e = absurd (false≢true (sym e))
no_place_needed (t.Home name version) places e = tt
no_place_needed (t.Superseded name was now) places e = tt
