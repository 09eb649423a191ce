-- What stands of each live frame in a legal history: its name is one of a frame, and its published version was committed.
use Rattle.std.proofs.Common.{◌≡◌, refl, sym, ◌∙◌, ap, subst, ◌+◌, ◌≤◌, ℕ, List, [], ◌∷◌, ◌++◌, map, suc, Bool, true, false, not, cond, Option, Some, None, arith, IsTrue}
use Rattle.std.proofs.lemmas.List.{append-nil, append_assoc}
use Rattle.std.specs.Cmp.Lexicographic.{bytes_decides}
use Rattle.lf_rdf.specs.Equality.{text_eq}
use Rattle.def_histories.specs.declared.live.Live.{Live}
use Rattle.def_histories.specs.declared.operation.Operation.{Operation}
use Rattle.def_histories.specs.declared.operation.Operation.TheVariants.{Commit, Register, Retire, Publish}
use Rattle.def_histories.specs.History.{commits, registrations, live_step, without, registered, publish, find_frame, live_frames}
use Rattle.def_histories.specs.Legal.{is_frame_name, IsAllowed, IsLegal}
use Rattle.def_histories.specs.HistoryLaws.{PublishedWasCommitted, LiveIsNamed}
use Rattle.def_histories.proofs.Appended.{commits-append}
use Rattle.def_histories.proofs.LiveProofs.{live_frames_step}

-- a version was committed, where there is one
abbrev pub IsWithin : ℕ → Option ℕ → Type 0
IsWithin most None = Unit {0}
IsWithin most (Some version) = version ≤ most

pub record Stands (most : ℕ) (frame : Live) : Type 0 where
  pub within : IsWithin most frame.published
  pub named : IsTrue (is_frame_name frame.name)

abbrev pub AllStand : ℕ → List Live → Type 0
AllStand most [] = Unit {0}
AllStand most (frame ∷ rest) = Stands most frame × AllStand most rest

-- ---- more commits, and lists of frames

within-more : (most more : ℕ) (version : Option ℕ) → most ≤ more → IsWithin most version → IsWithin more version
within-more most more None low within = tt
within-more most more (Some version) low within = omega arith

stand-more : (most more : ℕ) (frames : List Live) → most ≤ more → AllStand most frames → AllStand more frames
stand-more most more [] low all = tt
stand-more most more (frame ∷ rest) low all =
    (record { within = within-more most more frame.published low all.0.within; named = all.0.named }, stand-more most more rest low all.1)

stand-append : (most : ℕ) (one : List Live) (last : Live) → AllStand most one → Stands most last → AllStand most (one ++ last ∷ [])
stand-append most [] last all stands = (stands, tt)
stand-append most (frame ∷ rest) last all stands = (all.0, stand-append most rest last all.1 stands)

stand-cond : (most : ℕ) (frame : Live) (rest : List Live) (b : Bool) → Stands most frame → AllStand most rest
    → AllStand most (cond b (frame ∷ rest) rest)
stand-cond most frame rest true stands all = (stands, all)
stand-cond most frame rest false stands all = all

stand-without : (most : ℕ) (name : List ℕ) (frames : List Live) → AllStand most frames → AllStand most (without name frames)
stand-without most name [] all = tt
stand-without most name (frame ∷ rest) all =
    stand-cond most frame (without name rest) (not (text_eq name frame.name)) all.0 (stand-without most name rest all.1)

stand-published : (most version : ℕ) (frame : Live) (b : Bool) → version ≤ most → Stands most frame
    → Stands most (cond b (record { name = frame.name; number = frame.number; text = frame.text; published = Some version }) frame)
stand-published most version frame true low stands = record { within = low; named = stands.named }
stand-published most version frame false low stands = stands

stand-publish : (most version : ℕ) (name : List ℕ) (frames : List Live) → version ≤ most → AllStand most frames
    → AllStand most (map (publish name version) frames)
stand-publish most version name [] low all = tt
stand-publish most version name (frame ∷ rest) low all = (
  stand-published most version frame (text_eq name frame.name) low all.0,
  stand-publish most version name rest low all.1,
)

-- ---- one more entry

counts : (history : List Operation) (entry : Operation) (n : ℕ) → commits (entry ∷ []) ≡ n → commits history + n ≡ commits (history ++ entry ∷ [])
counts history entry n e = sym (commits-append history (entry ∷ []) ∙ ap (λ (k : ℕ). commits history + k) e)

stand-step : (accepts : List ℕ → Bool) (history : List Operation) (entry : Operation) → IsAllowed accepts history entry
    → AllStand (commits history) (live_frames history)
    → AllStand (commits (history ++ entry ∷ [])) (live_step (registrations history) (live_frames history) entry)
stand-step accepts history (Commit seat patch) allowed all =
    stand-more (commits history) (commits (history ++ Commit seat patch ∷ [])) (live_frames history) more all
  where
    more : commits history ≤ commits (history ++ Commit seat patch ∷ [])
    more = let e = counts history (Commit seat patch) 1 refl in omega arith
stand-step accepts history (Register seat name text) allowed all =
    stand-append _ (without name (live_frames history)) (registered name (suc (registrations history)) text)
    (stand-without _ name (live_frames history) (stand-more (commits history) _ (live_frames history) more all))
    (record { within = tt; named = allowed.named })
  where
    more : commits history ≤ commits (history ++ Register seat name text ∷ [])
    more = let e = counts history (Register seat name text) 0 refl in omega arith
stand-step accepts history (Retire seat name) allowed all =
    stand-without _ name (live_frames history) (stand-more (commits history) _ (live_frames history) more all)
  where
    more : commits history ≤ commits (history ++ Retire seat name ∷ [])
    more = let e = counts history (Retire seat name) 0 refl in omega arith
stand-step accepts history (Publish name version) allowed all =
    stand-publish _ version name (live_frames history) low (stand-more (commits history) _ (live_frames history) more all)
  where
    more : commits history ≤ commits (history ++ Publish name version ∷ [])
    more = let e = counts history (Publish name version) 0 refl in omega arith

    low : version ≤ commits (history ++ Publish name version ∷ [])
    low = let most : version ≤ commits history = allowed.0 in let grown : commits history ≤ commits (history ++ Publish name version ∷ []) = more in omega arith

-- entry by entry
stand-from : (accepts : List ℕ → Bool) (history rest : List Operation) → IsLegal accepts (history ++ rest)
    → AllStand (commits history) (live_frames history) → AllStand (commits (history ++ rest)) (live_frames (history ++ rest))
stand-from accepts history [] legal all =
    subst (λ (h : List Operation). AllStand (commits h) (live_frames h)) (sym (append-nil history)) all
stand-from accepts history (entry ∷ rest) legal all =
    subst (λ (h : List Operation). AllStand (commits h) (live_frames h)) moved
    (stand-from accepts (history ++ entry ∷ []) rest (subst (IsLegal accepts) (sym moved) legal)
    (subst (AllStand (commits (history ++ entry ∷ []))) (sym (live_frames_step history entry))
    (stand-step accepts history entry (legal history entry rest refl) all)))
  where
    moved : (history ++ entry ∷ []) ++ rest ≡ history ++ entry ∷ rest
    moved = append_assoc history (entry ∷ []) rest

pub all_stand : (accepts : List ℕ → Bool) (history : List Operation) → IsLegal accepts history
    → AllStand (commits history) (live_frames history)
all_stand accepts history legal = stand-from accepts [] history legal tt

-- ---- the one that is found

found-stands : (most : ℕ) (name : List ℕ) (frames : List Live) (frame : Live) → AllStand most frames
    → find_frame name frames ≡ Some frame → Stands most frame × (frame.name ≡ name)
found-stands most name [] frame all e = cc
found-stands most name (first ∷ rest) frame all e =
    by (text_eq name first.name) refl e (found-stands most name rest frame all.1)
  where
    by : (b : Bool) → text_eq name first.name ≡ b → cond b (Some first) (find_frame name rest) ≡ Some frame
        → (find_frame name rest ≡ Some frame → Stands most frame × (frame.name ≡ name))
        → Stands most frame × (frame.name ≡ name)
    by true here same later =
        let is : first ≡ frame = cc in
        (subst (Stands most) is all.0, ap (λ (f : Live). f.name) (sym is) ∙ sym ((bytes_decides name first.name).0 here))
    by false here same later = later same

within-some : (most : ℕ) (published : Option ℕ) (version : ℕ) → published ≡ Some version → IsWithin most published → version ≤ most
within-some most published version e within = subst (IsWithin most) e within

pub published_was_committed : PublishedWasCommitted
published_was_committed accepts history name frame version legal found e =
    within-some (commits history) frame.published version e
    (found-stands (commits history) name (live_frames history) frame (all_stand accepts history legal) found).0.within

pub live_is_named : LiveIsNamed
live_is_named accepts history name frame legal found =
    let both = found-stands (commits history) name (live_frames history) frame (all_stand accepts history legal) found in
    (both.1, subst (λ (n : List ℕ). IsTrue (is_frame_name n)) both.1 both.0.named)
