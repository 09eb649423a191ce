-- What is published under a live name, and names that aren't live.
use Rattle.std.proofs.Common.{◌≡◌, refl, sym, ◌∙◌, ap, suc, ◌+◌, ℕ, List, [], ◌∷◌, ◌++◌, map, Bool, true, false, not, cond, Option, Some, None, unwrap_or, is_some, arith}
use Rattle.std.specs.List.{filter, list_all}
use Rattle.lf_model.specs.declared.desk.Notice.{Notice}
use Rattle.def_histories.specs.Replay.{notices}
use Rattle.std.proofs.lemmas.Bool.{false≢true, and_parts}
use Rattle.std.specs.Cmp.Lexicographic.{bytes_decides}
use Rattle.lf_rdf.specs.Equality.{text_eq}
use Rattle.def_histories.specs.declared.live.Live.{Live}
use Rattle.def_histories.specs.declared.operation.Operation.{Operation}
use Rattle.def_histories.specs.declared.operation.Operation.TheVariants.{Commit, Register, Retire, Publish}
use Rattle.def_histories.specs.History.{registrations, live_step, live_from, live_frames, without, registered, publish, find_frame}
use Rattle.def_histories.specs.HistoryLaws.{PublishedIsLast, AbsentUntilRegistered, registers, keeps, versions_under, last_after, with_published}
use Rattle.def_histories.proofs.Appended.{live_from-more}
use Rattle.def_histories.proofs.LiveProofs.{text_is, found_without, found_behind, found_others, found_before}

denied : (b : Bool) → not b ≡ true → b ≡ false
denied true e = absurd (false≢true e)
denied false e = refl

-- ---- the frame that is found, with one more publication

name_at : (name other : List ℕ) (version : ℕ) (frame : Live) (b : Bool)
    → (cond b (with_published frame (Some version)) frame).name ≡ frame.name
name_at name other version frame true = refl
name_at name other version frame false = refl

published_at : (name other : List ℕ) (version : ℕ) (first frame : Live) (rest : List Live) (b : Bool)
    → (find_frame name rest ≡ Some frame → find_frame name (map (publish other version) rest) ≡ Some (publish other version frame))
    → cond b (Some first) (find_frame name rest) ≡ Some frame
    → cond b (Some (publish other version first)) (find_frame name (map (publish other version) rest)) ≡ Some (publish other version frame)
published_at name other version first frame rest true ih e =
    ap (λ (o : Option Live). Some (publish other version (unwrap_or o first))) e
published_at name other version first frame rest false ih e = ih e

found_published : (name other : List ℕ) (version : ℕ) (frames : List Live) (frame : Live) → find_frame name frames ≡ Some frame
    → find_frame name (map (publish other version) frames) ≡ Some (publish other version frame)
found_published name other version [] frame e = absurd (false≢true (ap is_some e))
found_published name other version (first ∷ rest) frame e =
    ap (λ (n : List ℕ).
    cond (text_eq name n) (Some (publish other version first)) (find_frame name (map (publish other version) rest)))
    (name_at name other version first (text_eq other first.name))
    ∙ published_at name other version first frame rest (text_eq name first.name) (found_published name other version rest frame) e

-- ---- the frame that is found, with more entries

Goes : List ℕ → List Operation → Type 0
Goes name later =
    (count : ℕ) (frames : List Live) (frame : Live) → frame.name ≡ name → find_frame name frames ≡ Some frame
    → find_frame name (live_from count frames later) ≡ Some (with_published frame (last_after frame.published (versions_under name later)))

told : (other : List ℕ) (version : ℕ) (frame : Live) (found : List Notice) (b : Bool)
    → with_published (cond b (with_published frame (Some version)) frame)
    (last_after (cond b (with_published frame (Some version)) frame).published (map (λ (n : Notice). n.version) found))
    ≡ with_published frame
    (last_after frame.published
    (map (λ (n : Notice). n.version) (cond b (record { frame = other; version = version } ∷ found) found)))
told other version frame found true = refl
told other version frame found false = refl

goes : (name : List ℕ) (later : List Operation) → list_all (keeps name) later ≡ true → Goes name later
unfolding Goes
goes name [] kept count frames frame named found = found
goes name (Commit seat patch ∷ rest) kept count frames frame named found =
    goes name rest kept (count + 0) frames frame named found
goes name (Register seat other text ∷ rest) kept count frames frame named found =
    let parts = and_parts (not (text_eq name other)) (list_all (keeps name) rest) kept in
    let apart = denied (text_eq name other) parts.0 in
    goes name rest parts.1 (count + 1) (without other frames ++ registered other (suc count) text ∷ []) frame named
    (found_before name (without other frames) (registered other (suc count) text) apart ∙ (found_others name other frames apart ∙ found))
goes name (Retire seat other ∷ rest) kept count frames frame named found =
    let parts = and_parts (not (text_eq name other)) (list_all (keeps name) rest) kept in
    goes name rest parts.1 (count + 0) (without other frames) frame named
    (found_others name other frames (denied (text_eq name other) parts.0) ∙ found)
goes name (Publish other version ∷ rest) kept count frames frame named found =
    goes name rest kept (count + 0) (map (publish other version) frames) (publish other version frame)
    (name_at name other version frame (text_eq other frame.name) ∙ named) (found_published name other version frames frame found)
    ∙ ap {B = Option Live} Some
    (told other version frame (filter (λ (n : Notice). text_eq n.frame name) (notices rest)) (text_eq other frame.name)
    ∙ ap (λ (n : List ℕ). with_published frame
    (last_after frame.published
    (map (λ (notice : Notice). notice.version)
    (cond (text_eq other n)
    (record { frame = other; version = version } ∷ filter (λ (notice : Notice). text_eq notice.frame name) (notices rest))
    (filter (λ (notice : Notice). text_eq notice.frame name) (notices rest)))))) named)

pub published_is_last : PublishedIsLast
unfolding Goes
published_is_last history later seat name text kept =
    ap (find_frame name) (live_from-more 0 [] history (Register seat name text ∷ later))
    ∙ (goes name later kept (0 + registrations history + 1) (without name (live_frames history) ++ frame ∷ []) frame refl here
    ∙ ap (λ (n : ℕ). Some (with_published (registered name n text) (last_after None (versions_under name later)))) numbered)
  where
    frame : Live
    frame = registered name (suc (0 + registrations history)) text

    numbered : suc (0 + registrations history) ≡ suc (registrations history)
    numbered = omega arith

    itself : find_frame name (registered name (suc (0 + registrations history)) text ∷ []) ≡ Some (registered name (suc (0 + registrations history)) text)
    itself = rw (text_is name) refl

    here : find_frame name (without name (live_frames history) ++ registered name (suc (0 + registrations history)) text ∷ [])
        ≡ Some (registered name (suc (0 + registrations history)) text)
    here =
        found_behind name (without name (live_frames history)) (registered name (suc (0 + registrations history)) text ∷ [])
        (found_without name (live_frames history))
        ∙ itself

-- ---- names that aren't live

none_at : (name other : List ℕ) (version : ℕ) (first : Live) (rest : List Live) (b : Bool)
    → (find_frame name rest ≡ None → find_frame name (map (publish other version) rest) ≡ None)
    → cond b (Some first) (find_frame name rest) ≡ None
    → cond b (Some (publish other version first)) (find_frame name (map (publish other version) rest)) ≡ None
none_at name other version first rest true ih e = absurd (false≢true (sym (ap is_some e)))
none_at name other version first rest false ih e = ih e

none_published : (name other : List ℕ) (version : ℕ) (frames : List Live) → find_frame name frames ≡ None
    → find_frame name (map (publish other version) frames) ≡ None
none_published name other version [] e = refl
none_published name other version (first ∷ rest) e =
    ap (λ (n : List ℕ).
    cond (text_eq name n) (Some (publish other version first)) (find_frame name (map (publish other version) rest)))
    (name_at name other version first (text_eq other first.name))
    ∙ none_at name other version first rest (text_eq name first.name) (none_published name other version rest) e

none_retired : (name other : List ℕ) (frames : List Live) (b : Bool) → text_eq name other ≡ b → find_frame name frames ≡ None
    → find_frame name (without other frames) ≡ None
none_retired name other frames true same e =
    ap (λ (n : List ℕ). find_frame name (without n frames)) (sym ((bytes_decides name other).0 same)) ∙ found_without name frames
none_retired name other frames false apart e = found_others name other frames apart ∙ e

absent-step : (name : List ℕ) (count : ℕ) (frames : List Live) (entry : Operation) → not (registers name entry) ≡ true
    → find_frame name frames ≡ None → find_frame name (live_step count frames entry) ≡ None
absent-step name count frames (Commit seat patch) other e = e
absent-step name count frames (Register seat other text) apart e =
    found_before name (without other frames) (registered other (suc count) text) (denied (text_eq name other) apart)
    ∙ (found_others name other frames (denied (text_eq name other) apart) ∙ e)
absent-step name count frames (Retire seat other) apart e = none_retired name other frames (text_eq name other) refl e
absent-step name count frames (Publish other version) apart e = none_published name other version frames e

absent-from : (name : List ℕ) (later : List Operation) (count : ℕ) (frames : List Live)
    → list_all (λ entry. not (registers name entry)) later ≡ true → find_frame name frames ≡ None
    → find_frame name (live_from count frames later) ≡ None
absent-from name [] count frames all e = e
absent-from name (entry ∷ rest) count frames all e =
    let parts = and_parts (not (registers name entry)) (list_all (λ one. not (registers name one)) rest) all in
    absent-from name rest (count + registrations (entry ∷ [])) (live_step count frames entry) parts.1
    (absent-step name count frames entry parts.0 e)

pub absent_until_registered : AbsentUntilRegistered
absent_until_registered history later name absent all =
    ap (find_frame name) (live_from-more 0 [] history later)
    ∙ absent-from name later (0 + registrations history) (live_frames history) all absent
