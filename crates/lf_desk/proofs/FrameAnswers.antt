-- A registration is answered as new exactly where it is allowed, and as no operation where its text is live.
use Rattle.std.proofs.Common.{◌≡◌, refl, sym, ◌∙◌, ap, ℕ, ◌+◌, List, length, nat_lt, Bool, true, false, not, cond, Some, Result, Ok, Err}
use Rattle.std.proofs.lemmas.Bool.{false≢true, not-false, not_from_true, false_from_ne_true, ltb-false, ltb-true, lt-ltb, le-ltb}
use Rattle.std.specs.Cmp.Lexicographic.{bytes_decides}
use Rattle.def_datasets.proofs.OrderLaws.{option_decides}
use Rattle.lf_rdf.specs.Equality.{text_eq}
use Rattle.lf_frames.specs.FrameTexts.{FrameText, not_json, fractional, refused, accepted as is_meant, frame_text, is_accepted, is_frame}
use Rattle.lf_desk.specs.declared.refusals.RegisterErr.{RegisterErr}
use Rattle.def_histories.specs.declared.operation.Operation.{Operation}
use Rattle.def_histories.specs.History.{registrations, text_bytes}
use Rattle.def_histories.specs.Legal.{IsRegistration, is_frame_name, live_text, most_frame_bytes, most_frames, most_registrations, most_text_bytes}
use Rattle.lf_desk.specs.RegisterAnswer.{register_answer, is_live_text, others, limits_answer, text_answer}
use Rattle.lf_desk.specs.AnswerLaws.{AcceptsAllowedFrames, SameTextAgain}
use Rattle.lf_desk.proofs.Passing.{past, passed}

is_fresh : Result Bool RegisterErr → Bool
is_fresh (Ok fresh) = fresh
is_fresh (Err error) = false

-- past the answer that the text is live already
past_same : (same : Bool) (rest : Result Bool RegisterErr) → cond same (Ok false) rest ≡ Ok true → (same ≡ false) × (rest ≡ Ok true)
unfolding is_fresh
past_same true rest e = absurd (false≢true (ap is_fresh e))
past_same false rest e = (refl, e)

is_refused : Result Bool RegisterErr → Bool
is_refused (Ok fresh) = false
is_refused (Err error) = true

abbrev as_new : Result Bool RegisterErr
as_new = Ok true

-- the limits never answer that the text is live already
limits_new : (history : List Operation) (name text : List ℕ) → limits_answer history name text ≡ Ok false → as_new ≡ Ok false
limits_new history name text e =
    let one = past (not (nat_lt (others history name) most_frames)) _ false _ e in
    let two = past (not (nat_lt (registrations history) most_registrations)) _ false _ one.1 in
    (past (nat_lt most_text_bytes (text_bytes history + length text)) _ false _ two.1).1

is_same : (same : Bool) (rest : Result Bool RegisterErr) → (rest ≡ Ok false → as_new ≡ Ok false)
    → cond same (Ok false) rest ≡ Ok false → same ≡ true
unfolding is_fresh
is_same true rest new e = refl
is_same false rest new e = absurd (false≢true (sym (ap is_fresh (new e))))

live_decides : (history : List Operation) (name text : List ℕ) → is_live_text history name text ≡ true → live_text history name ≡ Some text
live_decides history name text same = (option_decides text_eq bytes_decides (live_text history name) (Some text)).0 same

live_told : (history : List Operation) (name text : List ℕ) → live_text history name ≡ Some text → is_live_text history name text ≡ true
live_told history name text same = (option_decides text_eq bytes_decides (live_text history name) (Some text)).1 same

-- past what is wrong with a text
past_text : (told : FrameText) (limits : Result Bool RegisterErr) (fresh : Bool) → text_answer told limits ≡ Ok fresh
    → (is_accepted told ≡ true) × (limits ≡ Ok fresh)
unfolding is_fresh is_refused
past_text not_json limits fresh e = absurd (false≢true (sym (ap is_refused e)))
past_text (fractional path) limits fresh e = absurd (false≢true (sym (ap is_refused e)))
past_text (refused error) limits fresh e = absurd (false≢true (sym (ap is_refused e)))
past_text (is_meant meaning) limits fresh e = (refl, e)

passed_text : (told : FrameText) (limits : Result Bool RegisterErr) → is_accepted told ≡ true → text_answer told limits ≡ limits
passed_text not_json limits e = absurd (false≢true e)
passed_text (fractional path) limits e = absurd (false≢true e)
passed_text (refused error) limits e = absurd (false≢true e)
passed_text (is_meant meaning) limits e = refl

-- an answer as new tells that the frame may be registered
pub accepted : (history : List Operation) (name text : List ℕ) → register_answer history name text ≡ Ok true
    → IsRegistration is_frame history name text
accepted history name text fresh =
    let one = past (not (is_frame_name name)) _ true _ fresh in
    let two = past (nat_lt most_frame_bytes (length text)) _ true _ one.1 in
    let three = past_same (is_live_text history name text) _ two.1 in
    let four = past_text (frame_text text) (limits_answer history name text) true three.1 in
    let five = past (not (nat_lt (others history name) most_frames)) _ true _ four.1 in
    let six = past (not (nat_lt (registrations history) most_registrations)) _ true _ five.1 in
    let seven = past (nat_lt most_text_bytes (text_bytes history + length text)) _ true _ six.1 in
    record {
      named = not-false (is_frame_name name) one.0;
      short = ltb-false most_frame_bytes (length text) two.0;
      framed = four.0;
      other = λ same. false≢true (sym three.0 ∙ live_told history name text same);
      placed = ltb-true (others history name) most_frames (not-false (nat_lt (others history name) most_frames) five.0);
      counted = ltb-true (registrations history) most_registrations (not-false (nat_lt (registrations history) most_registrations) six.0);
      sized = ltb-false most_text_bytes (text_bytes history + length text) seven.0;
    }

allowed : (history : List Operation) (name text : List ℕ) → IsRegistration is_frame history name text
    → register_answer history name text ≡ Ok true
allowed history name text may =
    passed (not (is_frame_name name)) _ _ (not_from_true (is_frame_name name) may.named)
    ∙ (passed (nat_lt most_frame_bytes (length text)) _ _ (le-ltb most_frame_bytes (length text) may.short)
    ∙ (passed (is_live_text history name text) _ _
    (false_from_ne_true (is_live_text history name text) (λ same. may.other (live_decides history name text same)))
    ∙ (passed_text (frame_text text) (limits_answer history name text) may.framed
    ∙ (passed (not (nat_lt (others history name) most_frames)) _ _
    (not_from_true (nat_lt (others history name) most_frames) (lt-ltb (others history name) most_frames may.placed))
    ∙ (passed (not (nat_lt (registrations history) most_registrations)) _ _
    (not_from_true (nat_lt (registrations history) most_registrations) (lt-ltb (registrations history) most_registrations may.counted))
    ∙ passed (nat_lt most_text_bytes (text_bytes history + length text)) _ _
    (le-ltb most_text_bytes (text_bytes history + length text) may.sized))))))

pub accepts_allowed_frames : AcceptsAllowedFrames
accepts_allowed_frames history seat name text = (accepted history name text, allowed history name text)

pub same_text_again : SameTextAgain
same_text_again history name text = (
  λ e.
      let one = past (not (is_frame_name name)) _ false _ e in
      let two = past (nat_lt most_frame_bytes (length text)) _ false _ one.1 in (
        not-false (is_frame_name name) one.0,
        ltb-false most_frame_bytes (length text) two.0,
        live_decides history name text
            (is_same (is_live_text history name text) _
            (λ rest. limits_new history name text (past_text (frame_text text) (limits_answer history name text) false rest).1) two.1),
      ),
  λ all.
      passed (not (is_frame_name name)) _ _ (not_from_true (is_frame_name name) all.0)
      ∙ (passed (nat_lt most_frame_bytes (length text)) _ _ (le-ltb most_frame_bytes (length text) all.1) ∙ again all.2),
)
  where
    again : live_text history name ≡ Some text
        → cond (is_live_text history name text) (Ok false) (text_answer (frame_text text) (limits_answer history name text)) ≡ Ok false
    again live = rw (live_told history name text live) refl
