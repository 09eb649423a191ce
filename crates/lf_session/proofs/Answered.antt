-- Requests that are answered so, by one history.
use Rattle.std.proofs.Common.{◌≡◌, ◌⊎◌, inl, inr, ℕ, List, [], refl, sym, subst, rules}
use Rattle.std.specs.Prelude.{Result, Err, Bool, IsUtf8}
use Rattle.lf_base.specs.declared.memory.Memory.{Memory}
use Rattle.def_patch_texts.specs.declared.kind.LineKind.{LineKind}
use Rattle.def_patch_texts.specs.BadLine.{IsBadLine}
use Rattle.lf_desk.specs.declared.refusals.RegisterErr.{RegisterErr}
use Rattle.lf_desk.specs.declared.refusals.RegisterErr.TheVariants as r
use Rattle.def_histories.specs.declared.operation.Operation.{Operation}
use Rattle.lf_desk.specs.RegisterAnswer.{register_answer, RegisterAnswers, registered_by}
use Rattle.lf_session.specs.declared.request.Refusal.{Refusal}
use Rattle.lf_session.specs.declared.request.Asked.{Asked}
use Rattle.lf_session.specs.declared.request.Asked.TheVariants as asks
use Rattle.lf_session.specs.Replies.{Reply, out_of_memory, bad_line_reply, register_reply}
use Rattle.lf_session.specs.Requests.{refused_reply}
use Rattle.lf_session.specs.Answers.{IsAnswered, no_text_answer}

pub refused-told : (seat need : ℕ) (name body : List ℕ) (asked : Asked) (seen : List Operation) (why : Refusal) (reply : Reply)
    → asked ≡ asks.Refused why → reply ≡ refused_reply why → IsAnswered seat name body need asked seen seen [] reply
refused-told seat need name body asked seen why reply is e =
    subst (λ a. IsAnswered seat name body need a seen seen [] reply) (sym is) (refl, refl, e)

pub put-told : (seat need : ℕ) (name body : List ℕ) (seen : List Operation) (result : Result Bool RegisterErr) (reply : Reply)
    → IsUtf8 body → RegisterAnswers result (register_answer seen name body) → reply ≡ register_reply name result
    → IsAnswered seat name body need asks.Put seen seen (registered_by seat name body result) reply
put-told seat need name body seen result reply utf8 says e = (refl, (result, inl (utf8, says), refl, e))

-- a refusal may be lost where there is no memory to tell it
pub put-refused : (seat need : ℕ) (name body : List ℕ) (seen : List Operation) (error : RegisterErr) (reply : Reply)
    → IsUtf8 body → RegisterAnswers (Err error) (register_answer seen name body)
    → (reply ≡ register_reply name (Err error)) ⊎ (reply ≡ out_of_memory)
    → IsAnswered seat name body need asks.Put seen seen [] reply
put-refused seat need name body seen error reply utf8 says (inl e) = put-told seat need name body seen (Err error) reply utf8 says e
put-refused seat need name body seen error reply utf8 says (inr e) = put-told seat need name body seen (Err r.Memory) reply utf8 tt e

no_text-makes_nothing : (seat : ℕ) (name body text : List ℕ) → registered_by seat name text (no_text_answer name body) ≡ []
no_text-makes_nothing seat name body text = search rules

pub put-bytes : (seat need : ℕ) (name body : List ℕ) (seen : List Operation) (reply : Reply)
    → (IsUtf8 body → ⊥) → reply ≡ register_reply name (no_text_answer name body)
    → IsAnswered seat name body need asks.Put seen seen [] reply
put-bytes seat need name body seen reply bytes e =
    (refl, (no_text_answer name body, inr (bytes, refl), sym (no_text-makes_nothing seat name body body), e))

pub delete-lost : (seat need : ℕ) (name body : List ℕ) (seen : List Operation) (refused : Memory) (reply : Reply)
    → reply ≡ out_of_memory → IsAnswered seat name body need asks.Delete seen seen [] reply
delete-lost seat need name body seen refused reply e = (refl, (Err refused, tt, refl, e))

pub commit-bad : (seat need : ℕ) (name body : List ℕ) (seen : List Operation) (kind : LineKind) (line : ℕ) (reply : Reply)
    → IsBadLine body line kind → reply ≡ bad_line_reply kind line
    → IsAnswered seat name body need asks.Commit seen seen [] reply
commit-bad seat need name body seen kind line reply bad e =
    (refl, inr (inl (record { line = line; kind = kind; bad = bad; makes = refl; replies = e })))

pub commit-lost : (seat need : ℕ) (name body : List ℕ) (seen : List Operation) (reply : Reply)
    → reply ≡ out_of_memory → IsAnswered seat name body need asks.Commit seen seen [] reply
commit-lost seat need name body seen reply e = (refl, inr (inr (refl, e)))
