-- What was made, by the reply.
use Rattle.std.proofs.Common.{◌≡◌, refl, sym, subst, List, [], ℕ, Bool, true, false, inl, inr, Result, Ok, Err}
use Rattle.lf_base.specs.declared.memory.Memory.{Memory}
use Rattle.lf_rdf.specs.declared.quad.Patch.{Patch}
use Rattle.lf_desk.specs.declared.refusals.CommitErr.{CommitErr}
use Rattle.lf_desk.specs.declared.refusals.CommitErr.TheVariants as c
use Rattle.lf_desk.specs.declared.refusals.RegisterErr.{RegisterErr}
use Rattle.lf_desk.specs.declared.refusals.RegisterErr.TheVariants as r
use Rattle.def_histories.specs.declared.operation.Operation.{Operation}
use Rattle.lf_desk.specs.CommitAnswer.{committed_by}
use Rattle.lf_desk.specs.RegisterAnswer.{registered_by}
use Rattle.lf_desk.specs.Calls.{retired_by}
use Rattle.lf_http.specs.Reading.{name_of}
use Rattle.lf_session.specs.declared.request.Asked.{Asked}
use Rattle.lf_session.specs.declared.request.Asked.TheVariants as asked
use Rattle.lf_session.specs.Replies.{Reply, out_of_memory, bad_line_reply, commit_reply, register_reply, retire_reply}
use Rattle.lf_session.specs.Requests.{asked_by}
use Rattle.lf_session.specs.Answers.{IsAnswered, Commits}
use Rattle.lf_session.specs.Exchanges.{needed}
use Rattle.lf_session.specs.Made.{TellsMade, RepliesTellWhatWasMade}

told : (wanted : Asked) (made these : List Operation) (reply said : Reply) → made ≡ these → reply ≡ said → TellsMade wanted these said
    → TellsMade wanted made reply
told wanted made these reply said is says tells =
    subst (λ (m : List Operation). TellsMade wanted m reply) (sym is) (subst (TellsMade wanted these) (sym says) tells)

registered : (seat : ℕ) (name text : List ℕ) (result : Result Bool RegisterErr)
    → TellsMade asked.Put (registered_by seat name text result) (register_reply name result)
registered seat name text (Ok true) = refl
registered seat name text (Ok false) = refl
registered seat name text (Err r.BadName) = refl
registered seat name text (Err (r.FrameTooLong size)) = refl
registered seat name text (Err r.NotJson) = refl
registered seat name text (Err (r.Fractional path)) = refl
registered seat name text (Err (r.Ld error)) = refl
registered seat name text (Err (r.TooManyFrames have would)) = refl
registered seat name text (Err (r.HistoryFull of have most)) = refl
registered seat name text (Err r.Memory) = refl

retired : (seat : ℕ) (name : List ℕ) (result : Result Bool Memory)
    → TellsMade asked.Delete (retired_by seat name result) (retire_reply name result)
retired seat name (Ok true) = refl
retired seat name (Ok false) = refl
retired seat name (Err refused) = refl

committed : (seat : ℕ) (patch : Patch) (result : Result ℕ CommitErr)
    → TellsMade asked.Commit (committed_by seat patch result) (commit_reply result)
committed seat patch (Ok version) = refl
committed seat patch (Err (c.HistoryFull of have most)) = refl
committed seat patch (Err (c.TooManyQuads have would)) = refl
committed seat patch (Err c.Memory) = refl

answered-told : (seat : ℕ) (name body : List ℕ) (need : ℕ) (wanted : Asked) (seen later made : List Operation) (reply : Reply)
    → IsAnswered seat name body need wanted seen later made reply → TellsMade wanted made reply
answered-told seat name body need (asked.Refused why) seen later made reply by = by.1
answered-told seat name body need asked.Put seen later made reply by =
    told asked.Put made _ reply _ by.1.2 by.1.3 (registered seat name body by.1.0)
answered-told seat name body need asked.Delete seen later made reply by =
    told asked.Delete made _ reply _ by.1.2 by.1.3 (retired seat name by.1.0)
answered-told seat name body need asked.Get seen later made reply by = by.1
answered-told seat name body need asked.GetNow seen later made reply by = by.0
answered-told seat name body need asked.Commit seen later made reply by = of_commit by.1
  where
    of_commit : Commits seat body seen made reply → TellsMade asked.Commit made reply
    of_commit (inl done) = told asked.Commit made _ reply _ done.makes done.replies (committed seat done.patch done.result)
    of_commit (inr (inl bad)) = told asked.Commit made [] reply (bad_line_reply bad.kind bad.line) bad.makes bad.replies refl
    of_commit (inr (inr none)) = told asked.Commit made [] reply out_of_memory none.0 none.1 refl
answered-told seat name body need asked.Version seen later made reply by = by.1
answered-told seat name body need asked.Turn seen later made reply by = (by.0, by.2, by.1)

pub replies_tell_what_was_made : RepliesTellWhatWasMade
replies_tell_what_was_made alone boards seat need before x is =
    answered-told seat (name_of x.sent.target) x.body (needed need x.head) (asked_by x.head) x.seen x.later x.made x.reply is.answered
