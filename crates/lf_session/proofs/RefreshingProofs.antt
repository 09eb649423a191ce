-- A refresh is answered by a document, by cases of the look and of what was framed.
use Rattle.std.proofs.Common.{◌≡◌, ◌≢◌, ◌≤◌, ◌<◌, inl, inr, refl, ◌∙◌, ap, subst, arith, List, ℕ, Bool, true, is_some, Option, Some, None, Result, Ok, Err}
use Rattle.std.specs.Arc.{arc_value}
use Rattle.lf_base.specs.declared.memory.Memory.{Memory}
use Rattle.lf_model.specs.declared.desk.Look.{Look}
use Rattle.lf_model.specs.declared.desk.Look.TheVariants as looked
use Rattle.lf_model.specs.declared.desk.FramedNow.{FramedNow}
use Rattle.lf_model.specs.declared.document.Doc.{Doc}
use Rattle.lf_model.specs.declared.document.Doc.TheVariants as doc
use Rattle.def_histories.specs.declared.operation.Operation.{Operation}
use Rattle.def_histories.specs.History.{commits, live}
use Rattle.def_histories.specs.Legal.{IsLegal}
use Rattle.def_histories.proofs.LegalProofs.{prefix_is_legal}
use Rattle.lf_http.specs.Reading.{name_of}
use Rattle.lf_frames.specs.FrameTexts.{is_frame}
use Rattle.lf_desk.specs.Looks.{Looks, Frames}
use Rattle.lf_desk.specs.Seats.{IsExtended}
use Rattle.lf_session.specs.declared.request.Asked.{Asked}
use Rattle.lf_session.specs.declared.request.Asked.TheVariants as asked
use Rattle.lf_session.specs.Replies.{Reply, document_reply, framed_reply}
use Rattle.lf_session.specs.Answers.{IsAnswered, Refreshes}
use Rattle.lf_session.specs.Exchanges.{needed}
use Rattle.lf_session.specs.Refreshing.{IsRefreshed, RefreshesAreAnswered}
use Rattle.lf_session.proofs.Extended.{commits-grow}
use Rattle.lf_session.proofs.HeadlineTrust.{Trust, answered-trust}

-- a document names its version
names-version : (document : Doc) (version : ℕ) → is_some (document_reply document version).version ≡ true
names-version (doc.Bytes text) version = refl
names-version (doc.Refused error) version = refl
names-version (doc.Over limit) version = refl

document-refreshed : (seen later : List Operation) (name : List ℕ) (need : ℕ) (document : Doc) (version : ℕ) (reply : Reply)
    → Trust true seen later name need reply → reply ≡ document_reply document version → IsRefreshed later name need reply
document-refreshed seen later name need document version reply trust is =
    inl (trust.versioned refl (ap (λ (r : Reply). is_some r.version) is ∙ names-version document version))

framed-refreshed : (seen later : List Operation) (name : List ℕ) (need : ℕ) (framed : Result (Option FramedNow) Memory) (reply : Reply)
    → Trust true seen later name need reply → Frames later name framed → reply ≡ framed_reply framed → IsRefreshed later name need reply
framed-refreshed seen later name need (Ok (Some now)) reply trust frames is =
    document-refreshed seen later name need now.doc now.version reply trust is
framed-refreshed seen later name need (Ok None) reply trust frames is = inr (inl (frames, is))
framed-refreshed seen later name need (Err refused) reply trust frames is = inr (inr is)

too-low : (need low high : ℕ) → need ≤ low → low ≤ high → high < need → ⊥
too-low need low high a b c = omega arith

look-refreshed : (alone : Bool) (seat : ℕ) (seen later : List Operation) (name : List ℕ) (need : ℕ) (result : Result Look Memory) (reply : Reply)
    → Trust true seen later name need reply → IsExtended alone seat seen later → live seen name ≢ None → need ≤ commits seen
    → Looks seen name need result → Refreshes name need seen later result reply → IsRefreshed later name need reply
look-refreshed alone seat seen later name need (Ok (looked.Document document version)) reply trust went is_live low looks by =
    document-refreshed seen later name need (arc_value document) version reply trust by.1
look-refreshed alone seat seen later name need (Ok (looked.Pending have needed)) reply trust went is_live low looks (inl by) =
    framed-refreshed seen later name need by.1.0 reply trust by.1.1 by.1.2
look-refreshed alone seat seen later name need (Ok (looked.Pending have needed)) reply trust went is_live low looks (inr by) =
    absurd (too-low need (commits seen) (commits later) low (commits-grow alone seat seen later went) by.0)
look-refreshed alone seat seen later name need (Ok looked.Unknown) reply trust went is_live low looks by =
    absurd (is_live looks)
look-refreshed alone seat seen later name need (Err refused) reply trust went is_live low looks by = inr (inr by.1)

answered-refreshed : (alone : Bool) (seat : ℕ) (name body : List ℕ) (need : ℕ) (seen later made : List Operation) (reply : Reply)
    → IsLegal is_frame later → IsExtended alone seat seen later → live seen name ≢ None → need ≤ commits seen
    → IsAnswered seat name body need asked.GetNow seen later made reply → IsRefreshed later name need reply
answered-refreshed alone seat name body need seen later made reply legal went is_live low by =
    look-refreshed alone seat seen later name need by.1.0 reply
    (answered-trust seat name body need asked.GetNow seen later made reply legal by) went is_live low by.1.1 by.1.2

pub refreshes_are_answered : RefreshesAreAnswered
refreshes_are_answered alone boards seat need before x is wants is_live low =
    answered-refreshed alone seat (name_of x.sent.target) x.body (needed need x.head) x.seen x.later x.made x.reply
    (prefix_is_legal is_frame x.later x.made is.legal) is.went is_live low
    (subst (λ (a : Asked). IsAnswered seat (name_of x.sent.target) x.body (needed need x.head) a x.seen x.later x.made x.reply) wants is.answered)
