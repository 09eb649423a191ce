-- Which replies are no documents, and which don't speak of what is still to come.
use Rattle.std.proofs.Common.{◌≡◌, refl, sym, ◌∙◌, ap, ℕ, nat_eq, List, Bool, true, false, Result, Ok, Err}
use Rattle.std.proofs.lemmas.Bool.{false≢true}
use Rattle.lf_base.specs.declared.memory.Memory.{Memory}
use Rattle.lf_desk.specs.declared.refusals.CommitErr.{CommitErr}
use Rattle.lf_desk.specs.declared.refusals.CommitErr.TheVariants as c
use Rattle.lf_desk.specs.declared.refusals.RegisterErr.{RegisterErr}
use Rattle.lf_desk.specs.declared.refusals.RegisterErr.TheVariants as r
use Rattle.def_turns.specs.declared.turned.Turned.{Turned}
use Rattle.def_turns.specs.declared.turned.Turned.TheVariants as t
use Rattle.lf_model.specs.declared.document.Doc.{Doc}
use Rattle.lf_model.specs.declared.document.Doc.TheVariants as doc
use Rattle.lf_session.specs.declared.request.Refusal.{Refusal}
use Rattle.lf_session.specs.declared.request.Refusal.TheVariants as why
use Rattle.lf_session.specs.Replies.{Reply, document_reply, commit_reply, register_reply, retire_reply, turn_reply}
use Rattle.lf_session.specs.Requests.{refused_reply}

-- the reply is no document, and its status isn't 202
pub record IsOther (reply : Reply) : Type 0 where
  pub unread : reply.ld_json ≡ false
  pub settled : nat_eq reply.status 202 ≡ false

pub not_200 : (status : ℕ) → nat_eq status 200 ≡ false → status ≡ 200 → ⊥
not_200 status other is = false≢true (sym other ∙ ap (λ (n : ℕ). nat_eq n 200) is)

pub not_202 : (status : ℕ) → nat_eq status 202 ≡ false → status ≡ 202 → ⊥
not_202 status other is = false≢true (sym other ∙ ap (λ (n : ℕ). nat_eq n 202) is)

pub refused-other : (reason : Refusal) → IsOther (refused_reply reason)
refused-other why.ContentEncoding = record { unread = refl; settled = refl }
refused-other why.NoSuchPath = record { unread = refl; settled = refl }
refused-other (why.MethodNotAllowed allow) = record { unread = refl; settled = refl }
refused-other why.BadSeen = record { unread = refl; settled = refl }
refused-other why.BadRefresh = record { unread = refl; settled = refl }

pub registered-other : (name : List ℕ) (result : Result Bool RegisterErr) → IsOther (register_reply name result)
registered-other name (Ok true) = record { unread = refl; settled = refl }
registered-other name (Ok false) = record { unread = refl; settled = refl }
registered-other name (Err r.BadName) = record { unread = refl; settled = refl }
registered-other name (Err (r.FrameTooLong size)) = record { unread = refl; settled = refl }
registered-other name (Err r.NotJson) = record { unread = refl; settled = refl }
registered-other name (Err (r.Fractional path)) = record { unread = refl; settled = refl }
registered-other name (Err (r.Ld error)) = record { unread = refl; settled = refl }
registered-other name (Err (r.TooManyFrames have would)) = record { unread = refl; settled = refl }
registered-other name (Err (r.HistoryFull of have most)) = record { unread = refl; settled = refl }
registered-other name (Err r.Memory) = record { unread = refl; settled = refl }

pub retired-other : (name : List ℕ) (result : Result Bool Memory) → IsOther (retire_reply name result)
retired-other name (Ok true) = record { unread = refl; settled = refl }
retired-other name (Ok false) = record { unread = refl; settled = refl }
retired-other name (Err refused) = record { unread = refl; settled = refl }

pub committed-other : (result : Result ℕ CommitErr) → IsOther (commit_reply result)
committed-other (Ok version) = record { unread = refl; settled = refl }
committed-other (Err (c.HistoryFull of have most)) = record { unread = refl; settled = refl }
committed-other (Err (c.TooManyQuads have would)) = record { unread = refl; settled = refl }
committed-other (Err c.Memory) = record { unread = refl; settled = refl }

pub turned-other : (result : Result Turned Memory) → IsOther (turn_reply result)
turned-other (Ok t.Idle) = record { unread = refl; settled = refl }
turned-other (Ok (t.Published name version)) = record { unread = refl; settled = refl }
turned-other (Ok (t.Home name version)) = record { unread = refl; settled = refl }
turned-other (Ok (t.Superseded name was now)) = record { unread = refl; settled = refl }
turned-other (Err refused) = record { unread = refl; settled = refl }

-- a document is no answer that it is still to come
pub document-settled : (document : Doc) (version : ℕ) → nat_eq (document_reply document version).status 202 ≡ false
document-settled (doc.Bytes text) version = refl
document-settled (doc.Refused error) version = refl
document-settled (doc.Over limit) version = refl
