-- What a caller can trust of one reply, by what was asked for.
use Rattle.std.proofs.Common.{◌≡◌, refl, sym, ◌∙◌, ap, subst, arith, ◌≤◌, inl, inr, ℕ, nat_eq, List, Bool, true, false, is_some, Option, Some, None, Result, Ok, Err}
use Rattle.std.proofs.lemmas.Bool.{false≢true}
use Rattle.std.specs.Arc.{arc_value}
use Rattle.lf_base.specs.declared.memory.Memory.{Memory}
use Rattle.lf_model.specs.declared.desk.Look.{Look}
use Rattle.lf_model.specs.declared.desk.Look.TheVariants as looked
use Rattle.lf_model.specs.declared.desk.FramedNow.{FramedNow}
use Rattle.lf_model.specs.declared.document.Doc.{Doc}
use Rattle.def_histories.specs.declared.operation.Operation.{Operation}
use Rattle.def_histories.specs.History.{commits}
use Rattle.def_histories.specs.Legal.{IsLegal}
use Rattle.def_histories.specs.Replay.{dataset_at}
use Rattle.def_histories.proofs.StandingProofs.{published_was_committed}
use Rattle.lf_frames.specs.FrameTexts.{is_frame, document}
use Rattle.lf_desk.specs.Looks.{Looks, Frames, is_new_enough}
use Rattle.lf_session.specs.declared.request.Asked.{Asked}
use Rattle.lf_session.specs.declared.request.Asked.TheVariants as asked
use Rattle.lf_session.specs.Bodies.{pending_body}
use Rattle.lf_session.specs.Replies.{Reply, plain, document_reply, look_reply, framed_reply, unknown_frame, out_of_memory, bad_line_reply, version_reply}
use Rattle.lf_session.specs.Answers.{IsAnswered, Commits, Refreshes}
use Rattle.lf_session.specs.Headline.{IsOfOneVersion, IsStillPending, asks_for_document}
use Rattle.lf_session.proofs.HeadlineReplies.{IsOther, not_200, not_202, refused-other, registered-other, retired-other, committed-other, turned-other, document-settled}

-- what can be trusted of a reply over these histories
pub record Trust (asks : Bool) (seen later : List Operation) (name : List ℕ) (need : ℕ) (reply : Reply) : Type 0 where
  pub document : reply.ld_json ≡ true → IsOfOneVersion later name need reply
  pub framed : asks ≡ true → reply.status ≡ 200 → IsOfOneVersion later name need reply
  pub versioned : asks ≡ true → is_some reply.version ≡ true → IsOfOneVersion later name need reply
  pub pending : reply.status ≡ 202 → IsStillPending seen name need reply

-- where another request is answered
other-trust : (seen later : List Operation) (name : List ℕ) (need : ℕ) (reply : Reply) → IsOther reply
    → Trust false seen later name need reply
other-trust seen later name need reply other = record {
  document = λ is. absurd (false≢true (sym other.unread ∙ is));
  framed = λ is done. absurd (false≢true is);
  versioned = λ is some. absurd (false≢true is);
  pending = λ is. absurd (not_202 reply.status other.settled is);
}

-- where a document is asked for, and nothing is said of a version
bare-trust : (seen later : List Operation) (name : List ℕ) (need : ℕ) (reply : Reply) → IsOther reply → is_some reply.version ≡ false
    → nat_eq reply.status 200 ≡ false → Trust true seen later name need reply
bare-trust seen later name need reply other none failed = record {
  document = λ is. absurd (false≢true (sym other.unread ∙ is));
  framed = λ is done. absurd (not_200 reply.status failed done);
  versioned = λ is some. absurd (false≢true (sym none ∙ some));
  pending = λ is. absurd (not_202 reply.status other.settled is);
}

document-trust : (seen later : List Operation) (name : List ℕ) (need : ℕ) (reply : Reply) → nat_eq reply.status 202 ≡ false
    → IsOfOneVersion later name need reply → Trust true seen later name need reply
document-trust seen later name need reply settled one = record {
  document = λ is. one;
  framed = λ is done. one;
  versioned = λ is some. one;
  pending = λ is. absurd (not_202 reply.status settled is);
}

pending-trust : (seen later : List Operation) (name : List ℕ) (need : ℕ) (body : List ℕ)
    → IsStillPending seen name need (plain 202 body) → Trust true seen later name need (plain 202 body)
pending-trust seen later name need body still = record {
  document = λ is. absurd (false≢true is);
  framed = λ is done. absurd (not_200 202 refl done);
  versioned = λ is some. absurd (false≢true some);
  pending = λ is. still;
}

-- ---- looks

still_pending : (history : List Operation) (name : List ℕ) (need : ℕ) (have : Option ℕ) (needed : ℕ)
    → Looks history name need (Ok (looked.Pending have needed)) → IsStillPending history name need (plain 202 (pending_body have needed))
still_pending history name need have needed looks = record {
  frame = looks.0;
  is_live = looks.1;
  too_old = ap (is_new_enough need) (sym looks.2) ∙ looks.4;
  shows = λ i. plain 202 (pending_body (looks.2 i) (looks.3 i));
}

look-trust : (later : List Operation) (name : List ℕ) (need : ℕ) (result : Result Look Memory) → IsLegal is_frame later
    → Looks later name need result → Trust true later later name need (look_reply result)
look-trust later name need (Ok (looked.Document doc version)) legal looks =
    document-trust later later name need (document_reply (arc_value doc) version) (document-settled (arc_value doc) version) record {
      frame = looks.0;
      version = version;
      is_live = looks.1;
      committed = published_was_committed is_frame later name looks.0 version legal looks.1 looks.2;
      new_enough = looks.3;
      document = ap (λ (d : Doc). document_reply d version) looks.4;
    }
look-trust later name need (Ok (looked.Pending have needed)) legal looks =
    pending-trust later later name need (pending_body have needed) (still_pending later name need have needed looks)
look-trust later name need (Ok looked.Unknown) legal looks =
    bare-trust later later name need unknown_frame (record { unread = refl; settled = refl }) refl refl
look-trust later name need (Err refused) legal looks =
    bare-trust later later name need out_of_memory (record { unread = refl; settled = refl }) refl refl

-- what stands at the name in the history seen, where the later one is the same
seen-trust : (seen later : List Operation) (name : List ℕ) (need : ℕ) (result : Result Look Memory) (reply : Reply)
    → IsLegal is_frame later → later ≡ seen → Looks seen name need result → reply ≡ look_reply result
    → Trust true seen later name need reply
seen-trust seen later name need result reply legal same looks is =
    subst (λ (h : List Operation). Trust true h later name need reply) same
    (subst (Trust true later later name need) (sym is)
    (look-trust later name need result legal (subst (λ (h : List Operation). Looks h name need result) (sym same) looks)))

-- the newest version is no older than any that is needed
framed-trust : (seen later : List Operation) (name : List ℕ) (need : ℕ) (framed : Result (Option FramedNow) Memory)
    → need ≤ commits later → Frames later name framed → Trust true seen later name need (framed_reply framed)
framed-trust seen later name need (Ok (Some now)) low frames =
    document-trust seen later name need (document_reply now.doc now.version) (document-settled now.doc now.version) record {
      frame = frames.0;
      version = now.version;
      is_live = frames.1;
      committed = committed;
      new_enough = new_enough;
      document = ap (λ (d : Doc). document_reply d now.version) of_version;
    }
  where
    committed : now.version ≤ commits later
    committed = let is : now.version ≡ commits later = frames.2 in omega arith

    new_enough : need ≤ now.version
    new_enough = let is : now.version ≡ commits later = frames.2 in omega arith

    of_version : now.doc ≡ document frames.0.text (dataset_at later now.version)
    of_version = frames.3 ∙ ap (λ (n : ℕ). document frames.0.text (dataset_at later n)) (sym frames.2)
framed-trust seen later name need (Ok None) low frames =
    bare-trust seen later name need unknown_frame (record { unread = refl; settled = refl }) refl refl
framed-trust seen later name need (Err refused) low frames =
    bare-trust seen later name need out_of_memory (record { unread = refl; settled = refl }) refl refl

refreshed-trust : (seen later : List Operation) (name : List ℕ) (need : ℕ) (result : Result Look Memory) (reply : Reply)
    → IsLegal is_frame later → Looks seen name need result → Refreshes name need seen later result reply
    → Trust true seen later name need reply
refreshed-trust seen later name need (Ok (looked.Document doc version)) reply legal looks refreshed =
    seen-trust seen later name need (Ok (looked.Document doc version)) reply legal refreshed.0 looks refreshed.1
refreshed-trust seen later name need (Ok (looked.Pending have needed)) reply legal looks (inl framed) =
    subst (Trust true seen later name need) (sym framed.1.2) (framed-trust seen later name need framed.1.0 framed.0 framed.1.1)
refreshed-trust seen later name need (Ok (looked.Pending have needed)) reply legal looks (inr still) =
    subst (Trust true seen later name need) (sym still.1)
    (pending-trust seen later name need (pending_body have needed) (still_pending seen name need have needed looks))
refreshed-trust seen later name need (Ok looked.Unknown) reply legal looks refreshed =
    seen-trust seen later name need (Ok looked.Unknown) reply legal refreshed.0 looks refreshed.1
refreshed-trust seen later name need (Err refused) reply legal looks refreshed =
    seen-trust seen later name need (Err refused) reply legal refreshed.0 looks refreshed.1

-- ---- each request

reply-trust : (seen later : List Operation) (name : List ℕ) (need : ℕ) (reply said : Reply) → reply ≡ said → IsOther said
    → Trust false seen later name need reply
reply-trust seen later name need reply said is other =
    subst (Trust false seen later name need) (sym is) (other-trust seen later name need said other)

pub answered-trust : (seat : ℕ) (name body : List ℕ) (need : ℕ) (wanted : Asked) (seen later made : List Operation) (reply : Reply)
    → IsLegal is_frame later → IsAnswered seat name body need wanted seen later made reply
    → Trust (asks_for_document wanted) seen later name need reply
answered-trust seat name body need (asked.Refused why) seen later made reply legal by =
    reply-trust seen later name need reply _ by.2 (refused-other why)
answered-trust seat name body need asked.Put seen later made reply legal by =
    reply-trust seen later name need reply _ by.1.3 (registered-other name by.1.0)
answered-trust seat name body need asked.Delete seen later made reply legal by =
    reply-trust seen later name need reply _ by.1.3 (retired-other name by.1.0)
answered-trust seat name body need asked.Get seen later made reply legal by =
    seen-trust seen later name need by.2.0 reply legal by.0 by.2.1 by.2.2
answered-trust seat name body need asked.GetNow seen later made reply legal by =
    refreshed-trust seen later name need by.1.0 reply legal by.1.1 by.1.2
answered-trust seat name body need asked.Commit seen later made reply legal by = committed by.1
  where
    committed : Commits seat body seen made reply → Trust false seen later name need reply
    committed (inl done) = reply-trust seen later name need reply _ done.replies (committed-other done.result)
    committed (inr (inl bad)) = reply-trust seen later name need reply (bad_line_reply bad.kind bad.line) bad.replies (record { unread = refl; settled = refl })
    committed (inr (inr none)) = reply-trust seen later name need reply out_of_memory none.1 (record { unread = refl; settled = refl })
answered-trust seat name body need asked.Version seen later made reply legal by =
    reply-trust seen later name need reply (version_reply (commits seen)) by.2 (record { unread = refl; settled = refl })
answered-trust seat name body need asked.Turn seen later made reply legal by =
    reply-trust seen later name need reply _ by.2 (turned-other by.0)
