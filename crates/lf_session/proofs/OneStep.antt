-- A request is answered by no call, or by one.
use Rattle.std.proofs.Common.{◌≡◌, ℕ, Bool, List, [], sym, subst}
use Rattle.std.proofs.lemmas.List.{append-nil}
use Rattle.def_histories.specs.declared.operation.Operation.{Operation}
use Rattle.def_histories.specs.Legal.{IsLegal}
use Rattle.lf_frames.specs.FrameTexts.{is_frame}
use Rattle.lf_desk.specs.Calls.{IsCall}
use Rattle.lf_session.specs.declared.request.Asked.{Asked}
use Rattle.lf_session.specs.Replies.{Reply}
use Rattle.lf_session.specs.Answers.{IsAnswered}
use Rattle.lf_session.specs.Steps.{IsStep}
use Rattle.lf_session.proofs.Extended.{extended-same}

pub step-alone : (alone : Bool) (seat need : ℕ) (name body : List ℕ) (asked : Asked) (before : List Operation) (reply : Reply)
    → IsLegal is_frame before → IsAnswered seat name body need asked before before [] reply
    → IsStep alone seat need name body asked before before reply
step-alone alone seat need name body asked before reply legal answered = record {
  seen = before;
  later = before;
  made = [];
  came = extended-same alone seat before;
  went = extended-same alone seat before;
  follows = sym (append-nil before);
  legal = legal;
  answered = answered;
}

pub step-once : (alone : Bool) (seat need : ℕ) (name body : List ℕ) (asked : Asked) (before after made : List Operation) (reply : Reply)
    (Says : List Operation → Type 0) → IsCall alone seat before after made Says
    → ((seen : List Operation) → Says seen → IsAnswered seat name body need asked seen seen made reply)
    → IsStep alone seat need name body asked before after reply
step-once alone seat need name body asked before after made reply Says call answers = record {
  seen = call.seen;
  later = call.seen;
  made = made;
  came = call.came;
  went = extended-same alone seat call.seen;
  follows = call.entered;
  legal = call.legal;
  answered = answers call.seen call.says;
}

-- a call at a desk whose seat stays
pub call-at : (one two : Bool) (seat place : ℕ) (before after made : List Operation) (Says : List Operation → Type 0)
    → two ≡ one → place ≡ seat → IsCall two place before after made Says → IsCall one seat before after made Says
call-at one two seat place before after made Says e f call =
    subst (λ b. IsCall b seat before after made Says) e (subst (λ n. IsCall two n before after made Says) f call)
