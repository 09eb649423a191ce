-- What a `GET` is answered, by cases of the look.
use Rattle.std.proofs.Common.{◌≡◌, refl, sym, ◌∙◌, ap, subst, inl, inr, ℕ, List, true, Option, Some, Result, Ok, Err}
use Rattle.std.proofs.lemmas.Bool.{le-leb}
use Rattle.std.specs.Arc.{arc_value}
use Rattle.lf_base.specs.declared.memory.Memory.{Memory}
use Rattle.lf_model.specs.declared.desk.Look.{Look}
use Rattle.lf_model.specs.declared.desk.Look.TheVariants as looked
use Rattle.lf_model.specs.declared.document.Doc.{Doc}
use Rattle.def_histories.specs.declared.operation.Operation.{Operation}
use Rattle.def_histories.specs.History.{live}
use Rattle.lf_http.specs.Reading.{name_of}
use Rattle.lf_desk.specs.Looks.{Looks, is_new_enough}
use Rattle.lf_session.specs.declared.request.Asked.{Asked}
use Rattle.lf_session.specs.declared.request.Asked.TheVariants as asked
use Rattle.lf_session.specs.Bodies.{pending_body}
use Rattle.lf_session.specs.Replies.{Reply, plain, document_reply, look_reply}
use Rattle.lf_session.specs.Answers.{IsAnswered}
use Rattle.lf_session.specs.Exchanges.{needed}
use Rattle.lf_session.specs.Looking.{GetsAreAnswered, IsShown}

new-enough : (need version : ℕ) (published : Option ℕ) → published ≡ Some version → is_new_enough need (Some version) ≡ true
    → is_new_enough need published ≡ true
new-enough need version published e low = ap (is_new_enough need) e ∙ low

look-shown : (history : List Operation) (name : List ℕ) (need : ℕ) (result : Result Look Memory) → Looks history name need result
    → IsShown history need (look_reply result) (live history name)
look-shown history name need (Ok (looked.Document doc version)) looks =
    subst (IsShown history need (document_reply (arc_value doc) version)) (sym looks.1)
    (inl (
      new-enough need version looks.0.published looks.2 (le-leb need version looks.3),
      inl record {
        version = version;
        published = looks.2;
        document = ap (λ (d : Doc). document_reply d version) looks.4;
      },
    ))
look-shown history name need (Ok (looked.Pending have needed)) looks =
    subst (IsShown history need (plain 202 (pending_body have needed))) (sym looks.1)
    (inr (
      ap (is_new_enough need) (sym looks.2) ∙ looks.4,
      (λ i. plain 202 (pending_body (looks.2 i) (looks.3 i))),
    ))
look-shown history name need (Ok looked.Unknown) looks =
    subst (IsShown history need (look_reply (Ok looked.Unknown))) (sym looks) refl
look-shown history name need (Err refused) looks =
    subst (IsShown history need (look_reply (Err refused))) (sym looks.1) (inl (looks.2, inr refl))

pub gets_are_answered : GetsAreAnswered
gets_are_answered alone boards seat need before x is wants =
    shown
    (subst (λ (a : Asked). IsAnswered seat (name_of x.sent.target) x.body (needed need x.head) a x.seen x.later x.made x.reply) wants is.answered)
  where
    shown : IsAnswered seat (name_of x.sent.target) x.body (needed need x.head) asked.Get x.seen x.later x.made x.reply
        → IsShown x.seen (needed need x.head) x.reply (live x.seen (name_of x.sent.target))
    shown by =
        subst (λ (r : Reply). IsShown x.seen (needed need x.head) r (live x.seen (name_of x.sent.target))) (sym by.2.2)
        (look-shown x.seen (name_of x.sent.target) (needed need x.head) by.2.0 by.2.1)
