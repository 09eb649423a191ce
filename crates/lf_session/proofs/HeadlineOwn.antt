-- What a seat's requests made is of its number or a publication, and what others made isn't of its number.
use Rattle.std.proofs.Common.{◌≡◌, refl, sym, ◌∙◌, ap, subst, List, [], ◌∷◌, ◌++◌, inl, inr, ℕ, nat_eq, Bool, true, false, Result, Ok, Err}
use Rattle.std.specs.List.{list_all}
use Rattle.std.proofs.lemmas.Bool.{eq-eqb, and_from, and_parts}
use Rattle.std.proofs.lemmas.List.{append-nil}
use Rattle.std.proofs.lemmas.List.Elements.{filter-append}
use Rattle.lf_base.specs.declared.memory.Memory.{Memory}
use Rattle.lf_rdf.specs.declared.quad.Patch.{Patch}
use Rattle.lf_desk.specs.declared.refusals.CommitErr.{CommitErr}
use Rattle.lf_desk.specs.declared.refusals.RegisterErr.{RegisterErr}
use Rattle.def_histories.specs.declared.operation.Operation.{Operation}
use Rattle.lf_desk.specs.CommitAnswer.{committed_by}
use Rattle.lf_desk.specs.RegisterAnswer.{registered_by}
use Rattle.lf_desk.specs.Calls.{retired_by}
use Rattle.def_turns.specs.declared.turned.Turned.{Turned}
use Rattle.def_turns.specs.declared.turned.Turned.TheVariants as t
use Rattle.lf_desk.specs.Rotas.{given_entry}
use Rattle.lf_desk.specs.Seats.{is_of_seat, is_made_by, own, IsExtended}
use Rattle.lf_session.specs.declared.request.Asked.{Asked}
use Rattle.lf_session.specs.declared.request.Asked.TheVariants as asked
use Rattle.lf_session.specs.Replies.{Reply}
use Rattle.lf_session.specs.Answers.{IsAnswered, Commits}

pub own-append : (seat : ℕ) (one two : List Operation) → own seat (one ++ two) ≡ own seat one ++ own seat two
own-append seat one two = filter-append (is_of_seat seat) one two

-- others' entries don't count
pub own-extended : (alone : Bool) (seat : ℕ) (before after : List Operation) → IsExtended alone seat before after
    → own seat after ≡ own seat before
own-extended alone seat before after went =
    ap (own seat) went.follows
    ∙ (own-append seat before went.more
    ∙ (ap (λ (w : List Operation). own seat before ++ w) went.others ∙ append-nil (own seat before)))

-- what is the seat's own after an exchange
pub own-after : (seat : ℕ) (before seen later made : List Operation) → own seat seen ≡ own seat before → own seat later ≡ own seat seen
    → own seat (later ++ made) ≡ own seat before ++ own seat made
own-after seat before seen later made came went =
    own-append seat later made ∙ ap (λ (w : List Operation). w ++ own seat made) (went ∙ came)

-- ---- what requests made is of the seat's number, or a publication

abbrev pub AllMade : ℕ → List Operation → Type 0
AllMade seat made = list_all (is_made_by seat) made ≡ true

pub made-append : (seat : ℕ) (one two : List Operation) → AllMade seat one → AllMade seat two → AllMade seat (one ++ two)
made-append seat [] two first second = second
made-append seat (entry ∷ rest) two first second =
    let parts = and_parts (is_made_by seat entry) (list_all (is_made_by seat) rest) first in
    and_from (is_made_by seat entry) (list_all (is_made_by seat) (rest ++ two)) parts.0 (made-append seat rest two parts.1 second)

itself : (seat : ℕ) → nat_eq seat seat ≡ true
itself seat = eq-eqb seat seat refl

made-registered : (seat : ℕ) (name text : List ℕ) (result : Result Bool RegisterErr) → AllMade seat (registered_by seat name text result)
made-registered seat name text (Ok true) = rw (itself seat) refl
made-registered seat name text (Ok false) = refl
made-registered seat name text (Err error) = refl

made-retired : (seat : ℕ) (name : List ℕ) (result : Result Bool Memory) → AllMade seat (retired_by seat name result)
made-retired seat name (Ok true) = rw (itself seat) refl
made-retired seat name (Ok false) = refl
made-retired seat name (Err refused) = refl

made-committed : (seat : ℕ) (patch : Patch) (result : Result ℕ CommitErr) → AllMade seat (committed_by seat patch result)
made-committed seat patch (Ok version) = rw (itself seat) refl
made-committed seat patch (Err error) = refl

-- a publication has no seat's number
made-given : (seat : ℕ) (result : Result Turned Memory) → AllMade seat (given_entry result)
made-given seat (Ok t.Idle) = refl
made-given seat (Ok (t.Published name version)) = refl
made-given seat (Ok (t.Home name version)) = refl
made-given seat (Ok (t.Superseded name was now)) = refl
made-given seat (Err refused) = refl

made-is : (seat : ℕ) (made these : List Operation) → made ≡ these → AllMade seat these → AllMade seat made
made-is seat made these is all = subst (AllMade seat) (sym is) all

pub made-none : (seat : ℕ) (made : List Operation) → made ≡ [] → AllMade seat made
made-none seat made is = made-is seat made [] is refl

pub made-answered : (seat : ℕ) (name body : List ℕ) (need : ℕ) (wanted : Asked) (seen later made : List Operation) (reply : Reply)
    → IsAnswered seat name body need wanted seen later made reply → AllMade seat made
made-answered seat name body need (asked.Refused why) seen later made reply by = made-none seat made by.1
made-answered seat name body need asked.Put seen later made reply by = made-is seat made _ by.1.2 (made-registered seat name body by.1.0)
made-answered seat name body need asked.Delete seen later made reply by = made-is seat made _ by.1.2 (made-retired seat name by.1.0)
made-answered seat name body need asked.Get seen later made reply by = made-none seat made by.1
made-answered seat name body need asked.GetNow seen later made reply by = made-none seat made by.0
made-answered seat name body need asked.Commit seen later made reply by = committed by.1
  where
    committed : Commits seat body seen made reply → AllMade seat made
    committed (inl done) = made-is seat made _ done.makes (made-committed seat done.patch done.result)
    committed (inr (inl bad)) = made-none seat made bad.makes
    committed (inr (inr none)) = made-none seat made none.0
made-answered seat name body need asked.Version seen later made reply by = made-none seat made by.1
made-answered seat name body need asked.Turn seen later made reply by = made-is seat made _ by.1 (made-given seat by.0)
