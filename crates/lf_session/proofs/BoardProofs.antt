-- Boards stay where no turn is made.
use Rattle.std.proofs.Common.{◌≡◌, refl, sym, ◌∙◌, ap, ℕ, Bool, true, List, [], ◌++◌}
use Rattle.std.proofs.lemmas.List.{append-nil}
use Rattle.def_histories.specs.declared.operation.Operation.{Operation}
use Rattle.def_turns.specs.Turns.{still_live}
use Rattle.lf_desk.specs.Calls.{IsCall}
use Rattle.lf_session.specs.Boards.{Boards, KeepsBoards}

-- no call was made
pub kept-still : (alone : Bool) (history : List Operation) (boards : Boards) → still_live history boards.away ≡ boards.away
    → KeepsBoards alone history boards boards
kept-still alone history boards live = record { taken = refl; out = λ lone. sym live }

-- one call after another, of which the second made nothing
pub kept-twice : (alone there : Bool) (one two : List Operation) (a b d : Boards) → there ≡ alone → (alone ≡ true → two ≡ one)
    → still_live one b.away ≡ b.away → KeepsBoards alone one a b → KeepsBoards there two b d → KeepsBoards alone two a d
kept-twice alone there one two a b d e same live p q = record {
  taken = q.taken ∙ p.taken;
  out = λ lone.
      q.out (e ∙ lone)
      ∙ (ap (λ (h : List Operation). still_live h b.away) (same lone)
      ∙ (live ∙ (p.out lone ∙ ap (λ (h : List Operation). still_live h a.away) (sym (same lone)))));
}

pub call-stays : (alone there : Bool) (place : ℕ) (before after : List Operation) (Says : List Operation → Type 0) → there ≡ alone
    → IsCall there place before after [] Says → alone ≡ true → after ≡ before
call-stays alone there place before after Says e call lone =
    call.entered
    ∙ (append-nil call.seen
    ∙ (call.came.follows ∙ (ap (λ (w : List Operation). before ++ w) (call.came.lone (e ∙ lone)) ∙ append-nil before)))
