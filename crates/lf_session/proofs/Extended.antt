-- Histories that go on, and calls one after another.
use Rattle.std.proofs.Common.{◌≡◌, ◌≤◌, ◌+◌, ℕ, Bool, List, [], ◌++◌, refl, ap, sym, ◌∙◌, subst, append_assoc, arith}
use Rattle.std.proofs.lemmas.List.{append-nil}
use Rattle.std.proofs.lemmas.List.Elements.{filter-append}
use Rattle.def_histories.specs.declared.operation.Operation.{Operation}
use Rattle.def_histories.specs.History.{commits}
use Rattle.def_histories.proofs.Appended.{commits-append}
use Rattle.lf_desk.specs.Calls.{IsCall}
use Rattle.lf_desk.specs.Seats.{IsExtended, own, is_of_seat}

pub extended-same : (alone : Bool) (seat : ℕ) (history : List Operation) → IsExtended alone seat history history
extended-same alone seat history = record { more = []; follows = sym (append-nil history); others = refl; lone = λ _. refl }

pub extended-twice : (alone : Bool) (seat : ℕ) (a b d : List Operation) → IsExtended alone seat a b → IsExtended alone seat b d → IsExtended alone seat a d
extended-twice alone seat a b d p q = record {
  more = p.more ++ q.more;
  follows = q.follows ∙ ap (λ l. l ++ q.more) p.follows ∙ append_assoc a p.more q.more;
  others = filter-append (is_of_seat seat) p.more q.more ∙ ap (λ l. l ++ own seat q.more) p.others ∙ q.others;
  lone = λ e. ap (λ l. l ++ q.more) (p.lone e) ∙ q.lone e;
}

-- versions are only added
pub commits-grow : (alone : Bool) (seat : ℕ) (a b : List Operation) → IsExtended alone seat a b → commits a ≤ commits b
commits-grow alone seat a b p =
    let e : commits b ≡ commits a + commits p.more = ap commits p.follows ∙ commits-append a p.more in
    omega arith

-- a call that made nothing, and another behind it
pub calls-in_turn : (alone : Bool) (seat : ℕ) (a b d made : List Operation) (S T U : List Operation → Type 0)
    → IsCall alone seat a b [] S → IsCall alone seat b d made T
    → ((seen later : List Operation) → IsExtended alone seat seen later → S seen → T later → U later)
    → IsCall alone seat a d made U
calls-in_turn alone seat a b d made S T U p q says =
    let e : b ≡ p.seen = p.entered ∙ append-nil p.seen in
    let went : IsExtended alone seat p.seen q.seen = subst (λ h. IsExtended alone seat h q.seen) e q.came in
    record {
      seen = q.seen;
      came = extended-twice alone seat a p.seen q.seen p.came went;
      entered = q.entered;
      legal = q.legal;
      says = says p.seen q.seen went p.says q.says;
    }
