-- A call of a desk that is alone.
use Rattle.std.proofs.Common.{◌≡◌, refl, sym, ◌∙◌, ℕ, List, [], ◌∷◌, ◌++◌, Bool, true, false, cond, Ok}
use Rattle.std.proofs.lemmas.List.{append-nil}
use Rattle.def_histories.specs.declared.operation.Operation.{Operation}
use Rattle.def_histories.specs.declared.operation.Operation.TheVariants.{Retire}
use Rattle.def_histories.specs.Legal.{IsLegal}
use Rattle.lf_frames.specs.FrameTexts.{is_frame}
use Rattle.lf_desk.specs.Calls.{IsCall, retired_by}

pub lone_call : (alone : Bool) (seat : ℕ) (before after made : List Operation) (Says : List Operation → Type 0)
    → after ≡ before ++ made → IsLegal is_frame after → Says before → IsCall alone seat before after made Says
lone_call alone seat before after made Says entered legal says =
    record {
      seen = before;
      came = record { more = []; follows = sym (append-nil before); others = refl; lone = λ _. refl };
      entered = entered;
      legal = legal;
      says = says;
    }

pub lone_read : (alone : Bool) (seat : ℕ) (before : List Operation) (Says : List Operation → Type 0)
    → IsLegal is_frame before → Says before → IsCall alone seat before before [] Says
lone_read alone seat before Says legal says =
    lone_call alone seat before before [] Says (sym (append-nil before)) legal says

pub entry_of : (before after : List Operation) (seat : ℕ) (name : List ℕ) (was_live : Bool)
    → after ≡ cond was_live (before ++ Retire seat name ∷ []) before → after ≡ before ++ retired_by seat name (Ok was_live)
entry_of before after seat name true e = e
entry_of before after seat name false e = e ∙ sym (append-nil before)
