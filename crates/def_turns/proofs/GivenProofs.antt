-- What a board that is given back adds may follow.
use Rattle.std.proofs.Common.{◌≡◌, refl, sym, ap, subst, ℕ, nat_eq, ◌≤◌, List, [], ◌++◌, Bool, true, false, cond, Option, Some, None}
use Rattle.std.proofs.lemmas.Bool.{ltb-true}
use Rattle.std.proofs.lemmas.List.{append-nil}
use Rattle.def_histories.specs.declared.live.Live.{Live}
use Rattle.def_histories.specs.declared.operation.Operation.{Operation}
use Rattle.def_histories.specs.declared.operation.Operation.TheVariants.{Publish}
use Rattle.def_histories.specs.History.{commits, live}
use Rattle.def_histories.specs.Legal.{IsAllowed, IsLegal, IsNewer, MayPublish}
use Rattle.def_histories.proofs.LegalProofs.{allowed_is_legal}
use Rattle.def_turns.specs.declared.turned.Turned.TheVariants as t
use Rattle.def_turns.specs.Turns.{entry_of, given_back, given_to, home_or_published, is_newer}
use Rattle.def_turns.specs.TurnLaws.{GivenBackIsAllowed}

newer : (version : ℕ) (published : Option ℕ) → is_newer version published ≡ true → IsNewer version published
newer version None e = tt
newer version (Some before) e = ltb-true before version e

legal_stays : (accepts : List ℕ → Bool) (history : List Operation) → IsLegal accepts history → IsLegal accepts (history ++ [])
legal_stays accepts history legal = subst (IsLegal accepts) (sym (append-nil history)) legal

published_is_legal : (accepts : List ℕ → Bool) (history : List Operation) (name : List ℕ) (frame : Live) (reached : ℕ) (above : Bool)
    → is_newer reached frame.published ≡ above → live history name ≡ Some frame → IsLegal accepts history → reached ≤ commits history
    → IsLegal accepts (history ++ entry_of (cond above (t.Published name reached) (t.Home name (Some reached))))
published_is_legal accepts history name frame reached true e found legal within =
    allowed_is_legal accepts history (Publish name reached) legal
    (within, subst (MayPublish reached) (sym found) (newer reached frame.published e))
published_is_legal accepts history name frame reached false e found legal within = legal_stays accepts history legal

home_is_legal : (accepts : List ℕ → Bool) (history : List Operation) (name : List ℕ) (frame : Live) (version : Option ℕ)
    → live history name ≡ Some frame → IsLegal accepts history → ((reached : ℕ) → version ≡ Some reached → reached ≤ commits history)
    → IsLegal accepts (history ++ entry_of (home_or_published name version frame.published))
home_is_legal accepts history name frame None found legal within = legal_stays accepts history legal
home_is_legal accepts history name frame (Some reached) found legal within =
    published_is_legal accepts history name frame reached (is_newer reached frame.published) refl found legal (within reached refl)

text_is_legal : (accepts : List ℕ → Bool) (history : List Operation) (name : List ℕ) (frame : Live) (number : ℕ) (version : Option ℕ) (same : Bool)
    → live history name ≡ Some frame → IsLegal accepts history → ((reached : ℕ) → version ≡ Some reached → reached ≤ commits history)
    → IsLegal accepts (history ++ entry_of (cond same (home_or_published name version frame.published) (t.Superseded name number (Some frame.number))))
text_is_legal accepts history name frame number version true found legal within = home_is_legal accepts history name frame version found legal within
text_is_legal accepts history name frame number version false found legal within = legal_stays accepts history legal

live_is_legal : (accepts : List ℕ → Bool) (history : List Operation) (name : List ℕ) (found : Option Live) (number : ℕ) (version : Option ℕ)
    → live history name ≡ found → IsLegal accepts history → ((reached : ℕ) → version ≡ Some reached → reached ≤ commits history)
    → IsLegal accepts (history ++ entry_of (given_to found name number version))
live_is_legal accepts history name None number version e legal within = legal_stays accepts history legal
live_is_legal accepts history name (Some frame) number version e legal within =
    text_is_legal accepts history name frame number version (nat_eq frame.number number) e legal within

pub given_back_is_allowed : GivenBackIsAllowed
given_back_is_allowed accepts history name number version legal within =
    live_is_legal accepts history name (live history name) number version refl legal within
