-- A history is legal in at most one way, so that a type may keep that it is.
use mathlib.Core.Bool.{Bool-set}
use Rattle.std.specs.Prelude.{List, ℕ, Bool, Option, None, Some}
use Rattle.std.specs.Coded.{×_prop, Unit-prop, le_prop}
use Rattle.def_histories.specs.declared.live.Live.{Live}
use Rattle.def_histories.specs.declared.operation.Operation.{Operation}
use Rattle.def_histories.specs.declared.operation.Operation.TheVariants.{Commit, Register, Retire, Publish}
use Rattle.def_histories.specs.History.{live}
use Rattle.def_histories.specs.Legal.{IsNewer, MayPublish, IsAllowed, IsLegal}

is_newer-prop : (version : ℕ) (published : Option ℕ) → IsProp (IsNewer version published)
is_newer-prop version None = Unit-prop
is_newer-prop version (Some published) = le_prop

may_publish-prop : (version : ℕ) (frame : Option Live) → IsProp (MayPublish version frame)
may_publish-prop version None = hlevel
may_publish-prop version (Some frame) = is_newer-prop version frame.published

pub is_allowed-prop :
    (accepts : List ℕ → Bool) (history : List Operation) (entry : Operation) →
    IsProp (IsAllowed accepts history entry)
is_allowed-prop accepts history (Commit seat patch) = hlevel le_prop
is_allowed-prop accepts history (Register seat name text) = hlevel (le_prop, Bool-set)
is_allowed-prop accepts history (Retire seat name) = hlevel Bool-set
is_allowed-prop accepts history (Publish name version) =
    ×_prop le_prop (may_publish-prop version (live history name))

pub is_legal-prop :
    (accepts : List ℕ → Bool) (history : List Operation) → IsProp (IsLegal accepts history)
is_legal-prop accepts history = λ one two. λ i. λ before entry rest stands.
    is_allowed-prop accepts before entry (one before entry rest stands)
    (two before entry rest stands) i
