-- Entries that are put into members one after the other.
use Rattle.std.proofs.Common.{◌≡◌, ℕ, List, [], ◌∷◌, ◌++◌, Option, Some, None, refl, ap, sym, subst, append_assoc}
use Rattle.lf_model.specs.JsonData.{JsonValue}
use Rattle.lf_compact.specs.Answers.{AddsEntries}
use Rattle.lf_compact.specs.Members.{Adds, Hold, Members}
use Rattle.lf_compact.proofs.Held.{held-more}

abbrev Entries : Type 0
Entries = List (List ℕ × JsonValue)

append-none : (xs : Entries) → xs ≡ xs ++ []
append-none [] = refl
append-none (x ∷ xs) = ap (λ l. x ∷ l) (append-none xs)

pub adds-none : (members : Members) → AddsEntries members members []
adds-none members = λ entries held. subst (Hold members) (append-none entries) held

pub adds-one : (before after : Members) (key : List ℕ) (value : JsonValue) → Adds before after key value
    → AddsEntries before after ((key, value) ∷ [])
adds-one before after key value added = λ entries held. held-more before after key value entries held added

pub adds-then : (a b c : Members) (xs ys : Entries) → AddsEntries a b xs → AddsEntries b c ys → AddsEntries a c (xs ++ ys)
adds-then a b c xs ys f g = λ entries held. subst (Hold c) (append_assoc entries xs ys) (g (entries ++ xs) (f entries held))

-- the entries come to the same
pub adds-same : (a b : Members) (xs ys : Entries) → xs ≡ ys → AddsEntries a b xs → AddsEntries a b ys
adds-same a b xs ys same f = subst (AddsEntries a b) same f
