-- What holds of the outcome of conditions that are tried in order.
use Rattle.std.proofs.Common.{◌≡◌, Bool, true, false, ◌||◌, cond, Result, Ok, Err, refl}
use Rattle.std.specs.Bool.{⊤}
use Rattle.lf_model.specs.declared.error.LdError.{LdError}
use Rattle.def_contexts.specs.Outcomes.{◌>>=◌, refuse}

-- P holds of a value, and Q of an error
abbrev pub Holds : {A : Type 0} → (LdError → Type 0) → (A → Type 0) → Result A LdError → Type 0
Holds Q P (Ok x) = P x
Holds Q P (Err e) = Q e

pub then-holds :
    {A B : Type 0} (Q : LdError → Type 0) (P : A → Type 0) (R : B → Type 0) (r : Result A LdError)
    (next : A → Result B LdError) → Holds Q P r → ((x : A) → P x → Holds Q R (next x)) → Holds Q R (r >>= next)
then-holds Q P R (Ok x) next h k = k x h
then-holds Q P R (Err e) next h k = h

pub refuse-holds : (Q : LdError → Type 0) (b : Bool) (e : LdError) → (b ≡ true → Q e) → Holds Q (λ _. ⊤) (refuse b e)
refuse-holds Q true e q = q refl
refuse-holds Q false e q = tt

pub cond-holds :
    {A : Type 0} (Q : LdError → Type 0) (P : A → Type 0) (b : Bool) (r s : Result A LdError) →
    (b ≡ true → Holds Q P r) → (b ≡ false → Holds Q P s) → Holds Q P (cond b r s)
cond-holds Q P true r s h k = h refl
cond-holds Q P false r s h k = k refl

pub or_left : (a b : Bool) → a ≡ true → (a || b) ≡ true
or_left a b h = rw h refl

pub or_right : (a b : Bool) → b ≡ true → (a || b) ≡ true
or_right true b h = refl
or_right false b h = h
