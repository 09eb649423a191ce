-- What a history tells, with more entries behind it.
use Rattle.std.proofs.Common.{◌≡◌, refl, sym, ◌∙◌, ap, ◌+◌, ℕ, List, [], ◌∷◌, ◌++◌, length, arith, length-append}
use Rattle.lf_rdf.specs.declared.quad.Signed.{Signed}
use Rattle.def_histories.specs.declared.live.Live.{Live}
use Rattle.def_histories.specs.declared.operation.Operation.{Operation}
use Rattle.def_histories.specs.declared.operation.Operation.TheVariants.{Commit, Register, Retire, Publish}
use Rattle.def_histories.specs.History.{patches, commits, registrations, text_bytes, live_from, live_step}

pub patches-append : (one two : List Operation) → patches (one ++ two) ≡ patches one ++ patches two
patches-append [] two = refl
patches-append (Commit seat patch ∷ rest) two = ap (λ (w : List (List Signed)). patch.lines ∷ w) (patches-append rest two)
patches-append (Register seat name text ∷ rest) two = patches-append rest two
patches-append (Retire seat name ∷ rest) two = patches-append rest two
patches-append (Publish name version ∷ rest) two = patches-append rest two

pub commits-append : (one two : List Operation) → commits (one ++ two) ≡ commits one + commits two
commits-append one two = ap length (patches-append one two) ∙ length-append (patches one) (patches two)

pub registrations-append : (one two : List Operation) → registrations (one ++ two) ≡ registrations one + registrations two
registrations-append [] two = omega arith
registrations-append (Commit seat patch ∷ rest) two = registrations-append rest two
registrations-append (Register seat name text ∷ rest) two = rw (registrations-append rest two) (omega arith)
registrations-append (Retire seat name ∷ rest) two = registrations-append rest two
registrations-append (Publish name version ∷ rest) two = registrations-append rest two

pub text_bytes-append : (one two : List Operation) → text_bytes (one ++ two) ≡ text_bytes one + text_bytes two
text_bytes-append [] two = omega arith
text_bytes-append (Commit seat patch ∷ rest) two = rw (text_bytes-append rest two) (omega arith)
text_bytes-append (Register seat name text ∷ rest) two = rw (text_bytes-append rest two) (omega arith)
text_bytes-append (Retire seat name ∷ rest) two = text_bytes-append rest two
text_bytes-append (Publish name version ∷ rest) two = text_bytes-append rest two

-- the registrations of an entry and of those behind it
pub registrations-cons : (entry : Operation) (rest : List Operation)
    → registrations (entry ∷ rest) ≡ registrations (entry ∷ []) + registrations rest
registrations-cons entry rest = registrations-append (entry ∷ []) rest

pub live_from-append : (count : ℕ) (frames : List Live) (history : List Operation) (entry : Operation)
    → live_from count frames (history ++ entry ∷ []) ≡ live_step (count + registrations history) (live_from count frames history) entry
live_from-append count frames [] entry = ap (λ (n : ℕ). live_step n frames entry) (sym (plus_zero count))
  where
    plus_zero : (n : ℕ) → n + 0 ≡ n
    plus_zero n = omega arith
live_from-append count frames (first ∷ rest) entry =
    live_from-append (count + registrations (first ∷ [])) (live_step count frames first) rest entry
    ∙ ap (λ (n : ℕ). live_step n (live_from (count + registrations (first ∷ [])) (live_step count frames first) rest) entry)
    (joined count (registrations (first ∷ [])) (registrations rest) ∙ ap (λ (n : ℕ). count + n) (sym (registrations-cons first rest)))
  where
    joined : (a b c : ℕ) → a + b + c ≡ a + (b + c)
    joined a b c = omega arith

pub live_from-more : (count : ℕ) (frames : List Live) (one two : List Operation)
    → live_from count frames (one ++ two) ≡ live_from (count + registrations one) (live_from count frames one) two
live_from-more count frames [] two = ap (λ (n : ℕ). live_from n frames two) (sym (plus_zero count))
  where
    plus_zero : (n : ℕ) → n + 0 ≡ n
    plus_zero n = omega arith
live_from-more count frames (first ∷ rest) two =
    live_from-more (count + registrations (first ∷ [])) (live_step count frames first) rest two
    ∙ ap (λ (n : ℕ). live_from n (live_from (count + registrations (first ∷ [])) (live_step count frames first) rest) two)
    (joined count (registrations (first ∷ [])) (registrations rest) ∙ ap (λ (n : ℕ). count + n) (sym (registrations-cons first rest)))
  where
    joined : (a b c : ℕ) → a + b + c ≡ a + (b + c)
    joined a b c = omega arith
