-- Jobs and histories.
use Rattle.std.proofs.Common.{◌≡◌, ◌≤◌, ◌+◌, refl, sym, ◌∙◌, ap, subst, ℕ, suc, List, [], ◌∷◌, ◌++◌, length, take, Option, None, Some, Bool, IsTrue, arith, append_assoc, length-append}
use Rattle.std.proofs.lemmas.List.{take-append-le}
use Rattle.std.proofs.lemmas.Option.{none-some}
use Rattle.lf_rdf.specs.declared.quad.Signed.{Signed}
use Rattle.def_datasets.specs.Dataset.{after_all, at_version}
use Rattle.def_histories.specs.declared.operation.Operation.{Operation}
use Rattle.def_histories.specs.declared.operation.Operation.TheVariants.{Commit, Register, Retire, Publish}
use Rattle.def_histories.specs.History.{patches, commits, registrations}
use Rattle.def_histories.specs.Replay.{dataset_at}
use Rattle.def_histories.specs.Jobs.{Job, IsPrefix, IsPrefixIfSome, IsRegistered, Fits, FittingJobsFitOn, TextNumbersAreOne, FittingBoardsAreVersions}
use Rattle.def_histories.proofs.Appended.{patches-append, registrations-append}

pub prefix_of_longer : (first all more : List (List Signed)) → IsPrefix first all → IsPrefix first (all ++ more)
prefix_of_longer first all more (rest, is) = (rest ++ more, ap (λ (w : List (List Signed)). w ++ more) is ∙ append_assoc first rest more)

pub prefix_of_prefix : (first between all : List (List Signed)) → IsPrefix first between → IsPrefix between all → IsPrefix first all
prefix_of_prefix first between all begins (rest, is) = subst (IsPrefix first) (sym is) (prefix_of_longer first between rest begins)

pub registered_on : (history later : List Operation) (number : ℕ) (name text : List ℕ) → IsRegistered history number name text
    → IsRegistered (history ++ later) number name text
registered_on history later number name text is = record {
  before = is.before;
  seat = is.seat;
  later = is.later ++ later;
  stands =
      ap (λ (w : List Operation). w ++ later) is.stands
      ∙ append_assoc is.before (Register is.seat name text ∷ is.later) later;
  numbered = is.numbered;
}

-- a job that fits goes on to fit, whatever says that a text gives the board's frame
pub fits_on : (Gives : List ℕ → Type 0) (history later : List Operation) (job : Job) → Fits Gives history job → Fits Gives (history ++ later) job
fits_on Gives history later job fits = record {
  text = fits.text;
  board = fits.board;
  target = subst (IsPrefix job.target) (sym (patches-append history later)) (prefix_of_longer job.target (patches history) (patches later) fits.target);
  registered = registered_on history later job.number job.name fits.text fits.registered;
  gives = fits.gives;
}

pub fitting_jobs_fit_on : FittingJobsFitOn
fitting_jobs_fit_on gives history later job fits = fits_on (λ text. IsTrue (gives text)) history later job fits

-- ---- one registration has a text number

-- no registration stands at the place of another entry
more : (entry : Operation) (rest : List Operation) → registrations rest ≤ registrations (entry ∷ rest)
more (Commit seat patch) rest = omega arith
more (Register seat name text) rest = omega arith
more (Retire seat name) rest = omega arith
more (Publish name version) rest = omega arith

same_place : (before before2 later later2 : List Operation) (seat seat2 : ℕ) (name name2 text text2 : List ℕ)
    → before ++ Register seat name text ∷ later ≡ before2 ++ Register seat2 name2 text2 ∷ later2
    → registrations before ≡ registrations before2 → (name ≡ name2) × (text ≡ text2)
same_place [] [] later later2 seat seat2 name name2 text text2 same counted = (cc, cc)
same_place [] (entry ∷ before2) later later2 seat seat2 name name2 text text2 same counted =
    let first : Register seat name text ≡ entry = cc in
    let none : 0 ≡ registrations (Register seat name text ∷ before2) = counted ∙ ap (λ (e : Operation). registrations (e ∷ before2)) (sym first) in
    absurd (omega arith)
same_place (entry ∷ before) [] later later2 seat seat2 name name2 text text2 same counted =
    let first : entry ≡ Register seat2 name2 text2 = cc in
    let none : registrations (Register seat2 name2 text2 ∷ before) ≡ 0 = ap (λ (e : Operation). registrations (e ∷ before)) (sym first) ∙ counted in
    absurd (omega arith)
same_place (entry ∷ before) (entry2 ∷ before2) later later2 seat seat2 name name2 text text2 same counted =
    let first : entry ≡ entry2 = cc in
    let behind : before ++ Register seat name text ∷ later ≡ before2 ++ Register seat2 name2 text2 ∷ later2 = cc in
    same_place before before2 later later2 seat seat2 name name2 text text2 behind
    (fewer entry before before2 (counted ∙ ap (λ (e : Operation). registrations (e ∷ before2)) (sym first)))
  where
    fewer : (e : Operation) (one two : List Operation) → registrations (e ∷ one) ≡ registrations (e ∷ two) → registrations one ≡ registrations two
    fewer (Commit s patch) one two e = e
    fewer (Register s n t) one two e = omega arith
    fewer (Retire s n) one two e = e
    fewer (Publish n v) one two e = e

pub text_numbers_are_one : TextNumbersAreOne
text_numbers_are_one history number name name2 text text2 one two =
    let same : suc (registrations one.before) ≡ suc (registrations two.before) = sym one.numbered ∙ two.numbered in
    same_place one.before two.before one.later two.later one.seat two.seat name name2 text text2 (sym one.stands ∙ two.stands) (omega arith)

-- ---- a board is a version

version_of_prefix : (first all : List (List Signed)) → IsPrefix first all
    → (length first ≤ length all) × (at_version first (length first) ≡ at_version all (length first))
version_of_prefix first all (rest, is) =
    let long : length all ≡ length first + length rest = ap length is ∙ length-append first rest in (
      omega arith,
      ap (λ (w : List (List Signed)). after_all [] w)
          (sym (take-append-le (length first) first rest (omega arith)) ∙ ap (λ (w : List (List Signed)). take (length first) w) (sym is)),
    )

board_begins : (board : Option (List (List Signed))) (first target : List (List Signed)) → board ≡ Some first → IsPrefixIfSome board target
    → IsPrefix first target
board_begins board first target is begins = subst (λ (o : Option (List (List Signed))). IsPrefixIfSome o target) is begins

pub fitting_boards_are_versions : FittingBoardsAreVersions
fitting_boards_are_versions gives history job board fits is =
    version_of_prefix board (patches history)
    (prefix_of_prefix board job.target (patches history) (board_begins job.board board job.target is fits.board) fits.target)
