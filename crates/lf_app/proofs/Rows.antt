-- Texts that are printed in a row: what those still to come add.
use Rattle.std.proofs.Common.{◌≡◌, ℕ, suc, ◌+◌, ◌<◌, List, Bor, [], ◌∷◌, length, get_or, map, drop, Option, refl, sym, ap, ◌∙◌, inl, inr, arith, drop-cons}
use Rattle.lf_io.specs.Bytes.{appended, AddsPart}
use Rattle.lf_io.proofs.Told.{appended_nothing, appended_twice, part_of_first, part_of_second}
use Rattle.lf_io.specs.Faults.{risen}
use Rattle.lf_app.specs.Answers.{Answer}
use Rattle.lf_app.specs.Texts.{in_row, status_said, text_said}
use Rattle.lf_app.specs.Runs.{IsPrinted, output_failed}

-- What the texts that are still to come add to what is held now, all texts add to what was held.
pub record Prints (before now : Option (List ℕ)) (texts rest : List (List ℕ)) : Type 0 where
  pub all : appended now (in_row rest) ≡ appended before (in_row texts)
  pub part : (after : Option (List ℕ)) → AddsPart now after (in_row rest) → AddsPart before after (in_row texts)

pub prints_first : (before : Option (List ℕ)) (texts : List (List ℕ)) → Prints before before texts texts
prints_first before texts = record { all = refl; part = λ after is. is }

pub prints_next : (before now later : Option (List ℕ)) (texts : List (List ℕ)) (text : List ℕ) (rest : List (List ℕ))
    → Prints before now texts (text ∷ rest) → later ≡ appended now text → Prints before later texts rest
prints_next before now later texts text rest p written =
    record {
      all = ap (λ held. appended held (in_row rest)) written ∙ appended_twice now text (in_row rest) ∙ p.all;
      part = λ after cut. p.part after (part_of_second now later after text (in_row rest) written cut);
    }

pub prints_last : (before now : Option (List ℕ)) (texts : List (List ℕ)) → Prints before now texts []
    → now ≡ appended before (in_row texts)
prints_last before now texts p = sym (appended_nothing now) ∙ p.all

pub prints_cut : (before now after : Option (List ℕ)) (texts : List (List ℕ)) (text : List ℕ) (rest : List (List ℕ))
    → Prints before now texts (text ∷ rest) → AddsPart now after text → AddsPart before after (in_row texts)
prints_cut before now after texts text rest p cut = p.part after (part_of_first now after text (in_row rest) cut)

-- ---- a whole text, or a part of it

pub printed_whole : (status : ℕ) (answer : Answer) (held_before held_after : Option (List ℕ)) (faults_before faults_after : ℕ)
    → status ≡ status_said answer → held_after ≡ appended held_before (text_said answer) → faults_after ≡ faults_before
    → IsPrinted status answer held_before held_after faults_before faults_after
printed_whole status answer held_before held_after faults_before faults_after is held faults = inl (is, held, faults)

pub printed_part : (status : ℕ) (answer : Answer) (held_before held_after : Option (List ℕ)) (faults_before faults_after : ℕ)
    → status ≡ output_failed → AddsPart held_before held_after (text_said answer) → faults_after ≡ risen faults_before
    → IsPrinted status answer held_before held_after faults_before faults_after
printed_part status answer held_before held_after faults_before faults_after is part faults = inr (is, part, faults)

-- ---- the texts that are still to come

pub texts_from : (texts : List (Bor (List ℕ))) (place : ℕ) (none : Bor (List ℕ)) → place < length texts
    → map (λ t. t.now) (drop place texts) ≡ (get_or texts place none).now ∷ map (λ t. t.now) (drop (place + 1) texts)
texts_from texts place none within =
    let next : suc place ≡ place + 1 = omega arith in
    ap (λ (ts : List (Bor (List ℕ))). map (λ t. t.now) ts)
    (drop-cons texts place none within ∙ (λ j. get_or texts place none ∷ drop (next j) texts))
