-- Data files that are committed one after another: what those still to come lead to.
use Rattle.std.proofs.Common.{◌≡◌, ℕ, suc, ◌+◌, ◌<◌, ◌≤◌, List, [], ◌∷◌, length, drop, get_or, map, Option, refl, sym, ap, ◌∙◌, arith, inl, inr, drop-cons, String, Global, string_bytes}
use Rattle.std.proofs.lemmas.List.{drop_all}
use Rattle.def_histories.specs.declared.operation.Operation.{Operation}
use Rattle.lf_io.specs.Files.{Files}
use Rattle.lf_app.specs.Holding.{IsCommitted, AreCommitted}
use Rattle.lf_app.specs.Answers.{Answer, RefusesFile, RefusesOne}

-- What comes of the files that are still to come, behind the history that there is now, comes of all files.
pub record Leads (files : Option Files) (names rest : List (List ℕ)) (before now : List Operation) : Type 0 where
  pub all : (after : List Operation) → AreCommitted files rest now after → AreCommitted files names before after
  pub one : (answer : Answer) → RefusesOne files rest now answer → RefusesOne files names before answer

pub leads_first : (files : Option Files) (names : List (List ℕ)) (before : List Operation) → Leads files names names before before
leads_first files names before = record { all = λ after is. is; one = λ answer is. is }

pub leads_next : (files : Option Files) (names : List (List ℕ)) (name : List ℕ) (rest : List (List ℕ)) (before now later : List Operation)
    → Leads files names (name ∷ rest) before now → IsCommitted files name now later → Leads files names rest before later
leads_next files names name rest before now later l is =
    record {
      all = λ after others. l.all after (later, is, others);
      one = λ answer refused. l.one answer (inr (later, is, refused));
    }

pub leads_last : (files : Option Files) (names : List (List ℕ)) (before now : List Operation)
    → Leads files names [] before now → AreCommitted files names before now
leads_last files names before now l = l.all now refl

pub leads_refused : (files : Option Files) (names : List (List ℕ)) (name : List ℕ) (rest : List (List ℕ)) (before now : List Operation) (answer : Answer)
    → Leads files names (name ∷ rest) before now → RefusesFile files name now answer → RefusesOne files names before answer
leads_refused files names name rest before now answer l refused = l.one answer (inl refused)

-- ---- the words that are still to come

pub words_from : (words : List (String Global)) (place : ℕ) (word : String Global) → place < length words → word ≡ get_or words place word
    → map string_bytes (drop place words) ≡ string_bytes word ∷ map string_bytes (drop (place + 1) words)
words_from words place word within is =
    let next : suc place ≡ place + 1 = omega arith in
    ap (λ ws. map string_bytes ws) (drop-cons words place word within ∙ (λ j. sym is j ∷ drop (next j) words))

pub no_words_from : (words : List (String Global)) (place : ℕ) → length words ≤ place → map string_bytes (drop place words) ≡ []
no_words_from words place past = ap (λ ws. map string_bytes ws) (drop_all place words past)
