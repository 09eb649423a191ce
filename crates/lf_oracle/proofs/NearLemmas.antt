-- What one question for a name teaches: whether the name names a graph. The question is near the name.
use Rattle.std.proofs.Common.{◌≡◌, ◌+◌, ℕ, [], ◌∷◌, List, Option, Bool, Result, Ok, Err, IfOk, OnOk, All, refl, subst, sym, ◌∙◌, ap}
use Rattle.std.proofs.lemmas.List.Elements.{All-cons, All-head, All-nil}
use Rattle.lf_base.specs.declared.memory.Memory.{Memory}
use Rattle.lf_rdf.specs.declared.quad.Quad.{Quad}
use Rattle.lf_rdf.specs.declared.term.Term.{Term}
use Rattle.lf_rdf.specs.declared.question.Question.{Question}
use Rattle.lf_rdf.specs.declared.question.Question.TheVariants as ask
use Rattle.lf_rdf.specs.declared.question.Answer.TheVariants.{Flag}
use Rattle.def_datasets.specs.Near.{itself}
use Rattle.def_datasets.specs.Questions.{answer, named}
use Rattle.lf_oracle.specs.Asking.{Learns, SameAnswers, flag_in, told_with}
use Rattle.lf_oracle.specs.Nearby.{IsNamed, IsNearOne}

one_near : (dataset : List Quad) (name : Term) → All (IsNearOne dataset (IsNamed name)) (ask.Named name ∷ [])
one_near dataset name = All-cons (IsNearOne dataset (IsNamed name)) (ask.Named name) [] (name, (refl, itself)) (All-nil (IsNearOne dataset (IsNamed name)))

same_flag : (dataset other : List Quad) (name : Term) (found : Bool) → answer dataset (ask.Named name) ≡ Flag found → SameAnswers dataset other (ask.Named name ∷ []) → found ≡ named other name
same_flag dataset other name found answered alike =
    sym (ap flag_in (All-head (λ question. answer other question ≡ answer dataset question) (ask.Named name) [] alike ∙ answered))

pub named_is_learnt : (dataset : List Quad) (before after : Option (List Question)) (first last : ℕ) (name copied : Term) (r : Result Bool Memory) → copied ≡ name → IfOk r (λ found. answer dataset (ask.Named copied) ≡ Flag found) → OnOk r (after ≡ told_with (ask.Named copied ∷ []) before) → last ≡ first + 1 → IfOk r (λ found. Learns (IsNearOne dataset (IsNamed name)) dataset before after first last (λ d. named d name) found)
named_is_learnt dataset before after first last name copied (Ok found) same answered told counted =
    record { asked = ask.Named name ∷ []; told = subst (λ n. after ≡ told_with (ask.Named n ∷ []) before) same told; counted = counted; near = one_near dataset name; same = λ other. same_flag dataset other name found (subst (λ n. answer dataset (ask.Named n) ≡ Flag found) same answered) }
named_is_learnt dataset before after first last name copied (Err refused) same answered told counted = tt
