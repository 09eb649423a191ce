-- What a text expands to goes by the terms and the vocabulary mapping of a table alone.
use Rattle.std.proofs.Common.{◌≡◌, List, ℕ, Bool, Option, Result, Ok, Err, IfOk, refl, ap, ◌∙◌}
use Rattle.lf_model.specs.declared.table.TermTable.{TermTable}
use Rattle.def_contexts.specs.Expansion.{expand}
use Rattle.lf_context.specs.Tables.{expanding_table}

expands-alike : (table : TermTable) (text : List ℕ) (vocab : Bool) → expand (expanding_table table.vocab table.terms) text vocab ≡ expand table text vocab
unfolding expand
expands-alike table text vocab = refl

pub expanded-alike : {E : Type 0} (r : Result (Option (List ℕ)) E) (table : TermTable) (mapping : Option (List ℕ)) (text : List ℕ) (vocab : Bool) → mapping ≡ table.vocab → IfOk r (λ iri. iri ≡ expand (expanding_table mapping table.terms) text vocab) → IfOk r (λ iri. iri ≡ expand table text vocab)
expanded-alike (Ok iri) table mapping text vocab same h = h ∙ ap (λ m. expand (expanding_table m table.terms) text vocab) same ∙ expands-alike table text vocab
expanded-alike (Err e) table mapping text vocab same h = tt
