-- One row more of a scan.
use Rattle.std.proofs.Common.{◌≡◌, sym, ◌∙◌, ap, List, [], ◌∷◌, ◌++◌, true, append_assoc}
use Rattle.std.specs.List.{flat_map, take_while}
use Rattle.lf_rdf.specs.declared.term.Term.{Term}
use Rattle.lf_rdf.specs.declared.quad.Quad.{Quad}
use Rattle.lf_rdf.specs.declared.question.Question.{Question}
use Rattle.def_datasets.specs.Questions.{nodes_in}
use Rattle.lf_ptree.proofs.PagesLemmas.{take_while-first}
use Rattle.lf_index.specs.Reach.{reaches, reached, nodes_reached}

module _ (question : Question) (all rest : List Quad) (x : Quad) (front : all ≡ x ∷ rest) (passed : reaches question x ≡ true) where
  further : take_while (reaches question) all ≡ x ∷ take_while (reaches question) rest
  further = ap (take_while (reaches question)) front ∙ take_while-first (reaches question) x rest passed

  -- a row that is passed is found
  pub found_more : (found more whole : List Quad) → found ++ reached question all ≡ whole → more ≡ found ++ x ∷ [] → more ++ reached question rest ≡ whole
  found_more found more whole now grown =
      ap (λ (l : List Quad). l ++ reached question rest) grown
      ∙ (append_assoc found (x ∷ []) (reached question rest) ∙ (ap (λ (l : List Quad). found ++ l) (sym further) ∙ now))

  -- the nodes of a row are found
  pub nodes_more : (found more whole : List Term) → found ++ nodes_reached question all ≡ whole → more ≡ found ++ nodes_in x
      → more ++ nodes_reached question rest ≡ whole
  nodes_more found more whole now grown =
      ap (λ (l : List Term). l ++ nodes_reached question rest) grown
      ∙ (append_assoc found (nodes_in x) (nodes_reached question rest)
      ∙ (ap (λ (l : List Term). found ++ l) (sym (ap (flat_map nodes_in) further)) ∙ now))
