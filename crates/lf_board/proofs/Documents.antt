-- The document of a board, by what it keeps.
use Rattle.std.proofs.Common.{◌≡◌, sym, ap, subst, ◌∙◌, List, map, Option, None, Some}
use Rattle.std.specs.Arc.{arc_value}
use Rattle.lf_rdf.specs.declared.quad.Quad.{Quad}
use Rattle.lf_rdf.specs.declared.term.Term.{Term}
use Rattle.lf_model.specs.declared.frame.Frame.{Frame}
use Rattle.def_datasets.specs.Terms.{terms}
use Rattle.def_documents.specs.FrameDocument.{document_of}
use Rattle.def_framing.specs.Outcome.{outcome}
use Rattle.def_framing.specs.OutcomeBridge.{outcome_data}
use Rattle.def_framing.specs.Views.{of_dataset}
use Rattle.lf_versions.specs.declared.commit.Commit.{Commit}
use Rattle.lf_versions.specs.Commits.{dataset}
use Rattle.lf_board.specs.declared.evaluated.Evaluated.{Evaluated}
use Rattle.lf_board.specs.Boards.{IsOf, IsOfIfSome, document_by, number_by, version_of}

pub doc_is : (frame : Frame) (kept : Option Evaluated) (made : Evaluated) → kept ≡ Some made → IsOfIfSome frame kept
    → Some (arc_value made.doc) ≡ document_by frame (version_of kept)
doc_is frame kept made is held =
    let of : IsOf frame made = subst (IsOfIfSome frame) is held in
    ap Some of.doc ∙ ap (λ k. document_by frame (version_of k)) (sym is)

pub no_doc : (frame : Frame) (kept : Option Evaluated) → kept ≡ None → None ≡ document_by frame (version_of kept)
no_doc frame kept is = ap (λ k. document_by frame (version_of k)) (sym is)

-- what was evaluated is what the frame gives over the version
pub is_of : (frame : Frame) (made : Evaluated) (to : List Commit) (quads : List Quad) (all : List Term)
    → made.version ≡ to → quads ≡ dataset to → all ≡ terms (dataset to)
    → map outcome_data made.outcomes ≡ map (outcome (of_dataset quads) frame) all
    → arc_value made.doc ≡ document_of frame (map outcome_data made.outcomes)
    → IsOf frame made
is_of frame made to quads all same index names outcomes doc =
    let given : map outcome_data made.outcomes ≡ map (outcome (of_dataset (dataset made.version)) frame) (terms (dataset made.version)) =
    outcomes ∙ ((λ i. map (outcome (of_dataset (index i)) frame) (names i)) ∙ (λ i. map (outcome (of_dataset (dataset (sym same i))) frame) (terms (dataset (sym same i))))) in
    record {
      outcomes = given;
      doc = doc ∙ ap (document_of frame) given;
    }
