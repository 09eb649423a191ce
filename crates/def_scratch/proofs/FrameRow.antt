-- The worked value of the type `Frame`.
use Rattle.std.proofs.Common.{◌≡◌, ◌∙◌, refl, ap, map}
use Rattle.lf_model.specs.JsonData.{JsonValue}
use Rattle.lf_model.specs.declared.document.Doc.TheVariants.{Bytes}
use Rattle.lf_model.proofs.JsonLemmas.{json_data-Null}
use Rattle.def_nested.specs.Unfolding.{unfold_from}
use Rattle.def_contexts.specs.Table.{empty_table}
use Rattle.def_datasets.specs.Terms.{terms}
use Rattle.def_framing.specs.Outcome.{outcome}
use Rattle.def_framing.specs.Views.{of_dataset}
use Rattle.def_documents.specs.Document.{document}
use Rattle.def_scratch.specs.FrameRows.{WorkedFrame, numbered_frame, shared, shared_document}
use Rattle.def_scratch.specs.RowWords.{rows_open}
use Rattle.def_scratch.specs.Scratch.{scratch_frame}

has_document : scratch_frame numbered_frame shared ≡ Bytes shared_document
unfolding rows_open unfold_from
has_document =
    ap (λ (context : JsonValue). document empty_table context (map (outcome (of_dataset shared) numbered_frame) (terms shared)))
    json_data-Null
    ∙ refl

pub worked : WorkedFrame
unfolding rows_open unfold_from
worked = record { stands = rw json_data-Null refl; document = has_document }
