-- The main definitions, by subject. Those of compaction that share a name with others are
-- `CompactedValues` and `PropertyEntries`.

-- terms, ids and canonical lines
pub use Rattle.lf_rdf.specs.Vocabulary
pub use Rattle.lf_rdf.specs.Equality
pub use Rattle.lf_rdf.specs.Canonical
-- maps, JSON values, values of properties and trees as data, and the names of errors
pub use Rattle.lf_sorted.specs.Entries
pub use Rattle.lf_model.specs.JsonData
pub use Rattle.lf_model.specs.JsonBridge
pub use Rattle.lf_model.specs.ValueData
pub use Rattle.lf_model.specs.ValueBridge
pub use Rattle.lf_model.specs.TreeData
pub use Rattle.lf_model.specs.TreeBridge
pub use Rattle.lf_model.specs.ErrorName
-- patch texts
pub use Rattle.def_patch_texts.specs.PatchText
pub use Rattle.def_patch_texts.specs.BadLine
-- datasets, questions, list cells and views
pub use Rattle.def_datasets.specs.Dataset
pub use Rattle.def_datasets.specs.Terms
pub use Rattle.def_datasets.specs.Questions
pub use Rattle.def_datasets.specs.Near
pub use Rattle.def_datasets.specs.Cells
pub use Rattle.def_datasets.specs.Values
pub use Rattle.def_datasets.specs.Views
-- what is learnt by asking
pub use Rattle.lf_oracle.specs.Asking
pub use Rattle.lf_oracle.specs.Nearby
pub use Rattle.lf_oracle.specs.NodeViews
-- contexts and frames
pub use Rattle.def_contexts.specs.Table
pub use Rattle.def_contexts.specs.Expansion
pub use Rattle.def_contexts.specs.Frames
pub use Rattle.def_contexts.specs.FrameValues
pub use Rattle.def_nested.specs.Nested
pub use Rattle.def_nested.specs.Unfolding
-- matching and embedding
pub use Rattle.def_framing.specs.ValuePatterns
pub use Rattle.def_framing.specs.Matching
pub use Rattle.def_framing.specs.Parts
pub use Rattle.def_framing.specs.Embedding
pub use Rattle.def_framing.specs.Outcome
pub use Rattle.def_framing.specs.OutcomeBridge
pub use Rattle.def_framing.specs.Nearness
-- compaction and documents
pub use Rattle.def_printed.specs.JsonText
pub use Rattle.def_selection.specs.Slots
pub use Rattle.def_selection.specs.Chosen
pub use Rattle.def_selection.specs.Iris
pub use Rattle.def_documents.specs.Values as CompactedValues
pub use Rattle.def_documents.specs.Entries as PropertyEntries
pub use Rattle.def_documents.specs.Nodes
pub use Rattle.def_documents.specs.Pruning
pub use Rattle.def_documents.specs.Document
pub use Rattle.def_documents.specs.FrameDocument
pub use Rattle.def_scratch.specs.Scratch
-- what frames' texts come to
pub use Rattle.lf_frames.specs.FrameTexts
-- histories and desks
pub use Rattle.def_histories.specs.History
pub use Rattle.def_histories.specs.Replay
pub use Rattle.def_histories.specs.Legal
pub use Rattle.def_histories.specs.Jobs
pub use Rattle.lf_desk.specs.Seats
pub use Rattle.lf_desk.specs.Calls
pub use Rattle.lf_desk.specs.RegisterAnswer
pub use Rattle.lf_desk.specs.CommitAnswer
pub use Rattle.lf_desk.specs.Looks
