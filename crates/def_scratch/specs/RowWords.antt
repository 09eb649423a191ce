-- Words for whole documents.
use Rattle.std.specs.Prelude.{◌≡◌, List, ℕ, Some, None, Ok}
use Rattle.std.specs.Fmt.{digits}
use Rattle.lf_rdf.specs.declared.term.Term.{Term}
use Rattle.lf_rdf.specs.declared.term.Term.TheVariants.{Literal}
use Rattle.lf_rdf.specs.declared.quad.Quad.{Quad}
use Rattle.lf_rdf.specs.Vocabulary.{xsd_string, rdf_lang_string, rdf_type, rdf_first, rdf_rest, rdf_nil, rdf_list}
use Rattle.lf_model.specs.JsonData.{JsonValue}
use Rattle.lf_model.specs.declared.document.Doc.{Doc}
use Rattle.lf_model.specs.declared.document.Doc.TheVariants.{Bytes}
use Rattle.def_contexts.specs.CaseWords.{frames_open}
use Rattle.def_framing.specs.Items.{node_items}
use Rattle.def_framing.specs.Matching.{accepts, kind_accepts, prop_tests}
use Rattle.def_framing.specs.Parts.{emit, emit_all}
use Rattle.def_framing.specs.Embedding.{embed}
use Rattle.def_framing.specs.Worked.Words.{a, b, c, g, l, n, p, q}
use Rattle.def_selection.specs.Keywords.{selection_open}
use Rattle.def_documents.specs.Document.{most_items, most_bytes}
use Rattle.def_scratch.specs.Scratch.{scratch_text}

-- the frame gives this document of the quads, which stand in order of their canonical lines
abbrev pub Gives : JsonValue → List Quad → Doc → Type 0
Gives frame dataset document = scratch_text frame dataset ≡ Ok document

-- it is this text
abbrev pub Prints : JsonValue → List Quad → List ℕ → Type 0
Prints frame dataset printed = Gives frame dataset (Bytes printed)

-- a text with a language, and one of a datatype
abbrev pub tagged : List ℕ → List ℕ → Term
tagged lexical language = Literal lexical rdf_lang_string (Some language)

abbrev pub typed : List ℕ → List ℕ → Term
typed lexical datatype = Literal lexical datatype None

-- a proof that unfolds this computes documents from frames and quads
unfoldable pub rows_open : Unit {0}
unfolding frames_open selection_open accepts kind_accepts prop_tests emit emit_all embed node_items
    most_items most_bytes digits a b c g l n p q xsd_string rdf_lang_string rdf_type rdf_first
    rdf_rest rdf_nil rdf_list
rows_open = tt
