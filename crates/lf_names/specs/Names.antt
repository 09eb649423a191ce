-- The words that replies and printed texts have for kinds of bad lines, limits of documents and
-- counts of a history.
use Rattle.std.specs.Prelude.{List, ℕ, codes}
use Rattle.def_patch_texts.specs.declared.kind.LineKind.{LineKind}
use Rattle.def_patch_texts.specs.declared.kind.LineKind.TheVariants as kind
use Rattle.lf_model.specs.declared.desk.Counted.{Counted}
use Rattle.lf_model.specs.declared.desk.Counted.TheVariants as counted
use Rattle.lf_model.specs.declared.document.Limit.{Limit}
use Rattle.lf_model.specs.declared.document.Limit.TheVariants as limits
use Rattle.def_framing.specs.Results.{item_limit}
use Rattle.def_framing.specs.Outcome.{depth_limit}
use Rattle.def_documents.specs.Document.{most_items, most_bytes}

-- how many bytes such a word has at most
abbrev pub longest_word : ℕ
longest_word = 20

-- what is wrong with a line of a patch text
unfoldable pub kind_name : LineKind → List ℕ
kind_name kind.Syntax = codes "syntax"
kind_name kind.RelativeIri = codes "relative IRI"
kind_name kind.BadEscape = codes "bad escape"
kind_name kind.NotUtf8 = codes "not UTF-8"
kind_name kind.LineTooLong = codes "line too long"

-- what a history counts
unfoldable pub counted_name : Counted → List ℕ
counted_name counted.Commits = codes "commits"
counted_name counted.Registrations = codes "registrations"
counted_name counted.Bytes = codes "bytes"

-- a limit of a document
unfoldable pub limit_name : Limit → List ℕ
limit_name limits.TreeItems = codes "tree items"
limit_name limits.Depth = codes "depth"
limit_name limits.DocumentItems = codes "document items"
limit_name limits.DocumentBytes = codes "document bytes"

-- its number
unfoldable pub limit_number : Limit → ℕ
limit_number limits.TreeItems = item_limit
limit_number limits.Depth = depth_limit
limit_number limits.DocumentItems = most_items
limit_number limits.DocumentBytes = most_bytes
