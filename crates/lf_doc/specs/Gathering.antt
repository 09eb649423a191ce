-- The trees of outcomes.
use Rattle.std.specs.Prelude.{List, [], ◌∷◌, Option, Some, None}
use Rattle.lf_model.specs.declared.document.Limit.{Limit}
use Rattle.lf_model.specs.TreeData.{TreeNode}
use Rattle.def_framing.specs.Outcome.{Outcome, not_key, no_match, matched, past}
use Rattle.def_documents.specs.Document.{Gathered, trees, limited}

-- the trees of the terms that match, in order
abbrev pub trees_of : List Outcome → List TreeNode
trees_of [] = []
trees_of (not_key ∷ rest) = trees_of rest
trees_of (no_match ∷ rest) = trees_of rest
trees_of (past limit ∷ rest) = trees_of rest
trees_of (matched found ∷ rest) = found ∷ trees_of rest

-- the limit, or the trees where there is none
abbrev pub gathered_by : Option Limit → List TreeNode → Gathered
gathered_by None all = trees all
gathered_by (Some limit) all = limited limit
