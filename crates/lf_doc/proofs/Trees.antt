-- The trees of outcomes that are still to come, and the maps of those before.
use Rattle.std.proofs.Common.{ℕ, List, ◌++◌, Option, Some, None, drop, map}
use Rattle.lf_model.specs.declared.document.Outcome.{Outcome}
use Rattle.lf_model.specs.JsonData.{JsonValue}
use Rattle.lf_model.specs.TreeData.{TreeNode}
use Rattle.def_framing.specs.OutcomeBridge.{outcome_data}
use Rattle.lf_doc.specs.Gathering.{trees_of}

-- the trees of the outcomes from a place on
abbrev pub trees_from : List Outcome → ℕ → List TreeNode
trees_from xs i = trees_of (map outcome_data (drop i xs))

-- the maps so far and those of the others
abbrev pub before : List JsonValue → Option (List JsonValue) → Option (List JsonValue)
before maps None = None
before maps (Some others) = Some (maps ++ others)
