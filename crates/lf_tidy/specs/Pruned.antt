-- A property and a reverse property without the ids that are counted once.
use Rattle.std.specs.Prelude.{List, ℕ}
use Rattle.lf_model.specs.TreeBridge.{Property, Reverse}
use Rattle.def_documents.specs.Pruning.{prune_entries, prune_nodes}

abbrev pub pruned_property : (List ℕ → ℕ) → Property → Property
pruned_property counts p = (p.0, prune_entries counts p.1)

abbrev pub pruned_reverse : (List ℕ → ℕ) → Reverse → Reverse
pruned_reverse counts r = (r.0, prune_nodes counts r.1)
