use Rattle.std.proofs.Common.{◌≡◌, length}
use Rattle.def_patch_texts.specs.Characters.{ends_scheme}
use Rattle.lf_nquads.proofs.iri.ends_scheme.Given as goal

abbrev pub invariant-loop-c : goal.invariant-loop-c
invariant-loop-c l = ends_scheme l.cursor ≡ ends_scheme l.initial.cursor

abbrev pub decreases-loop-c : goal.decreases-loop-c
decreases-loop-c l = length l.cursor
