use Rattle.std.proofs.Common.{length}
use Rattle.std.specs.String.{string_bytes}
use Rattle.def_patch_texts.specs.PatchText.{absolute_iris}
use Rattle.lf_nquads.specs.Outcomes.{iri_part_of}
use Rattle.lf_nquads.proofs.Parts.{SoFar}
use Rattle.lf_nquads.proofs.cursor.Cursor.iri_parts.Given as goal

abbrev pub invariant-loop-self : goal.invariant-loop-self
invariant-loop-self l = SoFar 62 (iri_part_of absolute_iris) l.initial.self (string_bytes l.iri) l.self

abbrev pub decreases-loop-self : goal.decreases-loop-self
decreases-loop-self l = length l.self
