use Rattle.std.proofs.Common.{◌≡◌, false, true, List, ℕ, sym, subst, ◌∙◌}
use Rattle.std.specs.String.{string_bytes}
use Rattle.std.proofs.lemmas.Result.{err_from_is_err_and}
use Rattle.def_patch_texts.specs.PatchText.{absolute_iris}
use Rattle.def_patch_texts.specs.Reading.{starts}
use Rattle.lf_nquads.specs.Outcomes.{iri_part_of}
use Rattle.lf_nquads.proofs.Parts.{SoFar, more_so_far, ends_so_far, iri_shrinks}
use Rattle.lf_nquads.proofs.Readers.{part_fails}
use Rattle.lf_nquads.proofs.cursor.Cursor.iri_parts.Goals as goal

pub returns-in_err-c : goal.returns-in_err-c
returns-in_err-c c =
    let p = err_from_is_err_and c.from_residual.result c.from_residual.ensures.1 in
    let other : starts 62 c.loop-self.self ≡ false = sym c.begins.ensures ∙ c.loop-self-test.true in
    rw (p.1, p.2) (part_fails c.in_err-c.field-0.0 62 (iri_part_of absolute_iris) c.args.self.now (string_bytes c.loop-self.iri) c.loop-self.self c.loop-self.invariant other c.in_err-c.ensures)

pub loop-self-smaller : goal.loop-self-smaller
loop-self-smaller c = iri_shrinks absolute_iris c.loop-self.self (c.in_ok-c.c, c.iri_part.new.self) c.in_ok-c.ensures

pub loop-self-preserved : goal.loop-self-preserved
loop-self-preserved c =
    let other : starts 62 c.loop-self.self ≡ false = sym c.begins.ensures ∙ c.loop-self-test.true in
    subst (λ (t : List ℕ). SoFar 62 (iri_part_of absolute_iris) c.args.self.now t c.iri_part.new.self) (sym c.in_ok-push.ensures.bytes)
    (more_so_far 62 (iri_part_of absolute_iris) (iri_shrinks absolute_iris) c.args.self.now (string_bytes c.loop-self.iri) c.loop-self.self c.in_ok-c.c c.iri_part.new.self c.loop-self.invariant other c.in_ok-c.ensures)

pub returns : goal.returns
returns c =
    let closed : starts 62 c.loop-self.self ≡ true = sym c.begins.ensures ∙ c.loop-self-test.false in
    ends_so_far 62 (iri_part_of absolute_iris) c.args.self.now (string_bytes c.loop-self.iri) c.loop-self.self c.loop-self.invariant closed
