use Rattle.std.proofs.Common.{◌≡◌, false, List, ℕ, length, sym, subst, ◌∙◌}
use Rattle.std.specs.Prelude.{nat_eq, ◌||◌}
use Rattle.std.proofs.lemmas.Bool.{eqb-true, eqb-false, ne_eqb, eq-eqb}
use Rattle.lf_nquads.specs.Scanning.{first_is, is_tag_char}
use Rattle.lf_nquads.proofs.TagProofs.{TagSoFar}
use Rattle.lf_nquads.proofs.Readers.{tag_goes, tag_waits, tag_ends, tag_lacks, none_taken}
use Rattle.lf_nquads.proofs.cursor.Cursor.tag_front.Goals as goal
use Rattle.lf_nquads.proofs.cursor.Cursor.tag_front.Goals.{then-digits, else-digits}

pub loop-c-preserved-then-not-needed : goal.loop-c-preserved-then-not-needed
loop-c-preserved-then-not-needed c =
    let d : c.if-digits.digits ≡ (c.loop-c.digits || nat_eq c.in-Some.c 45) =
    elim c.if-digits.branch [ then-digits w ↦ rw w.if-digits.true (w.digits-is ∙ w.if-digits.true) | else-digits w ↦ rw w.if-digits.false w.digits-is ] in
    subst (λ (t : List ℕ). TagSoFar c.here-start.result t c.next_of_tag.new.self (nat_eq c.in-Some.c 45) c.if-digits.digits) (sym c.here-end-then-not-needed.ensures)
    (tag_goes c.here-start.result c.loop-c.end c.loop-c.self c.next_of_tag.new.self c.loop-c.needed c.loop-c.digits c.if-digits.digits c.in-Some.c c.loop-c.invariant c.in-Some.ensures (ne_eqb c.in-Some.c 45 c.if-not-needed.true) d)

pub loop-c-preserved : goal.loop-c-preserved
loop-c-preserved c =
    let d : c.if-digits.digits ≡ (c.loop-c.digits || nat_eq c.in-Some.c 45) =
    elim c.if-digits.branch [ then-digits w ↦ rw w.if-digits.true (w.digits-is ∙ w.if-digits.true) | else-digits w ↦ rw w.if-digits.false w.digits-is ] in
    tag_waits c.here-start.result c.loop-c.end c.loop-c.self c.next_of_tag.new.self c.loop-c.needed c.loop-c.digits c.if-digits.digits c.in-Some.c c.loop-c.invariant c.in-Some.ensures (eq-eqb c.in-Some.c 45 c.if-not-needed.false) d

pub returns-then-is_empty : goal.returns-then-is_empty
returns-then-is_empty c =
    let stop : first_is (is_tag_char c.loop-c.needed c.loop-c.digits) c.loop-c.self ≡ false =
    none_taken (is_tag_char c.loop-c.needed c.loop-c.digits) c.loop-c.self c.next_of_tag.result c.next_of_tag.new.self c.next_of_tag.ensures c.in_default.not-Some in
    tag_lacks c.here-start.result c.args.self.now c.loop-c.end c.loop-c.self c.until-tag.result.now c.loop-c.needed c.loop-c.digits c.loop-c.invariant c.here-start.ensures stop
    (c.until-tag.ensures c.loop-c.invariant.tag c.loop-c.invariant.begins) (eqb-true (length c.until-tag.result.now) 0 (sym c.is_empty.ensures ∙ c.if-is_empty.true))

pub returns : goal.returns
returns c =
    let stop : first_is (is_tag_char c.loop-c.needed c.loop-c.digits) c.loop-c.self ≡ false =
    none_taken (is_tag_char c.loop-c.needed c.loop-c.digits) c.loop-c.self c.next_of_tag.result c.next_of_tag.new.self c.next_of_tag.ensures c.in_default.not-Some in
    tag_ends c.here-start.result c.args.self.now c.loop-c.end c.loop-c.self c.until-tag.result.now c.loop-c.needed c.loop-c.digits c.loop-c.invariant c.here-start.ensures stop
    (c.until-tag.ensures c.loop-c.invariant.tag c.loop-c.invariant.begins) (eqb-false (length c.until-tag.result.now) 0 (sym c.is_empty.ensures ∙ c.if-is_empty.false))
