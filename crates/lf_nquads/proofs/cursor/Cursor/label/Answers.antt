use Rattle.std.proofs.Common.{◌≡◌, false, List, ℕ, sym, subst}
use Rattle.std.proofs.lemmas.Bool.{ne_eqb, eq-eqb}
use Rattle.std.proofs.lemmas.Result.{err_from_is_err_and}
use Rattle.def_patch_texts.specs.Characters.{is_label_char}
use Rattle.lf_nquads.specs.Scanning.{first_is}
use Rattle.lf_nquads.proofs.LabelProofs.{LabelSoFar}
use Rattle.lf_nquads.proofs.Readers.{label_starts, label_refused, label_goes, label_waits, label_ends, none_taken}
use Rattle.lf_nquads.proofs.cursor.Cursor.label.Goals as goal

pub returns-in_err-first_of_label : goal.returns-in_err-first_of_label
returns-in_err-first_of_label c =
    let p = err_from_is_err_and c.from_residual.result c.from_residual.ensures.1 in
    rw (p.1, p.2) (label_refused c.in_err-first_of_label.field-0.0 c.args.self.now c.in_err-first_of_label.ensures)

pub loop-c-init : goal.loop-c-init
loop-c-init c =
    subst (λ (t : List ℕ). LabelSoFar c.here-start.result t c.first_of_label.new.self) (sym c.here-end.ensures)
    (label_starts c.here-start.result c.args.self.now c.first_of_label.new.self c.in_ok-first_of_label.field-0 c.here-start.ensures c.in_ok-first_of_label.ensures)

pub loop-c-preserved-then-c-ne46 : goal.loop-c-preserved-then-c-ne46
loop-c-preserved-then-c-ne46 c =
    subst (λ (t : List ℕ). LabelSoFar c.here-start.result t c.next_of_label.new.self) (sym c.here-end-then-c-ne46.ensures)
    (label_goes c.here-start.result c.loop-c.end c.loop-c.self c.next_of_label.new.self c.in-Some.c c.loop-c.invariant c.in-Some.ensures
    (ne_eqb c.in-Some.c 46 c.if-c-ne46.true))

pub loop-c-preserved : goal.loop-c-preserved
loop-c-preserved c =
    label_waits c.here-start.result c.loop-c.end c.loop-c.self c.next_of_label.new.self c.in-Some.c c.loop-c.invariant c.in-Some.ensures
    (eq-eqb c.in-Some.c 46 c.if-c-ne46.false)

pub returns : goal.returns
returns c =
    let stop : first_is is_label_char c.loop-c.self ≡ false =
    none_taken is_label_char c.loop-c.self c.next_of_label.result c.next_of_label.new.self c.next_of_label.ensures c.in_default.not-Some in
    label_ends c.here-start.result c.args.self.now c.loop-c.end c.loop-c.self c.until-label.result.now c.loop-c.invariant c.here-start.ensures stop
    (c.until-label.ensures c.loop-c.invariant.label c.loop-c.invariant.begins)
