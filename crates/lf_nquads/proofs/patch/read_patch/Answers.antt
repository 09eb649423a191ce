use Rattle.std.proofs.Common.{length, Ok, Err, refl, sym}
use Rattle.std.proofs.lemmas.Result.{err_from_is_err_and}
use Rattle.std.proofs.lemmas.List.Sums.{prefix_len-le-length}
use Rattle.def_patch_texts.proofs.StatesGiven.{states_given}
use Rattle.lf_nquads.specs.Patches.{is_inside}
use Rattle.lf_nquads.proofs.PatchProofs.{goes_on, is_whole, bad_answer, finds_all, names_all}
use Rattle.lf_nquads.proofs.patch.read_patch.Goals as goal

pub split_at-requires : goal.split_at-requires
split_at-requires c = rw c.line_len.ensures (prefix_len-le-length is_inside c.lines.text.now)

pub returns-in_err-take_line-clause-bad : goal.returns-in_err-take_line-clause-bad
returns-in_err-take_line-clause-bad c =
    let p = err_from_is_err_and c.from_residual.result c.from_residual.ensures.1 in
    let s = bad_answer c.args.bytes.now c.lines.lines c.take_line.new.lines c.lines.number c.lines.text.now c.split_at.result.0.now c.split_at.result.1.now c.line_len.result c.in_err-take_line.field-0.0
    c.lines.invariant c.line_len.ensures c.split_at.ensures.front c.split_at.ensures.back c.in_err-take_line.ensures in
    rw (p.1, p.2) s.2

pub returns-in_err-take_line-clause-finds : goal.returns-in_err-take_line-clause-finds
returns-in_err-take_line-clause-finds c =
    let p = err_from_is_err_and c.from_residual.result c.from_residual.ensures.1 in
    let s = bad_answer c.args.bytes.now c.lines.lines c.take_line.new.lines c.lines.number c.lines.text.now c.split_at.result.0.now c.split_at.result.1.now c.line_len.result c.in_err-take_line.field-0.0
    c.lines.invariant c.line_len.ensures c.split_at.ensures.front c.split_at.ensures.back c.in_err-take_line.ensures in
    rw (p.1, p.2) (finds_all c.args.bytes.now (Err c.in_err-take_line.field-0.0) s)

pub returns-in_err-take_line-clause-names : goal.returns-in_err-take_line-clause-names
returns-in_err-take_line-clause-names c =
    let p = err_from_is_err_and c.from_residual.result c.from_residual.ensures.1 in
    let s = bad_answer c.args.bytes.now c.lines.lines c.take_line.new.lines c.lines.number c.lines.text.now c.split_at.result.0.now c.split_at.result.1.now c.line_len.result c.in_err-take_line.field-0.0
    c.lines.invariant c.line_len.ensures c.split_at.ensures.front c.split_at.ensures.back c.in_err-take_line.ensures in
    rw (p.1, p.2) (names_all c.args.bytes.now (Err c.in_err-take_line.field-0.0) s)

pub lines-preserved : goal.lines-preserved
lines-preserved c =
    goes_on c.args.bytes.now c.lines.lines c.take_line.new.lines c.lines.number c.lines.text.now c.split_at.result.0.now c.split_at.result.1.now c.in-Some.after.now c.line_len.result c.in_ok-take_line.ensures.0
    c.lines.invariant c.line_len.ensures c.split_at.ensures.front c.split_at.ensures.back c.in_ok-take_line.ensures.1 c.in_ok-take_line.ensures.2 (sym c.in-Some.ensures)

pub returns-clause-read : goal.returns-clause-read
returns-clause-read c =
    is_whole c.args.bytes.now c.lines.lines c.take_line.new.lines c.lines.number c.lines.text.now c.split_at.result.0.now c.split_at.result.1.now c.line_len.result c.in_ok-take_line.ensures.0
    c.lines.invariant c.line_len.ensures c.split_at.ensures.front c.split_at.ensures.back c.in_ok-take_line.ensures.1 c.in_ok-take_line.ensures.2 (sym c.in-None.ensures)

pub returns-clause-given : goal.returns-clause-given
returns-clause-given c =
    states_given c.args.bytes.now c.take_line.new.lines
    (is_whole c.args.bytes.now c.lines.lines c.take_line.new.lines c.lines.number c.lines.text.now c.split_at.result.0.now c.split_at.result.1.now c.line_len.result c.in_ok-take_line.ensures.0
    c.lines.invariant c.line_len.ensures c.split_at.ensures.front c.split_at.ensures.back c.in_ok-take_line.ensures.1 c.in_ok-take_line.ensures.2 (sym c.in-None.ensures))

pub returns-clause-finds : goal.returns-clause-finds
returns-clause-finds c =
    finds_all c.args.bytes.now (Ok (record { lines = c.take_line.new.lines; bytes = length c.args.bytes.now })) (
      is_whole c.args.bytes.now c.lines.lines c.take_line.new.lines c.lines.number c.lines.text.now c.split_at.result.0.now c.split_at.result.1.now c.line_len.result c.in_ok-take_line.ensures.0
          c.lines.invariant c.line_len.ensures c.split_at.ensures.front c.split_at.ensures.back c.in_ok-take_line.ensures.1 c.in_ok-take_line.ensures.2 (sym c.in-None.ensures),
      refl,
      tt,
    )

pub returns-clause-names : goal.returns-clause-names
returns-clause-names c =
    names_all c.args.bytes.now (Ok (record { lines = c.take_line.new.lines; bytes = length c.args.bytes.now })) (
      is_whole c.args.bytes.now c.lines.lines c.take_line.new.lines c.lines.number c.lines.text.now c.split_at.result.0.now c.split_at.result.1.now c.line_len.result c.in_ok-take_line.ensures.0
          c.lines.invariant c.line_len.ensures c.split_at.ensures.front c.split_at.ensures.back c.in_ok-take_line.ensures.1 c.in_ok-take_line.ensures.2 (sym c.in-None.ensures),
      refl,
      tt,
    )
