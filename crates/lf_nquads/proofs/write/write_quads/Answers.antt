use Rattle.std.proofs.Common.{◌≡◌, List, ℕ, sym, ap, subst, ◌∙◌}
use Rattle.std.specs.String.{string_bytes}
use Rattle.std.proofs.lemmas.List.{take_all}
use Rattle.def_patch_texts.specs.PatchText.{IsPatchText}
use Rattle.lf_nquads.specs.Written.{lines_text, all_added}
use Rattle.lf_nquads.proofs.WrittenProofs.{writes_more, written_reads_back, if_ok_passes}
use Rattle.lf_nquads.proofs.write.write_quads.Goals as goal

pub loop-quad-preserved : goal.loop-quad-preserved
loop-quad-preserved c =
    writes_more c.as_slice-quad-items.result.now c.loop-quad.quad-index c.quad-item.result
    (string_bytes c.loop-quad.out) (string_bytes c.push_line.new.out) c.loop-quad-test.true c.quad-item.is c.loop-quad.invariant c.in_ok-push_line.ensures

pub returns-clause-reads_back : goal.returns-clause-reads_back
returns-clause-reads_back c =
    let written : string_bytes c.loop-quad.out ≡ lines_text c.args.quads.now =
    c.loop-quad.invariant ∙ ap lines_text (take_all c.loop-quad.quad-index c.as_slice-quad-items.result.now c.loop-quad-test.false ∙ c.as_slice-quad-items.ensures) in
    if_ok_passes _ _ c.from_string.result
    (λ t is given short. subst (λ (t : List ℕ). IsPatchText t (all_added c.args.quads.now)) (sym (is ∙ written)) (written_reads_back c.args.quads.now given short))
    c.from_string.ensures
