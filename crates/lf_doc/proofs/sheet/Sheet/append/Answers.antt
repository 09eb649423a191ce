use Rattle.std.proofs.Common.{◌++◌, ◌∙◌}
use Rattle.lf_doc.proofs.Sheets.{utf8-added}
use Rattle.lf_doc.proofs.sheet.Sheet.append.Goals as goal

pub of-requires : goal.of-requires
of-requires c =
    utf8-added c.self.inside.bytes.items c.args.text.now c.extend_from_slice.new.self.items c.self.invariant c.utf8.text
    (c.in_ok-extend_from_slice.ensures.items ∙ (λ i. (c.replace-bytes.ensures.value i).items ++ c.as_bytes.ensures.value i))
