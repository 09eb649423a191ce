use Rattle.std.proofs.Common.{◌++◌, ◌∙◌}
use Rattle.def_printed.specs.JsonText.{json_string}
use Rattle.lf_doc.proofs.Sheets.{utf8-added}
use Rattle.lf_doc.proofs.sheet.Sheet.string.Goals as goal

pub of-requires : goal.of-requires
of-requires c =
    utf8-added c.self.inside.bytes.items (json_string c.args.text.now) c.extend_from_slice.new.self.items c.self.invariant c.in_ok-quoted.ensures.utf8
    (c.in_ok-extend_from_slice.ensures.items ∙ (λ i. (c.replace-bytes.ensures.value i).items ++ (c.as_slice.ensures.value ∙ c.in_ok-quoted.ensures.items) i))
