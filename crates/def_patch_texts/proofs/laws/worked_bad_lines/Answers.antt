use Rattle.def_patch_texts.proofs.BadCases.{third_line_is_bad, escape_is_bad, surrogate_is_bad, relative_comes_first, predicate_is_bad, no_utf8_is_bad}
use Rattle.def_patch_texts.proofs.laws.worked_bad_lines.Goals as goal

pub returns : goal.returns
returns c = (third_line_is_bad, escape_is_bad, surrogate_is_bad, relative_comes_first, predicate_is_bad, no_utf8_is_bad)
