use Rattle.lf_json.proofs.ReadBackLemmas.{string_is_utf8}
use Rattle.lf_json.proofs.write.text_of.Goals as goal

pub returns-clause-utf8 : goal.returns-clause-utf8
returns-clause-utf8 c = string_is_utf8 c.from_string.result c.unwrap.result c.from_string.ensures
