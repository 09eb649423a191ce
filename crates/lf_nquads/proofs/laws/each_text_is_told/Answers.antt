use Rattle.lf_nquads.proofs.Told.{each_text_is_told}
use Rattle.lf_nquads.proofs.laws.each_text_is_told.Goals as goal

pub returns : goal.returns
returns c = each_text_is_told
