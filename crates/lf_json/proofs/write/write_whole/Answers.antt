use Rattle.std.proofs.Common.{rules}
use Rattle.lf_json.proofs.Decimals.{IsNumber-whole}
use Rattle.lf_json.proofs.write.write_whole.Goals as goal

pub number-requires : goal.number-requires
number-requires c = search (rules, IsNumber-whole)
