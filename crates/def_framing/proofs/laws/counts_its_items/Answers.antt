use Rattle.def_framing.proofs.Counted.{counts_items}
use Rattle.def_framing.proofs.laws.counts_its_items.Goals as goal

pub returns : goal.returns
returns c = counts_items
