use Rattle.def_selection.proofs.Shortened.{short-tells}
use Rattle.def_selection.proofs.laws.short_tells_iri.Goals as goal

pub returns : goal.returns
returns c = short-tells
