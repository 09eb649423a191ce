use Rattle.std.proofs.Common.{ap}
use Rattle.lf_nquads.specs.Gives.{as_escape}
use Rattle.lf_nquads.proofs.Readers.{nothing_behind, gives_as}
use Rattle.lf_nquads.proofs.cursor.Cursor.string_escape.Goals as goal

pub returns-in-None : goal.returns-in-None
returns-in-None c = gives_as _ c.unicode-in-None.result _ _ (ap as_escape (nothing_behind c.args.self.now c.in-None.ensures)) c.unicode-in-None.ensures
