use Rattle.lf_lists.specs.Reading.{left_in}
use Rattle.lf_lists.proofs.ReadStates.{ReadState}
use Rattle.lf_lists.proofs.value.read_list.Given as goal

abbrev pub invariant-read : goal.invariant-read
invariant-read g l =
    ReadState (g.O.Oracle.quads l.fn.oracle) (g.O.Oracle.quads l.oracle) l.graph l.head (g.O.Oracle.told l.fn.oracle)
    (g.O.Oracle.told l.oracle) l.fn.steps l.steps l.reader

abbrev pub decreases-read : goal.decreases-read
decreases-read g l = left_in (g.O.Oracle.quads l.oracle) l.graph l.reader
