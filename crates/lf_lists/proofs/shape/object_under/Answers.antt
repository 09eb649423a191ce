use Rattle.lf_lists.proofs.Shapes.{object_found, object_lacks}
use Rattle.lf_lists.proofs.shape.object_under.Goals as goal

pub returns-in_ok-copy-in-Some : goal.returns-in_ok-copy-in-Some
returns-in_ok-copy-in-Some c = object_found c.args.iri.now c.args.quads.now c.in-Some.quad.now c.in_ok-copy-in-Some.field-0 c.in_ok-copy-in-Some.ensures c.in-Some.ensures

pub returns-in-None : goal.returns-in-None
returns-in-None c = object_lacks c.args.iri.now c.args.quads.now c.in-None.ensures
