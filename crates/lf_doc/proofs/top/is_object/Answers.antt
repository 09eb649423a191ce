use Rattle.lf_doc.proofs.Tops.{map-is}
use Rattle.lf_doc.proofs.top.is_object.Goals as goal

pub returns : goal.returns
returns c = map-is c.args.members.now c.as_slice.ensures.order
