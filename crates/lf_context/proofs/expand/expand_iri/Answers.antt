use Rattle.std.proofs.Common.{rules}
use Rattle.lf_context.proofs.Expanded.{expanded-alike}
use Rattle.lf_context.proofs.expand.expand_iri.Goals as goal

pub returns : goal.returns
returns c = expanded-alike c.expand_by.result c.args.table.now _ c.args.text.now c.args.vocab (search rules) c.expand_by.ensures
