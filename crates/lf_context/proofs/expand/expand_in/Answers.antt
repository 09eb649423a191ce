use Rattle.std.proofs.Common.{true, rules}
use Rattle.lf_context.specs.DraftView.{table_in}
use Rattle.lf_context.proofs.Expanded.{expanded-alike}
use Rattle.lf_context.proofs.expand.expand_in.Goals as goal

pub returns : goal.returns
returns c = expanded-alike c.expand_by.result (table_in c.args.table.now) _ c.args.text.now true (search rules) c.expand_by.ensures
