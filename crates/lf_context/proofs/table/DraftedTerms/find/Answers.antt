use Rattle.std.proofs.Common.{◌∙◌}
use Rattle.lf_context.proofs.Named.{looked_up}
use Rattle.lf_context.proofs.table.DraftedTerms.find.Goals as goal

pub returns : goal.returns
returns c = c.get.ensures.value ∙ looked_up c.args.name.now c.args.self.now.terms.entries c.args.self.now.named
