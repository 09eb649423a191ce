use Rattle.std.proofs.Common.{ap}
use Rattle.lf_context.specs.DraftView.{table_in}
use Rattle.lf_context.proofs.Named.{put_there, named_after}
use Rattle.lf_context.proofs.draft.Drafted.put.Goals as goal

pub invariant_of-self : goal.invariant_of-self
invariant_of-self c = record { named = named_after c.insert.result c.args.definition c.in_ok-name.name c.args.self.now.terms.entries c.insert.new.self.entries c.in_ok-name.ensures c.insert.ensures.entries c.insert.ensures.err c.args.self.now.named }

pub returns-in-Some : goal.returns-in-Some
returns-in-Some c =
    ap (λ terms. record (table_in c.args.self.now) { terms = terms })
    (put_there c.args.definition c.in_ok-name.name c.args.self.now.terms.entries c.insert.new.self.entries c.in_ok-name.ensures c.in_ok-older.ensures.entries c.args.self.now.named)

pub returns-in_default : goal.returns-in_default
returns-in_default c =
    ap (λ terms. record (table_in c.args.self.now) { terms = terms })
    (put_there c.args.definition c.in_ok-name.name c.args.self.now.terms.entries c.insert.new.self.entries c.in_ok-name.ensures c.in_ok-older.ensures.entries c.args.self.now.named)
