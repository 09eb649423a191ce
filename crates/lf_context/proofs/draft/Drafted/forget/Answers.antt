use Rattle.std.proofs.Common.{ap, ◌∙◌}
use Rattle.std.specs.BTreeMap.{is_at}
use Rattle.lf_context.specs.Tables.{are_named}
use Rattle.lf_context.specs.DraftView.{table_in}
use Rattle.lf_context.proofs.Named.{name_cmp, taken_out, named_without}
use Rattle.lf_context.proofs.draft.Drafted.forget.Goals as goal

pub invariant_of-self : goal.invariant_of-self
invariant_of-self c = record { named = ap are_named c.remove.ensures.entries ∙ named_without (is_at (name_cmp c.args.name.now)) c.args.self.now.terms.entries c.args.self.now.named }

pub returns-in-Some : goal.returns-in-Some
returns-in-Some c =
    ap (λ terms. record (table_in c.args.self.now) { terms = terms })
    (taken_out c.args.name.now c.args.self.now.terms.entries c.remove.new.self.entries c.remove.ensures.entries c.remove.ensures.updates.1 c.args.self.now.named)

pub returns-in_default : goal.returns-in_default
returns-in_default c =
    ap (λ terms. record (table_in c.args.self.now) { terms = terms })
    (taken_out c.args.name.now c.args.self.now.terms.entries c.remove.new.self.entries c.remove.ensures.entries c.remove.ensures.updates.1 c.args.self.now.named)
