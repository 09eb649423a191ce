use Rattle.std.proofs.Common.{true, false, ap, sym, ◌∙◌}
use Rattle.lf_context.specs.Turns.{is_null}
use Rattle.lf_context.proofs.Lists.{states-by}
use Rattle.lf_context.proofs.term.states_members.Goals as goal

pub returns-then-have_definition_keys : goal.returns-then-have_definition_keys
returns-then-have_definition_keys c =
    sym (states-by c.args.value.now c.in-Map.members c.in-Map.is false true
    (sym c.if-is_null.false ∙ c.is_null.ensures ∙ ap is_null c.part.ensures)
    (sym c.if-have_definition_keys.true ∙ c.have_definition_keys.ensures))

pub returns-else-have_definition_keys : goal.returns-else-have_definition_keys
returns-else-have_definition_keys c =
    sym (states-by c.args.value.now c.in-Map.members c.in-Map.is false false
    (sym c.if-is_null.false ∙ c.is_null.ensures ∙ ap is_null c.part.ensures)
    (sym c.if-have_definition_keys.false ∙ c.have_definition_keys.ensures))
