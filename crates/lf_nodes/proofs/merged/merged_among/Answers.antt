use Rattle.std.proofs.Common.{sym, ◌∙◌, ap}
use Rattle.def_datasets.specs.Views.{is_some_quad}
use Rattle.lf_lists.proofs.Hearings.{followed, heard, heard_as, moved}
use Rattle.lf_nodes.proofs.Merging.{merged_by_quads, merged_by_others, merged_none}
use Rattle.lf_nodes.proofs.merged.merged_among.Goals as goal

pub returns-then-has_quad-clause-quads : goal.returns-then-has_quad-clause-quads
returns-then-has_quad-clause-quads g c =
    heard_as (λ question near. near)
    (λ other e told.
    merged_by_quads other c.args.node.now c.in_ok-home.home c.requires.node e c.args.told c.quads_away-kept.result told c.quads_away-kept.ensures
    (sym (c.has_quad.ensures ∙ ap is_some_quad c.as_slice.ensures) ∙ c.if-has_quad.true))
    c.in_ok-home.ensures.home

pub returns-then-seen-clause-quads : goal.returns-then-seen-clause-quads
returns-then-seen-clause-quads g c =
    heard_as (λ question near. near)
    (λ other e told.
    merged_by_others other c.args.node.now c.in_ok-home.home c.requires.node e.0 c.args.told c.quads_away-kept.result told c.quads_away-kept.ensures
    (sym (c.has_quad.ensures ∙ ap is_some_quad c.as_slice.ensures) ∙ c.if-has_quad.false) (sym c.if-seen.true ∙ e.1))
    (followed c.in_ok-home.ensures.home (moved c.in_ok-home.ensures.quads_stay (heard c.in_ok-seen.ensures.key)))

pub returns-clause-quads : goal.returns-clause-quads
returns-clause-quads g c =
    heard_as (λ question near. near)
    (λ other e told.
    merged_none other c.args.node.now c.in_ok-home.home c.requires.node e.0 c.args.told c.quads_away-kept.result told c.quads_away-kept.ensures
    (sym (c.has_quad.ensures ∙ ap is_some_quad c.as_slice.ensures) ∙ c.if-has_quad.false) (sym c.if-seen.false ∙ e.1))
    (followed c.in_ok-home.ensures.home (moved c.in_ok-home.ensures.quads_stay (heard c.in_ok-seen.ensures.key)))
