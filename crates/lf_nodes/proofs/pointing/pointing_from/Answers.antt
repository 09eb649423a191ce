use Rattle.std.proofs.Common.{◌∙◌, sym, inl, inr}
use Rattle.lf_lists.proofs.Hearings.{followed, heard, heard_as}
use Rattle.lf_nodes.proofs.Subjects.{list_points, moved_links, subjects_point}
use Rattle.lf_nodes.proofs.pointing.pointing_from.Goals as goal

pub returns-then-referred-clause-keys : goal.returns-then-referred-clause-keys
returns-then-referred-clause-keys g c =
    heard_as (λ question near. near)
    (λ other e h p same.
    subjects_point other h p c.args.node.now c.args.told.now same c.requires.node c.args.first.now c.requires.first (sym e.0 ∙ c.if-referred.true) _ e.1)
    (followed (heard_as (λ question near. inl near) (λ other e. e) (heard c.in_ok-referred.ensures.refers))
    (heard_as (λ question near. inr near) (λ other e. e)
    (moved_links c.args.told.now c.in_ok-referred.ensures.quads_stay c.in_ok-found.ensures.subjects)))

pub returns-clause-keys : goal.returns-clause-keys
returns-clause-keys g c =
    heard_as (λ question near. inl near)
    (λ other e h p same.
    c.new.ensures
    ∙ list_points other h p c.args.node.now c.args.told.now same c.requires.node c.args.first.now c.requires.first (sym e ∙ c.if-referred.false))
    (heard c.in_ok-referred.ensures.refers)
