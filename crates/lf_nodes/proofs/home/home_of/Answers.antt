use Rattle.std.proofs.Common.{sym, ◌∙◌, ap}
use Rattle.std.specs.Option.{option_copied}
use Rattle.lf_nodes.specs.Keys.{only_quad}
use Rattle.lf_lists.proofs.Hearings.{followed, heard, heard_as, moved, unheard}
use Rattle.lf_nodes.proofs.Homes.{home_shared, no_home, not_blank, only_found}
use Rattle.lf_nodes.proofs.home.home_of.Goals as goal

pub returns-then-not-is_blank-clause-home : goal.returns-then-not-is_blank-clause-home
returns-then-not-is_blank-clause-home g c =
    unheard _ _ _ _ _ (λ other. no_home other c.args.node.now (λ h. not_blank other h c.args.node.now (sym c.is_blank.ensures ∙ c.if-not-is_blank.true)))

pub returns-in-Some-clause-home : goal.returns-in-Some-clause-home
returns-in-Some-clause-home g c =
    heard_as (λ question near. near)
    (λ other e. e.1 (sym e.0 ∙ only_found _ _ (ap option_copied (sym c.in-Some.is) ∙ (c.only_quad.ensures ∙ ap only_quad c.as_slice.ensures))))
    (followed (heard c.in_ok-uses.ensures.quads) (moved c.in_ok-uses.ensures.quads_stay c.in_ok-home-in-Some.ensures.home))

pub returns-clause-home : goal.returns-clause-home
returns-clause-home g c =
    heard_as (λ question near. near)
    (λ other e. home_shared other c.args.node.now (ap option_copied (sym c.in-None.is) ∙ (c.only_quad.ensures ∙ ap only_quad (c.as_slice.ensures ∙ e))))
    (heard c.in_ok-uses.ensures.quads)
