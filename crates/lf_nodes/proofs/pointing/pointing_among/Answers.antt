use Rattle.std.proofs.Common.{◌∙◌, sym, ap}
use Rattle.std.specs.Option.{option_copied}
use Rattle.lf_lists.proofs.Hearings.{unheard}
use Rattle.lf_nodes.proofs.Subjects.{nothing_points}
use Rattle.lf_nodes.proofs.pointing.pointing_among.Goals as goal

pub pointing_from-requires : goal.pointing_from-requires
pointing_from-requires g c =
    record { node = c.requires.node; first = ap option_copied (sym c.in-Some.is) ∙ c.first_quad.ensures }

pub returns-in-None-clause-keys : goal.returns-in-None-clause-keys
returns-in-None-clause-keys g c =
    unheard _ _ _ _ _
    (λ other h p same.
    c.new.ensures ∙ nothing_points other h p c.args.node.now c.args.told.now same (ap option_copied (sym c.in-None.is) ∙ c.first_quad.ensures))
