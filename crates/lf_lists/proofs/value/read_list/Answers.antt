use Rattle.std.proofs.Common.{◌∙◌}
use Rattle.lf_lists.proofs.ReadStates.{read_begun, goes_now, read_whole, read_on, less_left}
use Rattle.lf_lists.proofs.value.read_list.Goals as goal

pub read-init : goal.read-init
read-init g c = read_begun _ _ _ _ _ _ c.new-open.ensures.items c.new-items.ensures c.in_ok-rest.ensures c.requires.cell

pub turn-requires : goal.turn-requires
turn-requires g c = record { graph = c.requires.graph; goes = goes_now c.read.invariant }

pub returns-in_err-turned-clause-quads_stay : goal.returns-in_err-turned-clause-quads_stay
returns-in_err-turned-clause-quads_stay g c = c.turn.ensures.quads_stay ∙ c.read.invariant.stays

pub returns-in-Whole : goal.returns-in-Whole
returns-in-Whole g c =
    record {
      reads = read_whole c.read.invariant c.in_ok-turned.turned c.in_ok-turned.ensures.quads_stay c.in_ok-turned.ensures.turns c.in-Whole.items c.in-Whole.is;
      quads_stay = c.in_ok-turned.ensures.quads_stay ∙ c.read.invariant.stays;
    }

pub read-preserved : goal.read-preserved
read-preserved g c =
    read_on c.read.invariant c.in_ok-turned.turned c.in_ok-turned.ensures.quads_stay c.in_ok-turned.ensures.turns c.in-Goes.after c.in-Goes.is c.in_ok-turned.ensures.near

pub read-smaller : goal.read-smaller
read-smaller g c =
    less_left c.read.invariant c.in_ok-turned.turned c.in_ok-turned.ensures.quads_stay c.in_ok-turned.ensures.turns c.in-Goes.after c.in-Goes.is
