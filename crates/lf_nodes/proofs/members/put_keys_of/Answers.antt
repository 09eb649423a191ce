use Rattle.std.proofs.Common.{◌∙◌, sym, ap}
use Rattle.def_datasets.specs.Questions.{members}
use Rattle.lf_lists.proofs.Hearings.{followed, heard, heard_as, holds_here}
use Rattle.lf_nodes.proofs.Listing.{moved_members}
use Rattle.lf_nodes.proofs.members.put_keys_of.Goals as goal

pub put_keys-requires : goal.put_keys-requires
put_keys-requires g c =
    record {
      graph = c.requires.graph;
      nodes =
          c.as_slice.ensures
          ∙ (holds_here (heard c.in_ok-nodes.ensures.terms) ∙ ap (λ d. members d c.args.graph.now) (sym c.in_ok-nodes.ensures.quads_stay));
    }

pub returns-clause-put : goal.returns-clause-put
returns-clause-put g c =
    heard_as (λ question near. near) (λ other e. e.1 (c.as_slice.ensures ∙ e.0))
    (followed (heard c.in_ok-nodes.ensures.terms) (moved_members c.args.graph.now c.in_ok-nodes.ensures.quads_stay c.in_ok-put_keys.ensures.put))
