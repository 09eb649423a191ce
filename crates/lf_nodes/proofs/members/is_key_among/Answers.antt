use Rattle.std.proofs.Common.{◌∙◌, sym, ap, not}
use Rattle.lf_lists.proofs.Hearings.{heard, heard_as, unheard}
use Rattle.lf_nodes.proofs.Listing.{literal_no_key, member_key}
use Rattle.lf_nodes.proofs.members.is_key_among.Goals as goal

pub returns-then-not-is_node-clause-key : goal.returns-then-not-is_node-clause-key
returns-then-not-is_node-clause-key g c =
    unheard _ _ _ _ _
    (λ other known.
    record {
      knows = known;
      key = λ among. literal_no_key other c.args.graph.now c.args.node.now c.requires.graph (sym c.is_node.ensures ∙ c.if-not-is_node.true);
    })

pub returns-then-is_nil-clause-key : goal.returns-then-is_nil-clause-key
returns-then-is_nil-clause-key g c =
    heard_as (λ question near. near) (λ other e known. record { knows = known; key = λ among. e }) (heard c.in_ok-found.ensures.key)

pub returns-clause-key : goal.returns-clause-key
returns-clause-key g c =
    heard_as (λ question near. near)
    (λ other e known.
    record {
      knows = (e known).knows;
      key = λ among.
          ap not (e known).cell
          ∙ member_key other c.args.graph.now c.args.node.now c.requires.graph (sym c.is_node.ensures ∙ c.if-not-is_node.false)
          (sym c.is_nil.ensures ∙ c.if-is_nil.false) among;
    })
    c.in_ok-cell.ensures.cell
