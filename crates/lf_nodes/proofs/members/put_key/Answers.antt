use Rattle.std.proofs.Common.{◌∙◌, ◌++◌, ◌∷◌, [], sym, ap}
use Rattle.lf_lists.proofs.Hearings.{heard_as}
use Rattle.lf_nodes.proofs.Listing.{put_none, put_one}
use Rattle.lf_nodes.proofs.members.put_key.Goals as goal

pub returns-then-not-key-clause-put : goal.returns-then-not-key-clause-put
returns-then-not-key-clause-put g c =
    heard_as (λ question near. near)
    (λ other e known.
    record {
      knows = (e known).knows;
      put = λ among. put_none other c.args.graph.now c.args.node.now _ (sym c.if-not-key.true ∙ (e known).key among);
    })
    c.in_ok-key.ensures.key

pub returns-clause-put : goal.returns-clause-put
returns-clause-put g c =
    heard_as (λ question near. near)
    (λ other e known.
    record {
      knows = (e known).knows;
      put = λ among.
          put_one other c.args.graph.now c.args.node.now _ _ (sym c.if-not-key.false ∙ (e known).key among)
          (c.in_ok-push.ensures.ok ∙ ap (λ t. c.args.found.now ++ t ∷ []) c.in_ok-copy.ensures);
    })
    c.in_ok-key.ensures.key
