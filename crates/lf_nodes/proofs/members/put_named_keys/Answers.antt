use Rattle.std.proofs.Common.{◌∙◌, ◌++◌, ap, sym}
use Rattle.lf_rdf.specs.declared.question.GraphRef.TheVariants.{Named}
use Rattle.def_datasets.specs.Views.{keys}
use Rattle.lf_lists.proofs.Hearings.{followed, heard, heard_as}
use Rattle.lf_nodes.proofs.Listing.{moved_members, named_put, unnamed_put}
use Rattle.lf_nodes.proofs.members.put_named_keys.Goals as goal

pub returns-then-not-is-clause-put : goal.returns-then-not-is-clause-put
returns-then-not-is-clause-put g c =
    heard_as (λ question near. tt) (λ other e. unnamed_put other c.args.name.now _ (sym c.if-not-is.true ∙ e)) (heard c.in_ok-is.ensures.names)

pub returns-clause-put : goal.returns-clause-put
returns-clause-put g c =
    heard_as (λ question near. near)
    (λ other e.
    named_put other c.args.name.now _ _ (sym c.if-not-is.false ∙ e.0)
    (e.1 ∙ ap (λ n. c.args.found.now ++ keys other (Named n)) c.in_ok-copy.ensures))
    (followed (heard_as (λ question near. tt) (λ other e. e) (heard c.in_ok-is.ensures.names))
    (heard_as (λ question near. tt) (λ other e. e) (moved_members (Named c.in_ok-copy.field-0) c.in_ok-is.ensures.quads_stay c.in_ok-put_keys_of.ensures.put)))
