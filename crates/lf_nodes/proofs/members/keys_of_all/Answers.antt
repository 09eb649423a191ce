use Rattle.std.proofs.Common.{◌∙◌, ◌++◌, sym, ap, flat_map}
use Rattle.lf_rdf.specs.declared.question.GraphRef.TheVariants.{Default, Merged}
use Rattle.def_datasets.specs.Questions.{members}
use Rattle.def_datasets.specs.Views.{keys}
use Rattle.lf_lists.proofs.Hearings.{followed, heard, heard_as, holds_here}
use Rattle.lf_nodes.specs.Pointing.{named_keys}
use Rattle.lf_nodes.proofs.Listing.{moved_members}
use Rattle.lf_nodes.proofs.members.keys_of_all.Goals as goal

pub put_keys-requires-clause-nodes : goal.put_keys-requires-clause-nodes
put_keys-requires-clause-nodes g c =
    c.as_slice.ensures ∙ (holds_here (heard c.in_ok-nodes.ensures.terms) ∙ ap (λ d. members d Default) (sym c.in_ok-nodes.ensures.quads_stay))

pub returns-clause-keys : goal.returns-clause-keys
returns-clause-keys g c =
    heard_as (λ question near. near)
    (λ other e.
    e.1
    ∙ (λ i. (e.0.1 (c.as_slice.ensures ∙ e.0.0) ∙ ap (λ l. l ++ keys other Default) c.new-found.ensures) i ++ flat_map (named_keys other) ((c.as_slice-2.ensures ∙ e.0.0) i)))
    (followed
    (followed (heard_as (λ question near. tt) (λ other e. e) (heard c.in_ok-nodes.ensures.terms))
    (heard_as (λ question near. tt) (λ other e. e) (moved_members Default c.in_ok-nodes.ensures.quads_stay c.in_ok-put_keys.ensures.put)))
    (moved_members Merged (c.in_ok-put_keys.ensures.quads_stay ∙ c.in_ok-nodes.ensures.quads_stay) c.in_ok-all_named_keys.ensures.put))
