use Rattle.std.proofs.Common.{ap, ◌∙◌}
use Rattle.lf_rdf.specs.Equality.{term_eq}
use Rattle.def_datasets.specs.Sorted.{has}
use Rattle.def_framing.specs.Outcome.{framed_graph}
use Rattle.lf_embed.proofs.KeyProofs.{keys_ascend, unlisted}
use Rattle.lf_embed.proofs.all_terms.outcome_among.Goals as goal

pub is_among-requires : goal.is_among-requires
is_among-requires g c =
    keys_ascend (g.N.Nodes.quads c.args.nodes.now) (framed_graph c.args.frame.now.top_graph) c.as_slice.result.now
    ((c.as_slice.ensures.value ∙ c.known.view_is) ∙ c.requires.keys)

pub returns-then-not-key-clause-outcome : goal.returns-then-not-key-clause-outcome
returns-then-not-key-clause-outcome g c =
    unlisted (g.N.Nodes.quads c.args.nodes.now) c.args.frame.now c.args.known.now c.args.term.now c.in_ok-key.key c.requires.keys
    (c.in_ok-key.ensures ∙ ap (λ l. has term_eq l c.args.term.now) (c.as_slice.ensures.value ∙ c.known.view_is)) c.if-not-key.true
