use Rattle.std.proofs.Common.{◌∙◌, ap, rules, filter}
use Rattle.std.proofs.lemmas.Fn.{filter_same}
use Rattle.lf_nodes.specs.Keys.{away}
use Rattle.lf_nodes.proofs.merged.quads_away.Goals as goal

pub returns : goal.returns
returns c =
    c.from_vec.ensures
    ∙ (filter_same _ _ _ (λ x b f' k. search rules) _ _ c.retain.ensures.filtered ∙ ap (filter (away c.args.home.now)) c.into_vec-kept.ensures)
