use Rattle.std.proofs.Common.{ap, ◌∙◌}
use Rattle.std.specs.List.{list_any}
use Rattle.def_framing.specs.Views.{place_eq}
use Rattle.lf_embed.specs.Places.{place_data}
use Rattle.lf_embed.proofs.WalkProofs.{any_path}
use Rattle.lf_embed.proofs.walk.Walk.is_on_path.Goals as goal

pub returns : goal.returns
returns c =
    c.any_step.ensures
    ∙ ap (λ xs. list_any (λ step. place_eq (record { graph = c.args.graph.now; id = c.args.id.now }) (place_data step)) xs) c.as_slice.ensures.value
    ∙ any_path (place_eq (record { graph = c.args.graph.now; id = c.args.id.now })) c.args.self.now.path.items
