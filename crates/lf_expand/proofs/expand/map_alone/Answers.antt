use Rattle.std.proofs.Common.{Ok, sym, ap, ◌∙◌}
use Rattle.lf_model.specs.JsonBridge.{members_data}
use Rattle.lf_expand.specs.TopFrames.{map_alone}
use Rattle.lf_expand.proofs.Values.{map_value}
use Rattle.lf_expand.proofs.expand.map_alone.Goals as goal

pub returns-in-Map : goal.returns-in-Map
returns-in-Map c =
    ap map_alone (map_value c.args.only.now c.in-Map.members c.in-Map.is) ∙ ap (λ ms. Ok (members_data ms)) (sym c.as_slice.ensures.entries)
