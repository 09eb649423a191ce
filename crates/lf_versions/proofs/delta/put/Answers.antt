use Rattle.std.proofs.Common.{ap, ◌∙◌}
use Rattle.lf_versions.specs.Changes.{put_once, quads_of}
use Rattle.lf_versions.proofs.Deltas.{put-data}
use Rattle.lf_versions.proofs.delta.put.Goals as goal

pub returns : goal.returns
returns c =
    let keys = c.args.changes.now.keys in
    ap quads_of c.in_ok-insert.ensures.keys ∙ (put-data keys c.in_ok-quad.quad ∙ ap (λ q. put_once q (quads_of keys)) c.in_ok-quad.ensures)
