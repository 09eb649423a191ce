use Rattle.std.proofs.Common.{◌∙◌, ap}
use Rattle.lf_model.specs.JsonBridge.{json_data}
use Rattle.lf_model.specs.declared.json.Json.TheVariants as j
use Rattle.lf_compact.proofs.Held.{loop-done, written-ascends, written-object, written_entries}
use Rattle.lf_compact.proofs.members.object_of.Goals as goal

pub from_vec-requires : goal.from_vec-requires
from_vec-requires c =
    written-ascends c.args.members c.loop-key.written.items c.len.ensures.ordered
    (loop-done c.loop-key.written.items c.loop-key.members.entries (written_entries c.args.members.entries)
    (λ some. cc (c.in_default.ensures.variant.1 some)) c.loop-key.invariant)

pub returns : goal.returns
returns c =
    λ entries held.
    ap (λ ms. json_data (j.Map ms)) c.from_vec.ensures
    ∙ written-object c.args.members c.loop-key.written.items entries c.len.ensures.ordered
    (loop-done c.loop-key.written.items c.loop-key.members.entries (written_entries c.args.members.entries)
    (λ some. cc (c.in_default.ensures.variant.1 some)) c.loop-key.invariant)
    held
