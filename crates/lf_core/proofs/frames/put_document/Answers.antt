use Rattle.std.proofs.Common.{sym, ◌∙◌, ap}
use Rattle.std.specs.List.{position}
use Rattle.lf_core.specs.Kept.{has_name, with_document}
use Rattle.lf_core.proofs.Updating.{none_updated, updated_at}
use Rattle.lf_core.proofs.Named.{no_place}
use Rattle.lf_core.proofs.frames.put_document.Goals as goal

pub returns-in-Some-clause-put : goal.returns-in-Some-clause-put
returns-in-Some-clause-put c =
    updated_at c.args.name.now (with_document c.args.version c.args.doc c.args.home) c.args.frames.now.items c.in-Some.place c.index_mut-kept.result.now
    (c.in-Some.ensures ∙ ap (position (has_name c.args.name.now)) c.as_slice.ensures.value) c.index_mut-kept.ensures.value

pub returns-in_default-clause-put : goal.returns-in_default-clause-put
returns-in_default-clause-put c =
    sym
    (none_updated c.args.name.now (with_document c.args.version c.args.doc c.args.home) c.args.frames.now.items
    (no_place (has_name c.args.name.now) c.args.frames.now.items
    (ap (position (has_name c.args.name.now)) (sym c.as_slice.ensures.value) ∙ sym c.in_default.ensures)))
