use Rattle.std.proofs.Common.{[]}
use Rattle.lf_model.specs.JsonBridge.{json_data}
use Rattle.lf_compact.proofs.Languages.{languages-done, languages-step}
use Rattle.lf_compact.proofs.Steps.{groups-empty}
use Rattle.lf_compact.proofs.entry.languages_of.Goals as goal

pub loop-filed-init : goal.loop-filed-init
loop-filed-init c = λ final more. more [] (groups-empty json_data c.new-parts.result c.new-parts.ensures.empty)

pub loop-filed-preserved : goal.loop-filed-preserved
loop-filed-preserved c =
    λ final more.
    c.loop-filed.invariant final
    (languages-step c.loop-filed.parts c.put_language.new.parts final c.args.group.now c.loop-filed.filed-index c.filed-item.result
    c.loop-filed-test.true c.filed-item.is c.in_ok-put_language.ensures more)

pub returns : goal.returns
returns c =
    c.loop-filed.invariant c.loop-filed.parts
    (languages-done c.loop-filed.parts c.args.group.now c.loop-filed.filed-index c.loop-filed-test.false)
