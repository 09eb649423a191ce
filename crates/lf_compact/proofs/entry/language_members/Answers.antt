use Rattle.std.proofs.Common.{◌∷◌, [], ap, rules, subst}
use Rattle.lf_model.specs.JsonBridge.{json_data}
use Rattle.def_documents.specs.Grouping.{alone_or_array}
use Rattle.lf_compact.specs.Members.{Hold}
use Rattle.lf_compact.proofs.Added.{adds-one, adds-same}
use Rattle.lf_compact.proofs.Drained.{each-drained}
use Rattle.lf_compact.proofs.Loops.{adds-drained, adds-popped, language_next}
use Rattle.lf_compact.proofs.Steps.{hold-empty}
use Rattle.lf_compact.proofs.entry.language_members.Goals as goal

pub loop-language-preserved : goal.loop-language-preserved
loop-language-preserved c =
    λ final more.
    let language = c.in-Some.language in
    c.loop-language.invariant final
    (adds-popped (language_next c.args.in_arrays) c.loop-language.members c.add.new.members final c.loop-language.parts.entries
    c.pop_first.new.self.entries (language, c.in-Some.scalars) (search rules)
    (adds-same c.loop-language.members c.add.new.members ((language, json_data c.alone_or_array.result) ∷ [])
    (language_next c.args.in_arrays (language, c.in-Some.scalars)) (ap (λ v. (language, v) ∷ []) c.alone_or_array.ensures)
    (adds-one c.loop-language.members c.add.new.members language (json_data c.alone_or_array.result) c.in_ok-add.ensures))
    more)

pub returns : goal.returns
returns c =
    λ entries held.
    subst (Hold c.loop-language.members)
    (each-drained json_data (alone_or_array c.args.in_arrays) c.args.parts entries c.len.ensures.ordered held)
    (c.loop-language.invariant c.loop-language.members
    (adds-drained (language_next c.args.in_arrays) c.loop-language.members c.loop-language.parts.entries
    (λ some. cc (c.in_default.ensures.variant.1 some)))
    [] (hold-empty c.new-members.result c.new-members.ensures.empty))
