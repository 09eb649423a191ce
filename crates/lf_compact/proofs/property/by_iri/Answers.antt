use Rattle.std.proofs.Common.{◌∷◌, [], map, subst, sym}
use Rattle.std.proofs.lemmas.List.{map-append}
use Rattle.lf_compact.specs.Groups.{Hold}
use Rattle.lf_compact.specs.Pieces.{filed_list, property_data}
use Rattle.lf_compact.proofs.Grouped.{hold-more}
use Rattle.lf_compact.proofs.Steps.{groups-empty}
use Rattle.lf_compact.proofs.property.by_iri.Goals as goal

pub loop-property-init : goal.loop-property-init
loop-property-init c = groups-empty filed_list c.new-groups.result c.new-groups.ensures.empty

pub loop-property-preserved : goal.loop-property-preserved
loop-property-preserved c =
    let property = c.in-Some.property in
    subst (Hold filed_list c.put_under.new.groups)
    (sym (map-append property_data c.loop-property.yielded (property ∷ [])))
    (hold-more filed_list c.loop-property.groups c.put_under.new.groups property.iri property.values (map property_data c.loop-property.yielded)
    c.loop-property.invariant c.in_ok-put_under.ensures)
