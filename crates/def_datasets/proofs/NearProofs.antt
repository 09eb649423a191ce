-- The laws of nearness.
use Rattle.def_datasets.specs.Near.{itself, by_object, by_use, by_reverse, in_graph, in_graph_object}
use Rattle.def_datasets.specs.NearLaws.{NearIsLeast, NearOfNear}

pub near_is_least : NearIsLeast
near_is_least dataset reversed origin set closed start t itself = start
near_is_least dataset reversed origin set closed start t (by_object q there near) =
    closed.object q there (near_is_least dataset reversed origin set closed start q.subject near)
near_is_least dataset reversed origin set closed start t (by_use s q blank alone near) =
    closed.user s q blank alone (near_is_least dataset reversed origin set closed start s near)
near_is_least dataset reversed origin set closed start t (by_reverse q there told near) =
    closed.reverse q there told (near_is_least dataset reversed origin set closed start q.object near)
near_is_least dataset reversed origin set closed start t (in_graph name q there label near node) =
    closed.in_graph name q there label (near_is_least dataset reversed origin set closed start name near) node
near_is_least dataset reversed origin set closed start t (in_graph_object name q there label near node) =
    closed.in_graph_object name q there label (near_is_least dataset reversed origin set closed start name near) node

pub near_of_near : NearOfNear
near_of_near dataset reversed origin s t first itself = first
near_of_near dataset reversed origin s t first (by_object q there near) =
    by_object q there (near_of_near dataset reversed origin s q.subject first near)
near_of_near dataset reversed origin s t first (by_use u q blank alone near) =
    by_use u q blank alone (near_of_near dataset reversed origin s u first near)
near_of_near dataset reversed origin s t first (by_reverse q there told near) =
    by_reverse q there told (near_of_near dataset reversed origin s q.object first near)
near_of_near dataset reversed origin s t first (in_graph name q there label near node) =
    in_graph name q there label (near_of_near dataset reversed origin s name first near) node
near_of_near dataset reversed origin s t first (in_graph_object name q there label near node) =
    in_graph_object name q there label (near_of_near dataset reversed origin s name first near) node
