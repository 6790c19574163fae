use Rattle.bds_source_places.proofs.PlaceLists.{place_is}
use Rattle.bds_source_places.proofs.places.part_of.Goals as goal

pub returns-in-Ok-steps_of : goal.returns-in-Ok-steps_of
returns-in-Ok-steps_of c =
    place_is c.args.names.now c.args.place.now (record { scope = c.scope_of-scope.result; name = c.in-Ok.name; ways = c.in-Ok-ways_of.ways; steps = c.in-Ok-steps_of.steps }) c.as_slice.result.now c.as_slice-in-Ok-ways_of.result.now
    c.as_slice.ensures c.as_slice-in-Ok-ways_of.ensures c.scope_of-scope.ensures c.in-Ok.ensures c.in-Ok-ways_of.ensures c.in-Ok-steps_of.ensures
