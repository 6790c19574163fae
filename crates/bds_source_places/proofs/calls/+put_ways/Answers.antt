use Rattle.std.proofs.lemmas.Result.{IfOk-weaker}
use Rattle.bds_source_places.proofs.PlaceLists.{index_put, key_put}
use Rattle.bds_source_places.proofs.calls.+put_ways.Goals as goal

pub returns-in-Ok : goal.returns-in-Ok
returns-in-Ok t c = IfOk-weaker c.put_way.result _ _ (λ x last. index_put c.args.expr.now c.in-Item.list c.in-Item.field-1 c.get.result.now c.args.ways.now c.put_ways.new.ways c.put_way.new.ways c.in-Item.is c.get.ensures c.in-Ok.ensures last) c.put_way.ensures

pub returns-in-Ok-put_ways : goal.returns-in-Ok-put_ways
returns-in-Ok-put_ways t c = IfOk-weaker c.put_way-in-Ok-put_ways.result _ _ (λ x last. key_put c.args.expr.now c.in-Key.map c.in-Key.field-1 c.get-in-Key.result.now c.args.ways.now c.put_ways-in-Key.new.ways c.put_way-in-Ok-put_ways.new.ways c.in-Key.is c.get-in-Key.ensures c.in-Ok-put_ways.ensures last) c.put_way-in-Ok-put_ways.ensures
