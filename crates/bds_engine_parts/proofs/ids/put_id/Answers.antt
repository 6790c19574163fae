use Rattle.std.proofs.Common.{arith}
use Rattle.bds_engine_parts.specs.Look.{IsPut}
use Rattle.bds_engine_parts.proofs.ids.put_id.Goals as goal

pub returns-in_ok-push-in-Some : goal.returns-in_ok-push-in-Some
returns-in_ok-push-in-Some c = IsPut.put c.in-Some.id (omega (arith, c.if-text-eq0.false)) c.in-Some.ensures c.in_ok-push-in-Some.ensures.ok
