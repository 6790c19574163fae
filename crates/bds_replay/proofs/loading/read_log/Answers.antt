use Rattle.std.proofs.Common.{subst}
use Rattle.bds_value.specs.Fields.{AreBytes}
use Rattle.bds_replay.proofs.Loads.{gives, loaded}
use Rattle.bds_replay.proofs.loading.read_log.Goals as goal

pub returns-in-Ok-clause-loads : goal.returns-in-Ok-clause-loads
returns-in-Ok-clause-loads c =
    let whole = rw c.in-Ok.ensures at c.read_whole.ensures in
    loaded c.args.bytes.now c.read_whole.result (subst AreBytes c.as_slice.ensures c.are_bytes.ensures) whole

pub returns-in-Ok-clause-exact : goal.returns-in-Ok-clause-exact
returns-in-Ok-clause-exact c =
    let whole = rw c.in-Ok.ensures at c.read_whole.ensures in
    λ l h. gives c.args.bytes.now l h c.read_whole.result whole
