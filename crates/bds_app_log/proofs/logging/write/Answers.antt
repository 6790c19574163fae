use Rattle.std.proofs.Common.{refl}
use Rattle.bds_app_log.specs.Logged.{WritesIfLogged}
use Rattle.bds_app_log.proofs.logging.write.Goals as goal

pub returns-in-Ok : goal.returns-in-Ok
returns-in-Ok g c = WritesIfLogged.written _ c.write_bytes.result c.requires.logged c.in-Ok.ensures
    c.write_bytes.ensures

pub returns-in-Err : goal.returns-in-Err
returns-in-Err g c = WritesIfLogged.unspelled c.requires.logged refl
