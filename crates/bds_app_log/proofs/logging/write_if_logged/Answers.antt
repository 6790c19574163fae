use Rattle.std.proofs.Common.{◌∙◌, refl, sym}
use Rattle.bds_app_log.specs.Logged.{WritesIfLogged}
use Rattle.bds_app_log.proofs.logging.write_if_logged.Goals as goal

pub returns-else-is_logged : goal.returns-else-is_logged
returns-else-is_logged g c = WritesIfLogged.unlogged (sym c.is_logged.ensures ∙ c.if-is_logged.false) refl
