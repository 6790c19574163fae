use Rattle.bds_check_stmt_parts.proofs.Walked.{SettingsWalking}
use Rattle.bds_check_stmt_parts.proofs.settings.walk_settings.Given as goal

abbrev pub invariant-loop-i : goal.invariant-loop-i
invariant-loop-i l = SettingsWalking l.names l.of_dep l.fn.options l.i l.options l.seen
