use Rattle.std.proofs.Common.{◌≡◌, drop}
use Rattle.bds_spell.specs.StmtFits.{commands_fit}
use Rattle.bds_spell.proofs.fit_parts.commands_fit.Given as goal

abbrev pub invariant-loop-command : goal.invariant-loop-command
invariant-loop-command l = commands_fit l.commands ≡ commands_fit (drop l.command-index l.commands)
