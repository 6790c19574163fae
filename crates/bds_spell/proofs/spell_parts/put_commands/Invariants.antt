use Rattle.std.proofs.Common.{◌≡◌, ◌++◌, drop}
use Rattle.bds_tree.specs.Words.{words}
use Rattle.bds_spell.specs.StmtWords.{commands_words}
use Rattle.bds_spell.proofs.spell_parts.put_commands.Given as goal

abbrev pub invariant-loop-command : goal.invariant-loop-command
invariant-loop-command l = words l.out ++ commands_words (drop l.command-index l.commands) ≡ words l.fn.out ++ commands_words l.commands
