use Rattle.std.proofs.Common.{◌≡◌, ◌++◌, drop, true}
use Rattle.bds_tree.specs.StmtView.{settings_of}
use Rattle.bds_tree.specs.Words.{words}
use Rattle.bds_spell.specs.StmtWords.{settings_words}
use Rattle.bds_spell.proofs.spell_parts.put_settings.Given as goal

abbrev pub invariant-loop-setting : goal.invariant-loop-setting
invariant-loop-setting l = words l.out ++ settings_words l.first (settings_of (drop l.setting-index l.settings)) ≡ words l.fn.out ++ settings_words true (settings_of l.settings)
