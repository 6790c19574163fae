use Rattle.std.proofs.Common.{◌≡◌, drop}
use Rattle.bds_tree.specs.StmtView.{settings_of}
use Rattle.bds_spell.specs.StmtFits.{settings_fit}
use Rattle.bds_spell.proofs.fit_parts.settings_fit.Given as goal

abbrev pub invariant-loop-setting : goal.invariant-loop-setting
invariant-loop-setting l = settings_fit (settings_of l.settings) l.most ≡ settings_fit (settings_of (drop l.setting-index l.settings)) l.most
