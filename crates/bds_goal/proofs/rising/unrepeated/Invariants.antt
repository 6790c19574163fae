use Rattle.std.proofs.Common.{◌≡◌, [], drop}
use Rattle.bds_goal.specs.Collected.{unrepeated}
use Rattle.bds_goal.proofs.rising.unrepeated.Given as goal

abbrev pub invariant-loop-text : goal.invariant-loop-text
invariant-loop-text l = unrepeated l.out (drop l.text-index l.texts) ≡ unrepeated [] l.texts
