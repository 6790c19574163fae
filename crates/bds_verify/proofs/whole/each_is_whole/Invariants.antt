use Rattle.std.proofs.Common.{◌≡◌, drop}
use Rattle.std.specs.List.{list_all}
use Rattle.bds_verify.specs.Whole.{is_whole_instr}
use Rattle.bds_verify.proofs.whole.each_is_whole.Given as goal

abbrev pub invariant-loop-instr : goal.invariant-loop-instr
invariant-loop-instr l = list_all is_whole_instr (drop l.instr-index l.code) ≡ list_all is_whole_instr l.code
