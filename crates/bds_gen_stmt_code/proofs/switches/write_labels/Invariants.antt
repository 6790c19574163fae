use Rattle.std.proofs.Common.{◌≡◌, ◌++◌, drop}
use Rattle.bds_tree.specs.StmtView.{cases_of}
use Rattle.bds_gen_stmt_code.specs.GenSwitches.{gen_labels, label_jumps}
use Rattle.bds_gen_stmt_code.proofs.switches.write_labels.Given as goal

abbrev pub invariant-loop-case : goal.invariant-loop-case
invariant-loop-case l = record {
  code : gen_labels (cases_of (drop l.case-index l.cases)) l.at l.slot l.scope l.function ≡ gen_labels (cases_of l.cases) l.at l.slot l.scope l.fn.function;
  jumps : l.jumps ++ label_jumps (cases_of (drop l.case-index l.cases)) l.at l.slot l.scope l.function ≡ l.fn.jumps ++ label_jumps (cases_of l.cases) l.at l.slot l.scope l.fn.function;
}
