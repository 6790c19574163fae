use Rattle.std.proofs.Common.{◌≡◌, ◌+◌, ◌≤◌, drop, map}
use Rattle.bds_tree.specs.StmtView.{part_of}
use Rattle.bds_gen_expr.specs.Numbers.{variables_of}
use Rattle.bds_gen_size.specs.Capped.{capped}
use Rattle.bds_gen_size.specs.ScriptParts.{functions_size}
use Rattle.bds_gen_size.proofs.script.functions_size.Given as goal

abbrev pub invariant-loop-part : goal.invariant-loop-part
invariant-loop-part l = record {
  most : l.sum ≤ 18446744073709551615;
  so_far : capped (l.sum + functions_size (map part_of (drop l.part-index l.parts)) (variables_of l.fn.scope.globals)) ≡ capped (functions_size (map part_of l.parts) (variables_of l.fn.scope.globals));
  same : l.scope ≡ l.fn.scope;
}
