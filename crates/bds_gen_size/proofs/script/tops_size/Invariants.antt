use Rattle.std.proofs.Common.{◌≡◌, ◌+◌, ◌≤◌, drop, map}
use Rattle.bds_tree.specs.StmtView.{part_of}
use Rattle.bds_check_size.specs.ScriptSize.{behind_parts}
use Rattle.bds_gen_expr.specs.Scope.{known}
use Rattle.bds_gen_size.specs.Capped.{capped}
use Rattle.bds_check_typing.specs.GivenValues.{set_by}
use Rattle.bds_gen_size.specs.ScriptParts.{tops_size}
use Rattle.bds_gen_size.proofs.script.tops_size.Given as goal

abbrev pub invariant-loop-part : goal.invariant-loop-part
invariant-loop-part l = record {
  most : l.sum ≤ 18446744073709551615;
  so_far : capped (l.sum + tops_size (set_by l.settings) (map part_of (drop l.part-index l.parts)) (known l.scope)) ≡ capped (tops_size (set_by l.settings) (map part_of l.parts) (known l.fn.scope));
  behind : behind_parts (map part_of (drop l.part-index l.parts)) (known l.scope) ≡ behind_parts (map part_of l.parts) (known l.fn.scope);
  bare : l.scope.locals ≡ l.fn.scope.locals;
}
