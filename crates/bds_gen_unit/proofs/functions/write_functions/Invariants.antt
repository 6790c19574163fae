use Rattle.std.proofs.Common.{List, map, drop}
use Rattle.bds_code.specs.declared.unit.Function.{Function}
use Rattle.bds_tree.specs.StmtView.{part_of}
use Rattle.bds_gen_stmt_code.specs.declared.body.Unfinished.{Unfinished}
use Rattle.bds_gen_unit.specs.FunctionParts.{FunctionsWritten}
use Rattle.bds_gen_unit.proofs.functions.write_functions.Given as goal

abbrev pub invariant-loop-part : goal.invariant-loop-part
invariant-loop-part l = (u : Unfinished) (hs : List Function) → FunctionsWritten (map part_of (drop l.part-index l.parts)) l.unit u l.functions hs → FunctionsWritten (map part_of l.parts) l.fn.unit u l.fn.functions hs
