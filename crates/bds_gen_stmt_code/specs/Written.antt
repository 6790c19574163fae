-- What is written by a statement, and by a block that is a function's body.
use Rattle.std.specs.Prelude.{◌≡◌, ◌++◌}
use Rattle.bds_tree.specs.StmtTree.{StmtTree, BlockTree}
use Rattle.bds_gen_expr.specs.Marks.{written}
use Rattle.bds_gen_stmt.specs.FunctionCode.{par_functions, block_par_functions}
use Rattle.bds_gen_stmt.specs.StmtCode.{behind as spot_behind, stmt_code, block_code}
use Rattle.bds_gen_stmt_code.specs.Bodies.{spot_of, next_number, place_in}
use Rattle.bds_gen_stmt_code.specs.declared.body.Unfinished.{Unfinished}

-- its code stands behind what the function had, what is in force behind it is in force, and the functions of its `par` blocks are finished
pub record StmtWritten (s : StmtTree) (before behind : Unfinished) : Type 0 where
  pub function : behind.body.function ≡ written before.body.function (stmt_code s (spot_of before.body) (next_number before) (place_in before))
  pub spot : spot_of behind.body ≡ spot_behind s (spot_of before.body)
  pub finished : behind.finished ≡ before.finished ++ par_functions s (spot_of before.body) (next_number before)
  pub first : behind.first ≡ before.first

-- the same of a block in which no declaration makes a global
pub record BlockWritten (b : BlockTree) (before behind : Unfinished) : Type 0 where
  pub function : behind.body.function ≡ written before.body.function (block_code b (spot_of before.body) (next_number before) (place_in before))
  pub globals : behind.body.scope.globals ≡ before.body.scope.globals
  pub functions : behind.body.scope.functions ≡ before.body.scope.functions
  pub finished : behind.finished ≡ before.finished ++ block_par_functions b (spot_of before.body) (next_number before)
  pub first : behind.first ≡ before.first
