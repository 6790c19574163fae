-- What is shown of what is written.
use Rattle.std.specs.Prelude.{◌≡◌, false}
use Rattle.bds_tree.specs.StmtTree.{StmtTree, BlockTree}
use Rattle.bds_gen_stmt_code.specs.GenStmts.{gen_stmt, gen_block}
use Rattle.bds_gen_stmt_code.specs.Written.{StmtWritten, BlockWritten}
use Rattle.bds_gen_stmt_code.specs.declared.body.Unfinished.{Unfinished}

-- a statement that is written in order has the code that the definitions give it, whatever was written before
abbrev pub StatementsAreWritten : Type 0
StatementsAreWritten = (s : StmtTree) (u : Unfinished) → StmtWritten s u (gen_stmt s u)

-- and so has a block in which no declaration makes a global
abbrev pub BlocksAreWritten : Type 0
BlocksAreWritten = (b : BlockTree) (u : Unfinished) → u.body.at_top ≡ false → BlockWritten b u (gen_block b u)
