-- The code of a statement, and of a block, is written.
use Rattle.std.proofs.Common.{◌≡◌, false, None, sym, ◌∙◌, ap, subst}
use Rattle.bds_tree.specs.StmtTree.{StmtTree, BlockTree}
use Rattle.bds_gen_stmt.specs.Spots.{Spot}
use Rattle.bds_gen_stmt_code.specs.Bodies.{spot_of}
use Rattle.bds_gen_stmt_code.specs.GenStmts.{gen_stmt, gen_block}
use Rattle.bds_gen_stmt_code.specs.Written.{StmtWritten, BlockWritten}
use Rattle.bds_gen_stmt_code.specs.declared.body.Unfinished.{Unfinished}
use Rattle.bds_gen_stmt_code.proofs.Left.{block-further}
use Rattle.bds_gen_stmt_code.proofs.StmtLaws.{stmt-went, block-went}

pub stmt-written : (s : StmtTree) (u v : Unfinished) → v ≡ gen_stmt s u → StmtWritten s u v
stmt-written s u v e =
    let w = stmt-went s u in
    subst (StmtWritten s u) (sym e) (record { function = w.is None; spot = w.spot; finished = w.finished; first = w.first })

pub block-written : (b : BlockTree) (u v : Unfinished) → u.body.at_top ≡ false → v ≡ gen_block b u → BlockWritten b u v
block-written b u v low e =
    let w = block-went b u in
    let f = block-further b (spot_of u.body) low in
    let same = w.spot ∙ f.is in
    subst (BlockWritten b u) (sym e) (record { function = w.is None; globals = ap (λ (x : Spot). x.scope.globals) same; functions = ap (λ (x : Spot). x.scope.functions) same; finished = w.finished; first = w.first })
