-- Sizes as they are counted: past the numbers of 64 bits all are one.
use Rattle.std.specs.Prelude.{ℕ, ◌+◌, min}
use Rattle.bds_tree.specs.StmtTree.{StmtTree, ActTree, LineTree, RightTree, BlockTree, StmtTrees, StmtFormTree, ActFormTree, CaseTrees, CaseTree}
use Rattle.bds_check_size.specs.Known.{Known}
use Rattle.bds_check_size.specs.StmtSize.{stmt_size, form_stmt_size, line_size, right_size, act_size, act_form_size, block_size, stmts_size, cases_size, case_size}
use Rattle.bds_check_size.specs.ParSize.{pars_size, form_pars_size, line_pars_size, right_pars_size, act_pars_size, act_form_pars_size, block_pars_size, stmts_pars_size, cases_pars_size, case_pars_size}

abbrev pub capped : ℕ → ℕ
capped n = min n 18446744073709551615

-- with the functions of the `par` blocks in it

abbrev pub whole_stmt : StmtTree → Known → ℕ
whole_stmt s k = stmt_size s k + pars_size s k

abbrev pub whole_line : LineTree → Known → ℕ
whole_line l k = line_size l k + line_pars_size l k

abbrev pub whole_right : RightTree → Known → ℕ
whole_right r k = right_size r k + right_pars_size r k

abbrev pub whole_act : ActTree → Known → ℕ
whole_act a k = act_size a k + act_pars_size a k

abbrev pub whole_block : BlockTree → Known → ℕ
whole_block b k = block_size b k + block_pars_size b k

abbrev pub whole_stmts : StmtTrees → Known → ℕ
whole_stmts ss k = stmts_size ss k + stmts_pars_size ss k

abbrev pub whole_case : CaseTree → Known → ℕ
whole_case c k = case_size c k + case_pars_size c k

abbrev pub whole_cases : CaseTrees → Known → ℕ
whole_cases cs k = cases_size cs k + cases_pars_size cs k
