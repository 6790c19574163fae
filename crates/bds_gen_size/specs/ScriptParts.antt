-- For private contracts alone: the size of a script, first that of its top level and then that of its functions.
use Rattle.std.specs.Prelude.{ℕ, ◌+◌, List, [], ◌∷◌}
use Rattle.bds_tree.specs.StmtTree.{FunctionTree, PartTree, StmtTree, a_function, an_include, a_statement}
use Rattle.bds_check_names.specs.declared.names.Variable.{Variable}
use Rattle.bds_check_size.specs.Known.{Known}
use Rattle.bds_check_size.specs.StmtSize.{block_size}
use Rattle.bds_check_size.specs.ParSize.{pars_size, block_pars_size}
use Rattle.bds_check_size.specs.ScriptSize.{Settings, top_size, behind_part, ending_size, in_function}

abbrev pub whole_top : Settings → StmtTree → Known → ℕ
whole_top ss s k = top_size ss s k + pars_size s k

abbrev pub part_size : Settings → PartTree → Known → ℕ
part_size ss (a_statement s) k = whole_top ss s k
part_size ss (a_function f) k = 0
part_size ss (an_include i) k = 0

abbrev pub tops_size : Settings → List PartTree → Known → ℕ
tops_size ss [] k = 0
tops_size ss (p ∷ ps) k = part_size ss p k + tops_size ss ps (behind_part p k)

abbrev pub function_size : FunctionTree → List Variable → ℕ
function_size f gs =
    block_size f.body (in_function gs f.parameters) + ending_size f.result + block_pars_size f.body (in_function gs f.parameters)

abbrev pub declared_size : PartTree → List Variable → ℕ
declared_size (a_function f) gs = function_size f gs
declared_size (an_include i) gs = 0
declared_size (a_statement s) gs = 0

abbrev pub functions_size : List PartTree → List Variable → ℕ
functions_size [] gs = 0
functions_size (p ∷ ps) gs = declared_size p gs + functions_size ps gs
