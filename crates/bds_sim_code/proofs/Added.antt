-- The names that statements put in force, with their slots.
use Rattle.std.proofs.Common.{ℕ, [], ◌∷◌, ◌++◌, Option, Some, None}
use Rattle.bds_tree.specs.StmtTree.{SmallFormTree, small_declare, small_infer, SmallTree, StmtTree, StmtFormTree, LineTree, StmtTrees, stmt, line, declare, infer, no_stmts, more_stmts}
use Rattle.bds_sim_terms.specs.steps.Stands.{Names}
use Rattle.bds_sim_code.specs.StmtHere.{next_behind}

abbrev pub line_names : LineTree → ℕ → Names
line_names (declare t x r) next = (x, Some next) ∷ []
line_names (infer x r) next = (x, Some next) ∷ []
line_names _ next = []

abbrev pub form_names : StmtFormTree → ℕ → Names
form_names (line l) next = line_names l next
form_names _ next = []

abbrev pub added_by : StmtTree → ℕ → Names
added_by (stmt at f) next = form_names f next

abbrev pub all_added : StmtTrees → ℕ → Names
all_added no_stmts next = []
all_added (more_stmts s ss) next = all_added ss (next_behind s next) ++ added_by s next

-- the same for the first part of a `for`

abbrev pub small_form_names : SmallFormTree → ℕ → Names
small_form_names (small_declare t x e) next = (x, Some next) ∷ []
small_form_names (small_infer x e) next = (x, Some next) ∷ []
small_form_names _ next = []

abbrev pub small_names : Option SmallTree → ℕ → Names
small_names None next = []
small_names (Some s) next = small_form_names s.form next
