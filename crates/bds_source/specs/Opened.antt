-- For private contracts alone: the terms of statements and of their parts. The words stay closed, so that the contracts of the walk stay short.
use Rattle.std.specs.Prelude.{ℕ, List, [], ◌∷◌, Option}
use Rattle.bds_value.specs.declared.value.At.{At}
use Rattle.bds_value.specs.declared.value.Ty.{Ty}
use Rattle.bds_tree.specs.Tree.{Tree}
use Rattle.bds_tree.specs.StmtTree.{SmallTree, StmtTree, StmtFormTree, LineTree, RightTree, ActTree, BlockTree, StmtTrees, MaybeStmt, no_stmts, more_stmts, CaseTrees, CaseTree, no_cases, more_cases, a_case}
use Rattle.bds_check_names.specs.declared.names.Names.{Names}
use Rattle.bds_check_names.specs.declared.names.Site.{Site}
use Rattle.bds_check_names.specs.Scopes.{inner, apart, with_local}
use Rattle.bds_meaning.specs.OpeningExpressions.{term_of as expr_term}
use Rattle.bds_meaning.specs.OpeningStatements as statements
use Rattle.bds_meaning.specs.Term.{Term, Nothing, Choose, Then, Block, While, Each, Declare, SpawnBlock, Switch}
use Rattle.bds_meaning.specs.Variables.{Bindings}

unfoldable pub opened : Bindings → Names → Site → StmtTree → Term
opened ss names site s = statements.stmt_term ss names site s

unfoldable pub opened_form : Bindings → Names → Site → At → StmtFormTree → Term
opened_form ss names site at f = statements.stmt_form_term ss names site at f

unfoldable pub opened_line : Bindings → Names → Site → At → LineTree → Term
opened_line ss names site at l = statements.line_term ss names site at l

unfoldable pub opened_right : Bindings → Names → RightTree → Term
opened_right ss names r = statements.right_term ss names r

unfoldable pub opened_act : Bindings → Names → ActTree → Term
opened_act ss names a = statements.act_term ss names a

unfoldable pub opened_block : Bindings → Names → Site → BlockTree → Term
opened_block ss names site b = statements.block_term ss names site b

-- the statements of a block
unfoldable pub opened_stmts : Bindings → Names → Site → StmtTrees → List Term
opened_stmts ss names site no_stmts = []
opened_stmts ss names site (more_stmts s others) = statements.stmt_term ss names site s ∷ opened_stmts ss (statements.behind names site s) site others

-- a statement within another, as a block of its own
unfoldable pub opened_part : Bindings → Names → Site → StmtTree → Term
opened_part ss names site s = Block (statements.stmt_term ss names (inner names site) s)

-- a block within
unfoldable pub opened_within : Bindings → Names → Site → BlockTree → Term
opened_within ss names site b = Block (statements.block_term ss names (inner names site) b)

-- no place of a statement stands in the terms of these forms
unfoldable pub opened_if : Bindings → Names → Site → Tree → StmtTree → MaybeStmt → Term
opened_if ss names site c a b = Choose (expr_term names c) (opened_part ss names site a) (statements.else_term ss names site b)

unfoldable pub opened_while : Bindings → Names → Site → Tree → StmtTree → Term
opened_while ss names site c body = While (expr_term names c) (opened_part ss names site body) Nothing

-- the names within a `for`, behind its first part
unfoldable pub names_within : Names → Site → Option SmallTree → Names
names_within names site first = statements.behind_small names (inner names site) first

-- the last part of a `for`, as a block of its own
unfoldable pub last_part : Names → Option SmallTree → Term
last_part names last = Block (statements.small_term names last)

-- the turns of a `for`, under the names within
unfoldable pub opened_turns : Bindings → Names → Site → Option Tree → Option SmallTree → StmtTree → Term
opened_turns ss within site c last body = While (statements.test_term within c) (opened_part ss within site body) (last_part within last)

unfoldable pub opened_for : Bindings → Names → Site → Option SmallTree → Option Tree → Option SmallTree → StmtTree → Term
opened_for ss names site first c last body = Block (Then (statements.small_term names first) (opened_turns ss (names_within names site first) site c last body))

unfoldable pub opened_each : Bindings → Names → Site → Ty → List ℕ → Tree → StmtTree → Term
opened_each ss names site t x e body = Each x (expr_term names e) (opened_part ss (with_local names x t) site body)

-- statements one behind another
unfoldable pub opened_sequence : Bindings → Names → Site → StmtTrees → Term
opened_sequence ss names site xs = statements.stmts_term ss names site xs

-- a case with its label, and its statements as a block of their own
unfoldable pub opened_case : Bindings → Names → Site → CaseTree → Option Term × Term
opened_case ss names site (a_case at l xs) = (statements.some_term names l, Block (statements.stmts_term ss names (inner names site) xs))

unfoldable pub opened_cases : Bindings → Names → Site → CaseTrees → List (Option Term × Term)
opened_cases ss names site no_cases = []
opened_cases ss names site (more_cases c cs) = opened_case ss names site c ∷ opened_cases ss names site cs

unfoldable pub opened_switch : Bindings → Names → Site → Tree → CaseTrees → Term
opened_switch ss names site e cs = Switch (expr_term names e) (statements.cases_term ss names site cs)

-- a declaration with a right side
unfoldable pub opened_declared : Bindings → Names → Site → List ℕ → RightTree → Term
opened_declared ss names site x r = Declare (statements.scope_at site) x (statements.unless_set (statements.set_at site.at_top ss x) (opened_right ss names r))

-- a block of a thread of its own
unfoldable pub opened_par : Bindings → Names → At → BlockTree → Term
opened_par ss names at b = SpawnBlock at (Block (statements.block_term ss names (apart names) b))
