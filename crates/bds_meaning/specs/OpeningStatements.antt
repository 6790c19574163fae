-- The terms of statements.
use Rattle.std.specs.Prelude.{ℕ, true, List, Option, Some, None, codes, if◌then◌else◌, Bool, false}
use Rattle.bds_value.specs.declared.value.At.{At}
use Rattle.bds_value.specs.declared.value.Ty.{Ty}
use Rattle.bds_value.specs.declared.value.Value.{Value}
use Rattle.bds_value.specs.declared.value.Value.TheVariants as value
use Rattle.bds_value.specs.Value.{default_of}
use Rattle.bds_tree.specs.Tree.{Tree}
use Rattle.bds_tree.specs.StmtTree.{SmallTree, SmallFormTree, small_declare, small_infer, small_assign, small_update, small_step, small_call, StmtTree, StmtFormTree, LineTree, RightTree, ActTree, ActFormTree, BlockTree, StmtTrees, MaybeStmt, MaybeRight, stmt, inner_block, empty, line, when, while, for, each, declare, infer, assign, update, step, call_line, print, println, error, exit, break, continue, return, wait, checkpoint, act_line, right_expr, right_act, act, sys, task, dep, goal, par_call, par_block, block, no_stmts, more_stmts, no_stmt, a_stmt, no_right, a_right, switch, CaseTrees, no_cases, more_cases, a_case}
use Rattle.bds_check_names.specs.declared.names.Names.{Names}
use Rattle.bds_check_names.specs.declared.names.Site.{Site}
use Rattle.bds_check_names.specs.Scopes.{with_local, inner, apart}
use Rattle.bds_check_rules.specs.Declarations.{declared_by, declared_by_small, names_with}
use Rattle.bds_check_size.specs.ScriptSize.{set_value}
use Rattle.bds_meaning.specs.OpeningActs.{making_term, some_settings}
use Rattle.bds_meaning.specs.OpeningExpressions.{term_of, terms_of, files_term, shown}
use Rattle.bds_meaning.specs.OpeningPlaces.{place_term, change_of, step_term, call_term}
use Rattle.bds_meaning.specs.OpeningTexts.{one, plain, joined, text_term}
use Rattle.bds_meaning.specs.Term.{Term, Constant, Does, Nothing, Choose, Then, Block, Declare, While, Each, Switch, Case, Default, Break, Continue, Return, Error, Exit, SpawnCall, SpawnBlock, Printed, CommandRun, Achieved, IdsAwaited, AllAwaited, Saved, SavedHere, Replaced, as_task, as_rule}
use Rattle.bds_meaning.specs.Variables.{Bindings, Scope, local, global}

-- The names in force behind a statement

abbrev pub behind : Names → Site → StmtTree → Names
behind names site s = names_with names site (declared_by s)

abbrev pub behind_small : Names → Site → Option SmallTree → Names
behind_small names site s = names_with names site (declared_by_small s)

-- where a declaration puts its variable
abbrev pub scope_at : Site → Scope
scope_at site = if site.at_top then global else local

-- the value that is set for a name before the run, at the top level
abbrev pub set_at : Bool → Bindings → List ℕ → Option Value
set_at true settings x = set_value settings x
set_at false settings x = None

-- a value that was set stands in the place of the right side
abbrev pub unless_set : Option Value → Term → Term
unless_set (Some v) right = Constant v
unless_set None right = right

-- parts of a text, and a line end behind it
abbrev pub line_printed : At → Option Term → Term
line_printed at None = Does Printed at (one (plain (codes "\n")))
line_printed at (Some a) = Does Printed at (one (joined at (shown at a) (plain (codes "\n"))))

abbrev pub some_term : Names → Option Tree → Option Term
some_term names None = None
some_term names (Some e) = Some (term_of names e)

abbrev pub wait_term : Names → At → Option Tree → Term
wait_term names at None = Does AllAwaited at Nothing
wait_term names at (Some e) = Does IdsAwaited at (one (files_term names at e))

abbrev pub checkpoint_term : Names → At → Option Tree → Term
checkpoint_term names at None = Does SavedHere at Nothing
checkpoint_term names at (Some e) = Does Saved at (one (term_of names e))

-- a condition that is missing is true
abbrev pub test_term : Names → Option Tree → Term
test_term names None = Constant (value.Bool true)
test_term names (Some e) = term_of names e

-- a case, with the cases behind it
abbrev pub case_with : Option Term → Term → Term → Term
case_with (Some label) a cases = Case label a cases
case_with None a cases = Default a cases

-- Parts of the head of a `for`

abbrev pub small_value : Names → Ty → Option Tree → Term
small_value names t None = Constant (default_of t)
small_value names t (Some e) = term_of names e

abbrev pub small_form_term : Names → At → SmallFormTree → Term
small_form_term names at (small_declare t x e) = Declare local x (small_value names t e)
small_form_term names at (small_infer x e) = Declare local x (term_of names e)
small_form_term names at (small_assign p e) = place_term names at p Replaced (one (term_of names e))
small_form_term names at (small_update p o e) = place_term names at p (change_of o) (one (term_of names e))
small_form_term names at (small_step s) = step_term names at s
small_form_term names at (small_call e) = call_term names at e

abbrev pub small_term : Names → Option SmallTree → Term
small_term names None = Nothing
small_term names (Some s) = small_form_term names s.at s.form

-- values that are set before the run stand in the place of first values of globals
module _ (settings : Bindings) where
  abbrev mutual
    pub stmt_term : Names → Site → StmtTree → Term
    stmt_term names site (stmt at form) = stmt_form_term names site at form

    -- each then part, else part and body of a loop is a block of its own: it leaves no value, and a turn ends with the locals of before
    pub stmt_form_term : Names → Site → At → StmtFormTree → Term
    stmt_form_term names site at (inner_block b) = Block (block_term names (inner names site) b)
    stmt_form_term names site at empty = Nothing
    stmt_form_term names site at (line l) = line_term names site at l
    stmt_form_term names site at (when c a b) = Choose (term_of names c) (Block (stmt_term names (inner names site) a)) (else_term names site b)
    stmt_form_term names site at (while c body) = While (term_of names c) (Block (stmt_term names (inner names site) body)) Nothing
    stmt_form_term names site at (for first c last body) =
        let within : Names = behind_small names (inner names site) first in
        Block (Then (small_term names first) (While (test_term within c) (Block (stmt_term within (inner within site) body)) (Block (small_term within last))))
    stmt_form_term names site at (each t x e body) =
        let within : Names = with_local names x t in
        Each x (term_of names e) (Block (stmt_term within (inner within site) body))
    stmt_form_term names site at (switch e cs) = Switch (term_of names e) (cases_term names site cs)

    -- the statements of each case are a block of its own
    pub cases_term : Names → Site → CaseTrees → Term
    cases_term names site no_cases = Nothing
    cases_term names site (more_cases (a_case at l ss) cs) = case_with (some_term names l) (Block (stmts_term names (inner names site) ss)) (cases_term names site cs)

    pub else_term : Names → Site → MaybeStmt → Term
    else_term names site no_stmt = Nothing
    else_term names site (a_stmt s) = Block (stmt_term names (inner names site) s)

    pub line_term : Names → Site → At → LineTree → Term
    line_term names site at (declare t x r) = Declare (scope_at site) x (unless_set (set_at site.at_top settings x) (declared_term names t r))
    line_term names site at (infer x r) = Declare (scope_at site) x (unless_set (set_at site.at_top settings x) (right_term names r))
    line_term names site at (assign p r) = place_term names at p Replaced (one (right_term names r))
    line_term names site at (update p o r) = place_term names at p (change_of o) (one (right_term names r))
    line_term names site at (step s) = step_term names at s
    line_term names site at (call_line e) = call_term names at e
    line_term names site at (print e) = Does Printed at (one (shown at (term_of names e)))
    line_term names site at (println e) = line_printed at (some_term names e)
    line_term names site at (error e) = Error at (term_of names e)
    line_term names site at (exit e) = Exit (term_of names e)
    line_term names site at break = Break
    line_term names site at continue = Continue
    line_term names site at (return r) = Return (returned_term names r)
    line_term names site at (wait e) = wait_term names at e
    line_term names site at (checkpoint e) = checkpoint_term names at e
    line_term names site at (act_line a) = act_term names a

    -- the value of a declaration: without one, the default
    pub declared_term : Names → Ty → MaybeRight → Term
    declared_term names t no_right = Constant (default_of t)
    declared_term names t (a_right r) = right_term names r

    pub returned_term : Names → MaybeRight → Term
    returned_term names no_right = Nothing
    returned_term names (a_right r) = right_term names r

    pub right_term : Names → RightTree → Term
    right_term names (right_expr e) = term_of names e
    right_term names (right_act a) = act_term names a

    pub act_term : Names → ActTree → Term
    act_term names (act at form) = act_form_term names at form

    pub act_form_term : Names → At → ActFormTree → Term
    act_form_term names at (sys ps) = Does CommandRun at (one (text_term names at ps))
    act_form_term names at (task os b) = making_term names at as_task (some_settings os) b
    act_form_term names at (dep os b) = making_term names at as_rule os b
    act_form_term names at (goal e) = Does Achieved at (one (files_term names at e))
    act_form_term names at (par_call f es) = SpawnCall f at (terms_of names es)
    act_form_term names at (par_block b) = SpawnBlock at (Block (block_term names (apart names) b))

    pub block_term : Names → Site → BlockTree → Term
    block_term names site (block at ss) = stmts_term names site ss

    -- each statement under the names that those before it put in force
    pub stmts_term : Names → Site → StmtTrees → Term
    stmts_term names site no_stmts = Nothing
    stmts_term names site (more_stmts s ss) = Then (stmt_term names site s) (stmts_term (behind names site s) site ss)
