-- What a walk gives, from what its calls give. The closed words are unfolded here alone.
use Rattle.std.proofs.Common.{◌≡◌, ℕ, ◌+◌, ◌<◌, ◌≤◌, true, false, Option, Some, None, List, [], ◌∷◌, ◌++◌, length, drop, get_or, refl, sym, ◌∙◌, ap, ap₂, append_assoc, append-nil}
use Rattle.std.proofs.lemmas.List.{drop_all, drop_more}
use Rattle.bds_value.specs.declared.value.At.{At}
use Rattle.bds_value.specs.declared.value.Ty.{Ty}
use Rattle.bds_value.specs.Value.{default_of}
use Rattle.std.specs.Option.{option_map}
use Rattle.bds_tree.specs.Tree.{Tree}
use Rattle.bds_tree.specs.StmtTree.{SmallTree, StmtTree, StmtFormTree, LineTree, RightTree, ActTree, ActFormTree, BlockTree, StmtTrees, stmt, declare, infer, assign, update, step, call_line, print, println, error, exit, break, continue, return, wait, checkpoint, act_line, act, sys, task, dep, goal, par_call, par_block, block, no_stmts, more_stmts, no_stmt, a_stmt, no_right, a_right, switch, CaseTrees, CaseTree, no_cases, more_cases, a_case}
use Rattle.bds_tree.specs.declared.expr.Expr.{Expr}
use Rattle.bds_tree.specs.declared.stmt.Act.{Act, fold_out-Act}
use Rattle.bds_tree.specs.declared.stmt.ActForm.TheVariants as act_form
use Rattle.bds_tree.specs.declared.stmt.Block.{Block, out-Block, fold_out-Block}
use Rattle.bds_tree.specs.declared.stmt.Line.{Line}
use Rattle.bds_tree.specs.declared.stmt.Line.TheVariants as lines
use Rattle.bds_tree.specs.declared.stmt.Place.{Place}
use Rattle.bds_tree.specs.declared.stmt.RightSide.{RightSide}
use Rattle.bds_tree.specs.declared.stmt.RightSide.TheVariants as side
use Rattle.bds_tree.specs.declared.stmt.Small.{Small}
use Rattle.bds_tree.specs.declared.stmt.Stmt.{Stmt, fold_out-Stmt}
use Rattle.bds_tree.specs.declared.stmt.StmtForm.{StmtForm}
use Rattle.bds_tree.specs.declared.stmt.StmtForm.TheVariants as form
use Rattle.bds_tree.specs.declared.stmt.UpdateOp.{UpdateOp}
use Rattle.bds_tree.specs.StmtView.{place_of, small_of, act_form_step, line_step, right_step, stmt_form_step, act_step, block_step, stmt_step, stmt_of, stmt_form_of, line_of, right_of, act_of, act_form_of, block_of, stmts_of, case_step, case_of, cases_of}
use Rattle.bds_tree.specs.View.{tree_of}
use Rattle.bds_tree.proofs.StmtViews.{stmt_form_of-Block, stmt_form_of-Empty, stmt_form_of-Line, stmt_form_of-If, stmt_form_of-While, stmt_form_of-For, stmt_form_of-Each, line_of-Declare, line_of-Infer, line_of-Assign, line_of-Update, line_of-Return, line_of-Alone, right_of-Expr, right_of-Act, act_form_of-ParBlock, stmt_form_of-Switch}
use Rattle.bds_check_names.specs.declared.names.Names.{Names}
use Rattle.bds_check_names.specs.declared.names.Site.{Site}
use Rattle.bds_check_names.specs.Scopes.{apart, inner, with_local}
use Rattle.bds_meaning.specs.OpeningExpressions.{term_of as expr_term}
use Rattle.bds_meaning.specs.OpeningPlaces.{place_term, change_of}
use Rattle.bds_meaning.specs.OpeningStatements as statements
use Rattle.bds_meaning.specs.OpeningTexts.{one}
use Rattle.bds_meaning.specs.Term.{Term, Change, Constant, Nothing, Choose, Then, Block as BlockTerm, While, Each, Declare, SpawnBlock, Return, Replaced, Switch}
use Rattle.bds_meaning.specs.Variables.{Bindings}
use Rattle.bds_source.specs.Opened.{opened, opened_form, opened_line, opened_right, opened_act, opened_block, opened_stmts, opened_part, opened_within, opened_if, opened_while, opened_turns, opened_for, opened_each, opened_declared, opened_par, names_within, last_part, opened_sequence, opened_case, opened_cases, opened_switch}
use Rattle.bds_source_acts.specs.Acts.{is_par, plain_act}
use Rattle.bds_source_lines.specs.Opened.{is_plain, plain_line}
use Rattle.bds_source_terms.specs.declared.term.Term.TheVariants as source
use Rattle.bds_source_terms.specs.declared.term.Term.{fold-roll-Term}
use Rattle.bds_source_terms.specs.declared.term.Term.TheOpen.{Term-F}
use Rattle.bds_source_terms.specs.View.{term_of, term_step, then_of, cases_of as branches_of}
use Rattle.bds_tree.specs.declared.stmt.Case.{Case, out-Case, fold_out-Case}

-- The term of nothing

pub nothing_is : term_of source.Nothing ≡ Nothing
nothing_is = ap term_of (sym source.rolls-Nothing) ∙ fold-roll-Term Term term_step Term-F.Nothing

-- Statements within others

pub within_is : (ss : Bindings) (names : Names) (site within : Site) (b : BlockTree) (t u : Term) → within ≡ inner names site → u ≡ opened_block ss names within b → t ≡ BlockTerm u → t ≡ opened_within ss names site b
unfolding opened_block opened_within
within_is ss names site within b t u e1 e2 e3 = e3 ∙ ap BlockTerm (e2 ∙ ap (λ (x : Site). statements.block_term ss names x b) e1)

pub part_is : (ss : Bindings) (names : Names) (site within : Site) (s : StmtTree) (t u : Term) → within ≡ inner names site → u ≡ opened ss names within s → t ≡ BlockTerm u → t ≡ opened_part ss names site s
unfolding opened opened_part
part_is ss names site within s t u e1 e2 e3 = e3 ∙ ap BlockTerm (e2 ∙ ap (λ (x : Site). statements.stmt_term ss names x s) e1)

pub if_is : (ss : Bindings) (names : Names) (site : Site) (c : Tree) (a : StmtTree) (t x y z : Term) → x ≡ expr_term names c → y ≡ opened_part ss names site a → z ≡ Nothing → t ≡ Choose x y z → t ≡ opened_if ss names site c a no_stmt
unfolding opened_if
if_is ss names site c a t x y z e1 e2 e3 e4 = e4 ∙ ap₂ (λ p q. Choose p q z) e1 e2 ∙ ap (Choose (expr_term names c) (opened_part ss names site a)) e3

pub if_else_is : (ss : Bindings) (names : Names) (site : Site) (c : Tree) (a b : StmtTree) (t x y z : Term) → x ≡ expr_term names c → y ≡ opened_part ss names site a → z ≡ opened_part ss names site b → t ≡ Choose x y z → t ≡ opened_if ss names site c a (a_stmt b)
unfolding opened_if opened_part
if_else_is ss names site c a b t x y z e1 e2 e3 e4 = e4 ∙ ap₂ (λ p q. Choose p q z) e1 e2 ∙ ap (Choose (expr_term names c) (opened_part ss names site a)) e3

pub while_is : (ss : Bindings) (names : Names) (site : Site) (c : Tree) (s : StmtTree) (t x y z : Term) → x ≡ expr_term names c → y ≡ opened_part ss names site s → z ≡ Nothing → t ≡ While x y z → t ≡ opened_while ss names site c s
unfolding opened_while
while_is ss names site c s t x y z e1 e2 e3 e4 = e4 ∙ ap₂ (λ p q. While p q z) e1 e2 ∙ ap (While (expr_term names c) (opened_part ss names site s)) e3

pub last_is : (names now : Names) (last : Option SmallTree) (t : Term) → now ≡ names → t ≡ BlockTerm (statements.small_term now last) → t ≡ last_part names last
unfolding last_part
last_is names now last t e1 e2 = e2 ∙ ap (λ (n : Names). BlockTerm (statements.small_term n last)) e1

pub turns_are : (ss : Bindings) (names : Names) (site : Site) (c : Option Tree) (last : Option SmallTree) (s : StmtTree) (t x y z : Term) → x ≡ statements.test_term names c → y ≡ opened_part ss names site s → z ≡ last_part names last → t ≡ While x y z → t ≡ opened_turns ss names site c last s
unfolding opened_turns
turns_are ss names site c last s t x y z e1 e2 e3 e4 = e4 ∙ ap₂ (λ p q. While p q z) e1 e2 ∙ ap (While (statements.test_term names c) (opened_part ss names site s)) e3

pub turns_behind_are : (ss : Bindings) (names now : Names) (site : Site) (first : Option SmallTree) (c : Option Tree) (last : Option SmallTree) (s : StmtTree) (t : Term) → now ≡ statements.behind_small names (inner names site) first → t ≡ opened_turns ss now site c last s
    → t ≡ opened_turns ss (names_within names site first) site c last s
unfolding names_within
turns_behind_are ss names now site first c last s t e1 e2 = e2 ∙ ap (λ (n : Names). opened_turns ss n site c last s) e1

pub for_is : (ss : Bindings) (names : Names) (site : Site) (first : Option SmallTree) (c : Option Tree) (last : Option SmallTree) (s : StmtTree) (t x y : Term) → x ≡ statements.small_term names first → y ≡ opened_turns ss (names_within names site first) site c last s → t ≡ BlockTerm (Then x y)
    → t ≡ opened_for ss names site first c last s
unfolding opened_for
for_is ss names site first c last s t x y e1 e2 e3 = e3 ∙ ap₂ (λ p q. BlockTerm (Then p q)) e1 e2

pub each_is : (ss : Bindings) (names : Names) (site : Site) (ty : Ty) (x n : List ℕ) (e : Tree) (s : StmtTree) (t y z : Term) → n ≡ x → y ≡ expr_term names e → z ≡ opened_part ss (with_local names x ty) site s → t ≡ Each n y z → t ≡ opened_each ss names site ty x e s
unfolding opened_each
each_is ss names site ty x n e s t y z e0 e1 e2 e3 = e3 ∙ ap₂ (Each n) e1 e2 ∙ ap (λ (m : List ℕ). Each m (expr_term names e) (opened_part ss (with_local names x ty) site s)) e0

-- Nodes by their fields

stmt-view : (s : Stmt) → stmt_of s ≡ stmt s.at (stmt_form_of s.form)
stmt-view s = fold_out-Stmt ActFormTree LineTree RightTree StmtFormTree ActTree BlockTree CaseTree StmtTree act_form_step line_step right_step stmt_form_step act_step block_step case_step stmt_step s

act-view : (a : Act) → act_of a ≡ act a.at (act_form_of a.form)
act-view a = fold_out-Act ActFormTree LineTree RightTree StmtFormTree ActTree BlockTree CaseTree StmtTree act_form_step line_step right_step stmt_form_step act_step block_step case_step stmt_step a

block-view : (b : Block) → block_of b ≡ block (out-Block b).at (stmts_of (out-Block b).stmts)
block-view b = fold_out-Block ActFormTree LineTree RightTree StmtFormTree ActTree BlockTree CaseTree StmtTree act_form_step line_step right_step stmt_form_step act_step block_step case_step stmt_step b

pub stmt_is : (ss : Bindings) (names : Names) (site : Site) (s : Stmt) (t : Term) → t ≡ opened_form ss names site s.at (stmt_form_of s.form) → t ≡ opened ss names site (stmt_of s)
unfolding opened opened_form
stmt_is ss names site s t e = e ∙ ap (λ (x : StmtTree). statements.stmt_term ss names site x) (sym (stmt-view s))

-- Forms of statements

pub form_block : (ss : Bindings) (names : Names) (site : Site) (at : At) (f : StmtForm) (b : Block) (t : Term) → f ≡ form.Block b → t ≡ opened_within ss names site (block_of b) → t ≡ opened_form ss names site at (stmt_form_of f)
unfolding opened_within opened_form
form_block ss names site at f b t h e = e ∙ ap (λ (x : StmtFormTree). statements.stmt_form_term ss names site at x) (sym (ap stmt_form_of h ∙ stmt_form_of-Block b))

pub form_empty : (ss : Bindings) (names : Names) (site : Site) (at : At) (f : StmtForm) → f ≡ form.Empty → Nothing ≡ opened_form ss names site at (stmt_form_of f)
unfolding opened_form
form_empty ss names site at f h = ap (λ (x : StmtFormTree). statements.stmt_form_term ss names site at x) (sym (ap stmt_form_of h ∙ stmt_form_of-Empty))

pub form_line : (ss : Bindings) (names : Names) (site : Site) (at : At) (f : StmtForm) (l : Line) (t : Term) → f ≡ form.Line l → t ≡ opened_line ss names site at (line_of l) → t ≡ opened_form ss names site at (stmt_form_of f)
unfolding opened_line opened_form
form_line ss names site at f l t h e = e ∙ ap (λ (x : StmtFormTree). statements.stmt_form_term ss names site at x) (sym (ap stmt_form_of h ∙ stmt_form_of-Line l))

pub form_if : (ss : Bindings) (names : Names) (site : Site) (at : At) (f : StmtForm) (c : Expr) (a : Stmt) (t : Term) → f ≡ form.If c a None → t ≡ opened_if ss names site (tree_of c) (stmt_of a) no_stmt → t ≡ opened_form ss names site at (stmt_form_of f)
unfolding opened_part opened_if opened_form
form_if ss names site at f c a t h e = e ∙ ap (λ (x : StmtFormTree). statements.stmt_form_term ss names site at x) (sym (ap stmt_form_of h ∙ stmt_form_of-If c a None))

pub form_if_else : (ss : Bindings) (names : Names) (site : Site) (at : At) (f : StmtForm) (c : Expr) (a b : Stmt) (t : Term) → f ≡ form.If c a (Some b) → t ≡ opened_if ss names site (tree_of c) (stmt_of a) (a_stmt (stmt_of b)) → t ≡ opened_form ss names site at (stmt_form_of f)
unfolding opened_part opened_if opened_form
form_if_else ss names site at f c a b t h e = e ∙ ap (λ (x : StmtFormTree). statements.stmt_form_term ss names site at x) (sym (ap stmt_form_of h ∙ stmt_form_of-If c a (Some b)))

pub form_while : (ss : Bindings) (names : Names) (site : Site) (at : At) (f : StmtForm) (c : Expr) (s : Stmt) (t : Term) → f ≡ form.While c s → t ≡ opened_while ss names site (tree_of c) (stmt_of s) → t ≡ opened_form ss names site at (stmt_form_of f)
unfolding opened_part opened_while opened_form
form_while ss names site at f c s t h e = e ∙ ap (λ (x : StmtFormTree). statements.stmt_form_term ss names site at x) (sym (ap stmt_form_of h ∙ stmt_form_of-While c s))

pub form_for : (ss : Bindings) (names : Names) (site : Site) (at : At) (f : StmtForm) (first : Option Small) (c : Option Expr) (last : Option Small) (s : Stmt) (t : Term) → f ≡ form.For first c last s
    → t ≡ opened_for ss names site (option_map small_of first) (option_map tree_of c) (option_map small_of last) (stmt_of s) → t ≡ opened_form ss names site at (stmt_form_of f)
unfolding opened_part last_part names_within opened_turns opened_for opened_form
form_for ss names site at f first c last s t h e = e ∙ ap (λ (x : StmtFormTree). statements.stmt_form_term ss names site at x) (sym (ap stmt_form_of h ∙ stmt_form_of-For first c last s))

pub form_each : (ss : Bindings) (names : Names) (site : Site) (at : At) (f : StmtForm) (ty : Ty) (n : List ℕ) (c : Expr) (s : Stmt) (t : Term) → f ≡ form.Each ty n c s → t ≡ opened_each ss names site ty n (tree_of c) (stmt_of s) → t ≡ opened_form ss names site at (stmt_form_of f)
unfolding opened_part opened_each opened_form
form_each ss names site at f ty n c s t h e = e ∙ ap (λ (x : StmtFormTree). statements.stmt_form_term ss names site at x) (sym (ap stmt_form_of h ∙ stmt_form_of-Each ty n c s))

pub form_switch : (ss : Bindings) (names : Names) (site : Site) (at : At) (f : StmtForm) (e : Expr) (cs ds : List Case) (t : Term) → f ≡ form.Switch e cs → ds ≡ cs → t ≡ opened_switch ss names site (tree_of e) (cases_of ds) → t ≡ opened_form ss names site at (stmt_form_of f)
unfolding opened_switch opened_form
form_switch ss names site at f e cs ds t h same is =
    is ∙ ap (λ (l : List Case). Switch (expr_term names (tree_of e)) (statements.cases_term ss names site (cases_of l))) same ∙ ap (λ (x : StmtFormTree). statements.stmt_form_term ss names site at x) (sym (ap stmt_form_of h ∙ stmt_form_of-Switch e cs))

-- Lines

pub declared_set : (ss : Bindings) (names : Names) (site : Site) (x : List ℕ) (r : RightTree) (t u : Term) → u ≡ statements.unless_set (statements.set_at site.at_top ss x) (opened_right ss names r) → t ≡ Declare (statements.scope_at site) x u → t ≡ opened_declared ss names site x r
unfolding opened_declared
declared_set ss names site x r t u e1 e2 = e2 ∙ ap (Declare (statements.scope_at site) x) e1

pub line_default : (ss : Bindings) (names : Names) (site : Site) (at : At) (l : Line) (ty : Ty) (x : List ℕ) (t : Term) → l ≡ lines.Declare ty x None → t ≡ Declare (statements.scope_at site) x (statements.unless_set (statements.set_at site.at_top ss x) (Constant (default_of ty)))
    → t ≡ opened_line ss names site at (line_of l)
unfolding opened_line
line_default ss names site at l ty x t h e = e ∙ ap (λ (y : LineTree). statements.line_term ss names site at y) (sym (ap line_of h ∙ line_of-Declare ty x None))

pub line_declared : (ss : Bindings) (names : Names) (site : Site) (at : At) (l : Line) (ty : Ty) (x : List ℕ) (r : RightSide) (t : Term) → l ≡ lines.Declare ty x (Some r) → t ≡ opened_declared ss names site x (right_of r) → t ≡ opened_line ss names site at (line_of l)
unfolding opened_right opened_declared opened_line
line_declared ss names site at l ty x r t h e = e ∙ ap (λ (y : LineTree). statements.line_term ss names site at y) (sym (ap line_of h ∙ line_of-Declare ty x (Some r)))

pub line_inferred : (ss : Bindings) (names : Names) (site : Site) (at : At) (l : Line) (x : List ℕ) (r : RightSide) (t : Term) → l ≡ lines.Infer x r → t ≡ opened_declared ss names site x (right_of r) → t ≡ opened_line ss names site at (line_of l)
unfolding opened_right opened_declared opened_line
line_inferred ss names site at l x r t h e = e ∙ ap (λ (y : LineTree). statements.line_term ss names site at y) (sym (ap line_of h ∙ line_of-Infer x r))

pub line_assigned : (ss : Bindings) (names : Names) (site : Site) (at : At) (l : Line) (q : Place) (r : RightSide) (t : Term) → l ≡ lines.Assign q r → t ≡ place_term names at (place_of q) Replaced (one (opened_right ss names (right_of r))) → t ≡ opened_line ss names site at (line_of l)
unfolding opened_right opened_line
line_assigned ss names site at l q r t h e = e ∙ ap (λ (y : LineTree). statements.line_term ss names site at y) (sym (ap line_of h ∙ line_of-Assign q r))

pub line_updated : (ss : Bindings) (names : Names) (site : Site) (at : At) (l : Line) (q : Place) (o : UpdateOp) (r : RightSide) (k : Change) (t : Term) → l ≡ lines.Update q o r → k ≡ change_of o → t ≡ place_term names at (place_of q) k (one (opened_right ss names (right_of r)))
    → t ≡ opened_line ss names site at (line_of l)
unfolding opened_right opened_line
line_updated ss names site at l q o r k t h e0 e =
    e ∙ ap (λ (c : Change). place_term names at (place_of q) c (one (opened_right ss names (right_of r)))) e0 ∙ ap (λ (y : LineTree). statements.line_term ss names site at y) (sym (ap line_of h ∙ line_of-Update q o r))

pub line_returned : (ss : Bindings) (names : Names) (site : Site) (at : At) (l : Line) (r : RightSide) (t : Term) → l ≡ lines.Return (Some r) → t ≡ Return (opened_right ss names (right_of r)) → t ≡ opened_line ss names site at (line_of l)
unfolding opened_right opened_line
line_returned ss names site at l r t h e = e ∙ ap (λ (y : LineTree). statements.line_term ss names site at y) (sym (ap line_of h ∙ line_of-Return (Some r)))

pub line_alone : (ss : Bindings) (names : Names) (site : Site) (at : At) (l : Line) (a : Act) (t : Term) → l ≡ lines.Alone a → t ≡ opened_act ss names (act_of a) → t ≡ opened_line ss names site at (line_of l)
unfolding opened_act opened_line
line_alone ss names site at l a t h e = e ∙ ap (λ (y : LineTree). statements.line_term ss names site at y) (sym (ap line_of h ∙ line_of-Alone a))

by-plain : (ss : Bindings) (names : Names) (site : Site) (at : At) (l : LineTree) → is_plain l ≡ true → plain_line names at l ≡ opened_line ss names site at l
unfolding opened_line
by-plain ss names site at (declare t x r) h = absurd (cc)
by-plain ss names site at (infer x r) h = absurd (cc)
by-plain ss names site at (assign q r) h = absurd (cc)
by-plain ss names site at (update q o r) h = absurd (cc)
by-plain ss names site at (return no_right) h = refl
by-plain ss names site at (return (a_right r)) h = absurd (cc)
by-plain ss names site at (act_line a) h = absurd (cc)
by-plain ss names site at _ h = refl

pub line_plain : (ss : Bindings) (names : Names) (site : Site) (at : At) (l : LineTree) (t : Term) → is_plain l ≡ true → t ≡ plain_line names at l → t ≡ opened_line ss names site at l
line_plain ss names site at l t h e = e ∙ by-plain ss names site at l h

-- What stands on the right

pub right_expr_is : (ss : Bindings) (names : Names) (r : RightSide) (x : Expr) (t : Term) → r ≡ side.Expr x → t ≡ expr_term names (tree_of x) → t ≡ opened_right ss names (right_of r)
unfolding opened_right
right_expr_is ss names r x t h e = e ∙ ap (λ (y : RightTree). statements.right_term ss names y) (sym (ap right_of h ∙ right_of-Expr x))

pub right_act_is : (ss : Bindings) (names : Names) (r : RightSide) (a : Act) (t : Term) → r ≡ side.Act a → t ≡ opened_act ss names (act_of a) → t ≡ opened_right ss names (right_of r)
unfolding opened_act opened_right
right_act_is ss names r a t h e = e ∙ ap (λ (y : RightTree). statements.right_term ss names y) (sym (ap right_of h ∙ right_of-Act a))

pub act_par_is : (ss : Bindings) (names : Names) (a : Act) (b : Block) (t : Term) → a.form ≡ act_form.ParBlock b → t ≡ opened_par ss names a.at (block_of b) → t ≡ opened_act ss names (act_of a)
unfolding opened_par opened_act
act_par_is ss names a b t h e = e ∙ ap (λ (y : ActTree). statements.act_term ss names y) (sym (act-view a ∙ ap (act a.at) (ap act_form_of h ∙ act_form_of-ParBlock b)))

by-plain-act : (ss : Bindings) (names : Names) (at : At) (f : ActFormTree) → is_par f ≡ false → plain_act names at f ≡ statements.act_form_term ss names at f
by-plain-act ss names at (sys ps) h = refl
by-plain-act ss names at (task os b) h = refl
by-plain-act ss names at (dep os b) h = refl
by-plain-act ss names at (goal e) h = refl
by-plain-act ss names at (par_call x es) h = refl
by-plain-act ss names at (par_block b) h = absurd (cc)

pub act_plain_is : (ss : Bindings) (names : Names) (a : Act) (t : Term) → is_par (act_form_of a.form) ≡ false → t ≡ plain_act names a.at (act_form_of a.form) → t ≡ opened_act ss names (act_of a)
unfolding opened_act
act_plain_is ss names a t h e = e ∙ by-plain-act ss names a.at (act_form_of a.form) h ∙ ap (λ (y : ActTree). statements.act_term ss names y) (sym (act-view a))

pub par_is : (ss : Bindings) (names : Names) (site : Site) (at : At) (b : BlockTree) (t u v : Term) → site ≡ apart names → u ≡ opened_block ss names site b → v ≡ BlockTerm u → t ≡ SpawnBlock at v → t ≡ opened_par ss names at b
unfolding opened_block opened_par
par_is ss names site at b t u v e1 e2 e3 e4 = e4 ∙ ap (SpawnBlock at) (e3 ∙ ap BlockTerm (e2 ∙ ap (λ (x : Site). statements.block_term ss names x b) e1))

-- Statements one behind another

stmts-are : (xs : StmtTrees) (ss : Bindings) (names : Names) (site : Site) → then_of (opened_stmts ss names site xs) Nothing ≡ statements.stmts_term ss names site xs
unfolding opened_stmts
stmts-are no_stmts ss names site = refl
stmts-are (more_stmts s xs) ss names site = ap (Then (statements.stmt_term ss names site s)) (stmts-are xs ss (statements.behind names site s) site)

pub sequence_is : (ss : Bindings) (names : Names) (site : Site) (xs : List Stmt) (ts : List Term) (t : Term) → ts ≡ [] ++ opened_stmts ss names site (stmts_of xs) → t ≡ then_of ts Nothing → t ≡ opened_sequence ss names site (stmts_of xs)
unfolding opened_sequence
sequence_is ss names site xs ts t e1 e2 = e2 ∙ ap (λ (us : List Term). then_of us Nothing) e1 ∙ stmts-are (stmts_of xs) ss names site

pub block_is : (ss : Bindings) (names : Names) (site : Site) (b : Block) (xs : List Stmt) (t : Term) → xs ≡ (out-Block b).stmts → t ≡ opened_sequence ss names site (stmts_of xs) → t ≡ opened_block ss names site (block_of b)
unfolding opened_block opened_sequence
block_is ss names site b xs t e1 e2 = e2 ∙ ap (λ (ys : List Stmt). statements.stmts_term ss names site (stmts_of ys)) e1 ∙ ap (statements.block_term ss names site) (sym (block-view b))

pub stmts_next : (ss : Bindings) (site : Site) (xs : List Stmt) (i : ℕ) (s : Stmt) (names now : Names) (ts us whole : List Term) → i < length xs → s ≡ get_or xs i s → us ≡ ts ++ opened ss names site (stmt_of s) ∷ [] → now ≡ statements.behind names site (stmt_of s)
    → ts ++ opened_stmts ss names site (stmts_of (drop i xs)) ≡ whole → us ++ opened_stmts ss now site (stmts_of (drop (i + 1) xs)) ≡ whole
unfolding opened opened_stmts
stmts_next ss site xs i s names now ts us whole below is gives behind_it inv =
    let rest : List Stmt = drop (i + 1) xs in
    let item : drop i xs ≡ s ∷ rest = drop_more xs i s below ∙ ap (λ (y : Stmt). y ∷ rest) (sym is) in
    let shifted : (ts ++ statements.stmt_term ss names site (stmt_of s) ∷ []) ++ opened_stmts ss (statements.behind names site (stmt_of s)) site (stmts_of rest) ≡ ts ++ statements.stmt_term ss names site (stmt_of s) ∷ opened_stmts ss (statements.behind names site (stmt_of s)) site (stmts_of rest) = rw append_assoc refl in
    ap₂ (λ (vs : List Term) (n : Names). vs ++ opened_stmts ss n site (stmts_of rest)) gives behind_it
    ∙ shifted
    ∙ ap (λ (ys : List Stmt). ts ++ opened_stmts ss names site (stmts_of ys)) (sym item)
    ∙ inv

pub stmts_none : (ss : Bindings) (site : Site) (xs : List Stmt) (i : ℕ) (names : Names) (ts whole : List Term) → length xs ≤ i → ts ++ opened_stmts ss names site (stmts_of (drop i xs)) ≡ whole → ts ≡ whole
unfolding opened_stmts
stmts_none ss site xs i names ts whole end inv = sym (append-nil ts) ∙ ap (λ (ys : List Stmt). ts ++ opened_stmts ss names site (stmts_of ys)) (sym (drop_all i xs end)) ∙ inv

-- Cases

case-view : (c : Case) → case_of c ≡ a_case (out-Case c).at (option_map tree_of (out-Case c).label) (stmts_of (out-Case c).stmts)
case-view c = fold_out-Case ActFormTree LineTree RightTree StmtFormTree ActTree BlockTree CaseTree StmtTree act_form_step line_step right_step stmt_form_step act_step block_step case_step stmt_step c

pub case_body_is : (ss : Bindings) (names : Names) (site own : Site) (xs : List Stmt) (t u : Term) → own ≡ inner names site → u ≡ opened_sequence ss names own (stmts_of xs) → t ≡ BlockTerm u → t ≡ BlockTerm (opened_sequence ss names (inner names site) (stmts_of xs))
case_body_is ss names site own xs t u e1 e2 e3 = e3 ∙ ap BlockTerm (e2 ∙ ap (λ (x : Site). opened_sequence ss names x (stmts_of xs)) e1)

case-is : (ss : Bindings) (names : Names) (site : Site) (c : Case) (xs : List Stmt) (l : Option Term) (t : Term) → xs ≡ (out-Case c).stmts → l ≡ statements.some_term names (option_map tree_of (out-Case c).label) → t ≡ BlockTerm (opened_sequence ss names (inner names site) (stmts_of xs))
    → (l, t) ≡ opened_case ss names site (case_of c)
unfolding opened_case opened_sequence
case-is ss names site c xs l t e1 e2 e3 =
    ap₂ (λ (k : Option Term) (u : Term). (k, u)) e2 (e3 ∙ ap (λ (ys : List Stmt). BlockTerm (statements.stmts_term ss names (inner names site) (stmts_of ys))) e1)
    ∙ ap (λ (x : CaseTree). opened_case ss names site x) (sym (case-view c))

-- the case that is put behind others
pub case_put : (ss : Bindings) (names now : Names) (site : Site) (c : Case) (xs : List Stmt) (l : Option Term) (t : Term) (before behind : List (Option Term × Term)) → now ≡ names → xs ≡ (out-Case c).stmts → l ≡ statements.some_term now (option_map tree_of (out-Case c).label)
    → t ≡ BlockTerm (opened_sequence ss names (inner names site) (stmts_of xs)) → behind ≡ before ++ (l, t) ∷ [] → behind ≡ before ++ opened_case ss names site (case_of c) ∷ []
case_put ss names now site c xs l t before behind same e1 e2 e3 put =
    put ∙ ap (λ (b : Option Term × Term). before ++ b ∷ []) (case-is ss names site c xs l t e1 (e2 ∙ ap (λ (n : Names). statements.some_term n (option_map tree_of (out-Case c).label)) same) e3)

pub cases_next : (ss : Bindings) (names now : Names) (site : Site) (cs : List Case) (i : ℕ) (c : Case) (bs ds whole : List (Option Term × Term)) → i < length cs → c ≡ get_or cs i c → now ≡ names → ds ≡ bs ++ opened_case ss now site (case_of c) ∷ []
    → bs ++ opened_cases ss names site (cases_of (drop i cs)) ≡ whole → ds ++ opened_cases ss names site (cases_of (drop (i + 1) cs)) ≡ whole
unfolding opened_cases
cases_next ss names now site cs i c bs ds whole below is same gives inv =
    let rest : List Case = drop (i + 1) cs in
    let item : drop i cs ≡ c ∷ rest = drop_more cs i c below ∙ ap (λ (y : Case). y ∷ rest) (sym is) in
    let shifted : (bs ++ opened_case ss names site (case_of c) ∷ []) ++ opened_cases ss names site (cases_of rest) ≡ bs ++ opened_case ss names site (case_of c) ∷ opened_cases ss names site (cases_of rest) = rw append_assoc refl in
    ap (λ (l : List (Option Term × Term)). l ++ opened_cases ss names site (cases_of rest)) (gives ∙ ap (λ (n : Names). bs ++ opened_case ss n site (case_of c) ∷ []) same)
    ∙ shifted
    ∙ ap (λ (ys : List Case). bs ++ opened_cases ss names site (cases_of ys)) (sym item)
    ∙ inv

pub cases_none : (ss : Bindings) (names : Names) (site : Site) (cs : List Case) (i : ℕ) (bs whole : List (Option Term × Term)) → length cs ≤ i → bs ++ opened_cases ss names site (cases_of (drop i cs)) ≡ whole → bs ≡ whole
unfolding opened_cases
cases_none ss names site cs i bs whole end inv = sym (append-nil bs) ∙ ap (λ (ys : List Case). bs ++ opened_cases ss names site (cases_of ys)) (sym (drop_all i cs end)) ∙ inv

cases-are : (cs : CaseTrees) (ss : Bindings) (names : Names) (site : Site) → branches_of (opened_cases ss names site cs) ≡ statements.cases_term ss names site cs
unfolding opened_case opened_cases
cases-are no_cases ss names site = refl
cases-are (more_cases (a_case at l xs) cs) ss names site =
    ap (λ (t : Term). statements.case_with (statements.some_term names l) (BlockTerm (statements.stmts_term ss names (inner names site) xs)) t) (cases-are cs ss names site)

pub switch_is : (ss : Bindings) (names : Names) (site : Site) (e : Tree) (cs : CaseTrees) (t x : Term) (bs : List (Option Term × Term)) → x ≡ expr_term names e → bs ≡ opened_cases ss names site cs → t ≡ Switch x (branches_of bs) → t ≡ opened_switch ss names site e cs
unfolding opened_switch
switch_is ss names site e cs t x bs e1 e2 e3 = e3 ∙ ap₂ (λ (y : Term) (l : List (Option Term × Term)). Switch y (branches_of l)) e1 e2 ∙ ap (Switch (expr_term names e)) (cases-are cs ss names site)
