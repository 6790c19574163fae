-- For contracts within the parser alone: reading statements off the front of the tokens, as the parser does.
use Rattle.std.specs.Prelude.{ℕ, zero, suc, Bool, false, List, [], ◌∷◌, ◌++◌, length, Option, Some, None, if◌then◌else◌}
use Rattle.bds_value.specs.declared.value.At.{At}
use Rattle.bds_value.specs.declared.value.Ty.{Ty}
use Rattle.bds_value.specs.Options.{◌>>=◌}
use Rattle.bds_tree.specs.declared.token.Word.{Word}
use Rattle.bds_tree.specs.declared.token.Word.TheVariants as w
use Rattle.bds_tree.specs.declared.token.Token.{Token}
use Rattle.bds_tree.specs.declared.stmt.Body.{Body}
use Rattle.bds_tree.specs.declared.stmt.Body.TheVariants as body_form
use Rattle.bds_tree.specs.declared.stmt.Command.{Command}
use Rattle.bds_tree.specs.Tree.{Tree}
use Rattle.bds_tree.specs.StmtTree.{SuffixTree, at_index, at_key, PlaceTree, step_after, step_before, SmallFormTree, small_declare, small_infer, small_assign, small_update, small_step, small_call, SmallTree, setting_named, setting_plain, SettingTree, StmtTree, LineTree, RightTree, ActTree, BlockTree, stmt, inner_block, empty, line, when, while, for, each, declare, infer, assign, update, step, call_line, print, println, error, exit, break, continue, return, wait, checkpoint, act_line, right_expr, right_act, act, sys, task as task_form, dep, goal, par_call, par_block, block as block_tree, no_stmt, a_stmt, to_stmts, to_maybe_right, switch, CaseTree, a_case, to_cases}
use Rattle.bds_tree.specs.StmtShape.{is_call, is_empty_stmt}
use Rattle.bds_tree.specs.StmtSpelling.{line_ends_in_brace}
use Rattle.bds_parse_expr.specs.Reading.{Read, behind, name_at, members, is_close_round, expression, line_ahead}
use Rattle.bds_parse_stmt_parts.specs.declared.words.Sign.TheVariants as s
use Rattle.bds_parse_stmt_parts.specs.declared.words.HeadKind.{HeadKind}
use Rattle.bds_parse_stmt_parts.specs.declared.words.HeadKind.TheVariants as head_kinds
use Rattle.bds_parse_stmt_parts.specs.declared.words.PlaceSign.{PlaceSign}
use Rattle.bds_parse_stmt_parts.specs.declared.words.PlaceSign.TheVariants as place_signs
use Rattle.bds_parse_stmt_parts.specs.declared.words.LineKind.{LineKind}
use Rattle.bds_parse_stmt_parts.specs.declared.words.LineKind.TheVariants as line_kinds
use Rattle.bds_parse_stmt_parts.specs.declared.words.StmtKind.{StmtKind}
use Rattle.bds_parse_stmt_parts.specs.declared.words.StmtKind.TheVariants as stmt_kinds
use Rattle.bds_parse_stmt_parts.specs.Words.{is_sign, is_act, head_kind, place_sign, line_kind, stmt_kind, sign_ahead, nothing_ahead, end_ahead, line_end}
use Rattle.bds_parse_stmt_parts.specs.Types.{type_at}
use Rattle.bds_parse_stmt_parts.specs.Heads.{HeadTree, declares, infers, assigns, updates, steps, calls}

-- where a node stands as it is read
abbrev pub here : ℕ → At
here l = record { file = 0; line = l }

-- the next of several, or nothing where they end
abbrev pub Next : Type 0 → Type 0
Next A = List Token → Option (Option (A × List Token))

abbrev pub many_by : {A : Type 0} → (List Token → Read (List A)) → List Token → Option (A × List Token) → Read (List A)
many_by go ts None = Some ([], ts)
many_by go ts (Some x) = go x.1 >>= λ xs. Some (x.0 ∷ xs.0, xs.1)

unfoldable pub many : {A : Type 0} → Next A → ℕ → List Token → Read (List A)
many next zero ts = next ts >>= many_by (λ us. None) ts
many next (suc n) ts = next ts >>= many_by (many next n) ts

-- several behind those that are read already
abbrev pub many_onto : {A : Type 0} → Next A → List A → List Token → Read (List A)
many_onto next xs ts = many next (length ts) ts >>= λ ys. Some (xs ++ ys.0, ys.1)

abbrev pub suffix_by : ℕ → Word → List Token → Option (Option (SuffixTree × List Token))
suffix_by most w.OpenSquare ts = expression most 1 ts >>= λ e. behind (is_sign s.CloseSquare) e.1 >>= λ rest. Some (Some (at_index e.0, rest))
suffix_by most w.OpenValue ts = expression most 1 ts >>= λ e. behind (is_sign s.CloseValue) e.1 >>= λ rest. Some (Some (at_key e.0, rest))
suffix_by most _ ts = Some None

abbrev pub next_suffix : ℕ → Next SuffixTree
next_suffix most [] = Some None
next_suffix most (t ∷ ts) = suffix_by most t.word ts

abbrev pub place : ℕ → List Token → Read PlaceTree
place most ts = name_at ts >>= λ n. many_onto (next_suffix most) [] n.1 >>= λ ss. Some (record { at = here (line_ahead ts); name = n.0; suffixes = ss.0 }, ss.1)

abbrev pub infer_by : List ℕ → List SuffixTree → List Token → Read HeadTree
infer_by n [] ts = Some (infers n, ts)
infer_by n (_ ∷ _) ts = None

abbrev pub placed_by : PlaceTree → PlaceSign → List Token → Read HeadTree
placed_by p place_signs.Infer ts = infer_by p.name p.suffixes ts
placed_by p place_signs.Assign ts = Some (assigns p, ts)
placed_by p (place_signs.Update o) ts = Some (updates p o, ts)
placed_by p (place_signs.Step o) ts = Some (steps (step_after p o), ts)
placed_by p place_signs.Other ts = None

abbrev pub sign_behind : PlaceTree → List Token → Read HeadTree
sign_behind p [] = None
sign_behind p (t ∷ ts) = placed_by p (place_sign t.word) ts

-- a place with the sign behind it
abbrev pub placed : ℕ → List Token → Read HeadTree
placed most ts = place most ts >>= λ p. sign_behind p.0 p.1

abbrev pub called : ℕ → List Token → Read HeadTree
called most ts = expression most 1 ts >>= λ e. if is_call e.0 then Some (calls e.0, e.1) else None

abbrev pub or_else : {A : Type 0} → Option A → Option A → Option A
or_else None y = y
or_else (Some x) y = Some x

abbrev pub named : ℕ → List Token → Read HeadTree
named most ts = or_else (placed most ts) (called most ts)

abbrev pub declared : ℕ → List Token → Read HeadTree
declared most ts = type_at most ts >>= λ t. name_at t.1 >>= λ n. Some (declares t.0 n.0, n.1)

abbrev pub head_by : ℕ → HeadKind → List Token → List Token → Read HeadTree
head_by most head_kinds.Type all ts = declared most all
head_by most (head_kinds.Step o) all ts = place most ts >>= λ p. Some (steps (step_before o p.0), p.1)
head_by most head_kinds.Name all ts = named most all
head_by most head_kinds.Other all ts = called most all

abbrev pub head : ℕ → List Token → Read HeadTree
head most [] = None
head most (t ∷ ts) = head_by most (head_kind t.word) (t ∷ ts) ts

abbrev pub maybe_expr : ℕ → List Token → Read (Option Tree)
maybe_expr most ts = if nothing_ahead ts then Some (None, ts) else (expression most 1 ts >>= λ e. Some (Some e.0, e.1))

abbrev pub start_expr : ℕ → List Token → Read (Option Tree)
start_expr most ts = if sign_ahead s.Assign ts then (behind (is_sign s.Assign) ts >>= λ a. expression most 1 a >>= λ e. Some (Some e.0, e.1)) else Some (None, ts)

abbrev pub small_by_head : ℕ → HeadTree → List Token → Read SmallFormTree
small_by_head most (declares t n) ts = start_expr most ts >>= λ e. Some (small_declare t n e.0, e.1)
small_by_head most (infers n) ts = expression most 1 ts >>= λ e. Some (small_infer n e.0, e.1)
small_by_head most (assigns p) ts = expression most 1 ts >>= λ e. Some (small_assign p e.0, e.1)
small_by_head most (updates p o) ts = expression most 1 ts >>= λ e. Some (small_update p o e.0, e.1)
small_by_head most (steps x) ts = Some (small_step x, ts)
small_by_head most (calls e) ts = Some (small_call e, ts)

abbrev pub small : ℕ → List Token → Read SmallTree
small most ts = head most ts >>= λ h. small_by_head most h.0 h.1 >>= λ f. Some (record { at = here (line_ahead ts); form = f.0 }, f.1)

abbrev pub maybe_small : ℕ → List Token → Read (Option SmallTree)
maybe_small most ts = if nothing_ahead ts then Some (None, ts) else (small most ts >>= λ x. Some (Some x.0, x.1))

abbrev pub setting_second : List ℕ → Word → List Token → Option (List ℕ × List Token)
setting_second n w.Declare ts = Some (n, ts)
setting_second n _ ts = None

abbrev pub setting_first : Word → Word → List Token → Option (List ℕ × List Token)
setting_first (w.Name n) v ts = setting_second n v ts
setting_first _ v ts = None

-- the name before a `:=`
abbrev pub setting_name : List Token → Option (List ℕ × List Token)
setting_name [] = None
setting_name (t ∷ []) = None
setting_name (t ∷ u ∷ ts) = setting_first t.word u.word ts

abbrev pub setting_by : ℕ → List Token → Option (List ℕ × List Token) → Read SettingTree
setting_by most ts (Some n) = expression most 1 n.1 >>= λ e. Some (record { at = here (line_ahead ts); form = setting_named n.0 e.0 }, e.1)
setting_by most ts None = expression most 1 ts >>= λ e. Some (record { at = here (line_ahead ts); form = setting_plain e.0 }, e.1)

abbrev pub setting : ℕ → List Token → Read SettingTree
setting most ts = setting_by most ts (setting_name ts)

abbrev pub next_setting : ℕ → Next SettingTree
next_setting most ts = if sign_ahead s.Comma ts then (behind (is_sign s.Comma) ts >>= λ a. setting most a >>= λ x. Some (Some x)) else Some None

abbrev pub settings_in : ℕ → List Token → Read (List SettingTree)
settings_in most ts =
    if sign_ahead s.CloseRound ts then (behind (is_sign s.CloseRound) ts >>= λ rest. Some ([], rest))
    else (setting most ts >>= λ x. many_onto (next_setting most) (x.0 ∷ []) x.1 >>= λ xs. behind (is_sign s.CloseRound) xs.1 >>= λ rest. Some (xs.0, rest))

abbrev pub settings : ℕ → List Token → Read (List SettingTree)
settings most ts = behind (is_sign s.OpenRound) ts >>= settings_in most

abbrev pub command_by : ℕ → Word → List Token → Read Command
command_by l (w.Sys ps) ts = Some (record { at = here l; text = ps }, ts)
command_by l _ ts = None

abbrev pub command : List Token → Read Command
command [] = None
command (t ∷ ts) = command_by t.line t.word ts

abbrev pub next_command : Next Command
next_command ts = if sign_ahead s.CloseBlock ts then Some None else (command ts >>= λ c. behind (is_sign s.Semicolon) c.1 >>= λ rest. Some (Some (c.0, rest)))

abbrev pub body : List Token → Read Body
body ts =
    if sign_ahead s.OpenBlock ts
    then (behind (is_sign s.OpenBlock) ts >>= λ a. many_onto next_command [] a >>= λ cs. behind (is_sign s.CloseBlock) cs.1 >>= λ rest. Some (body_form.Block cs.0, rest))
    else (command ts >>= λ c. Some (body_form.Sys c.0, c.1))

abbrev pub task : ℕ → ℕ → List Token → Read ActTree
task most l ts =
    if sign_ahead s.OpenRound ts
    then (settings most ts >>= λ os. body os.1 >>= λ b. Some (act (here l) (task_form (Some os.0) b.0), b.1))
    else (body ts >>= λ b. Some (act (here l) (task_form None b.0), b.1))

abbrev pub BlockSub : Type 0
BlockSub = List Token → Read BlockTree

abbrev pub StmtSub : Type 0
StmtSub = List Token → Read StmtTree

abbrev pub par_by : ℕ → BlockSub → ℕ → List Token → Read ActTree
par_by most block l ts =
    if sign_ahead s.OpenBlock ts then (block ts >>= λ b. Some (act (here l) (par_block b.0), b.1))
    else (name_at ts >>= λ n. behind (is_sign s.OpenRound) n.1 >>= λ a. members is_close_round (expression most) a >>= λ es. Some (act (here l) (par_call n.0 es.0), es.1))

abbrev pub act_by_word : ℕ → BlockSub → ℕ → Word → List Token → Read ActTree
act_by_word most block l (w.Sys ps) ts = Some (act (here l) (sys ps), ts)
act_by_word most block l w.Task ts = task most l ts
act_by_word most block l w.Dep ts = settings most ts >>= λ os. body os.1 >>= λ b. Some (act (here l) (dep os.0 b.0), b.1)
act_by_word most block l w.Goal ts = expression most 1 ts >>= λ e. Some (act (here l) (goal e.0), e.1)
act_by_word most block l w.Par ts = par_by most block l ts
act_by_word most block l _ ts = None

abbrev pub act_by : ℕ → BlockSub → List Token → Read ActTree
act_by most block [] = None
act_by most block (t ∷ ts) = act_by_word most block t.line t.word ts

abbrev pub act_ahead : List Token → Bool
act_ahead [] = false
act_ahead (t ∷ ts) = is_act t.word

abbrev pub right_by : ℕ → BlockSub → List Token → Read RightTree
right_by most block ts =
    if act_ahead ts then (act_by most block ts >>= λ a. Some (right_act a.0, a.1))
    else (expression most 1 ts >>= λ e. Some (right_expr e.0, e.1))

abbrev pub maybe_right : (List Token → Read RightTree) → List Token → Read (Option RightTree)
maybe_right right ts = if nothing_ahead ts then Some (None, ts) else (right ts >>= λ r. Some (Some r.0, r.1))

abbrev pub start_right : (List Token → Read RightTree) → List Token → Read (Option RightTree)
start_right right ts = if sign_ahead s.Assign ts then (behind (is_sign s.Assign) ts >>= λ a. right a >>= λ r. Some (Some r.0, r.1)) else Some (None, ts)

abbrev pub line_by_head : (List Token → Read RightTree) → HeadTree → List Token → Read LineTree
line_by_head right (declares t n) ts = start_right right ts >>= λ r. Some (declare t n (to_maybe_right r.0), r.1)
line_by_head right (infers n) ts = right ts >>= λ r. Some (infer n r.0, r.1)
line_by_head right (assigns p) ts = right ts >>= λ r. Some (assign p r.0, r.1)
line_by_head right (updates p o) ts = right ts >>= λ r. Some (update p o r.0, r.1)
line_by_head right (steps x) ts = Some (step x, ts)
line_by_head right (calls e) ts = Some (call_line e, ts)

abbrev pub line_by_kind : ℕ → BlockSub → LineKind → List Token → List Token → Read LineTree
line_by_kind most block line_kinds.Print all ts = expression most 1 ts >>= λ e. Some (print e.0, e.1)
line_by_kind most block line_kinds.Println all ts = maybe_expr most ts >>= λ e. Some (println e.0, e.1)
line_by_kind most block line_kinds.Error all ts = expression most 1 ts >>= λ e. Some (error e.0, e.1)
line_by_kind most block line_kinds.Exit all ts = expression most 1 ts >>= λ e. Some (exit e.0, e.1)
line_by_kind most block line_kinds.Break all ts = Some (break, ts)
line_by_kind most block line_kinds.Continue all ts = Some (continue, ts)
line_by_kind most block line_kinds.Return all ts = maybe_right (right_by most block) ts >>= λ r. Some (return (to_maybe_right r.0), r.1)
line_by_kind most block line_kinds.Wait all ts = maybe_expr most ts >>= λ e. Some (wait e.0, e.1)
line_by_kind most block line_kinds.Checkpoint all ts = maybe_expr most ts >>= λ e. Some (checkpoint e.0, e.1)
line_by_kind most block line_kinds.Act all ts = act_by most block all >>= λ a. Some (act_line a.0, a.1)
line_by_kind most block line_kinds.Head all ts = head most all >>= λ h. line_by_head (right_by most block) h.0 h.1

abbrev pub line_by : ℕ → BlockSub → List Token → Read LineTree
line_by most block [] = None
line_by most block (t ∷ ts) = line_by_kind most block (line_kind t.word) (t ∷ ts) ts

-- the condition of an `if` or a `while`, or the value of a `switch`
abbrev pub test : ℕ → List Token → Read Tree
test most ts = behind (is_sign s.OpenRound) ts >>= λ a. expression most 1 a >>= λ c. behind (is_sign s.CloseRound) c.1 >>= λ rest. Some (c.0, rest)

abbrev pub else_part : StmtSub → ℕ → Tree → StmtTree → List Token → Read StmtTree
else_part sub l c a ts =
    if sign_ahead s.Else ts
    then (if is_empty_stmt a then None else (behind (is_sign s.Else) ts >>= λ u. sub u >>= λ b. Some (stmt (here l) (when c a (a_stmt b.0)), b.1)))
    else Some (stmt (here l) (when c a no_stmt), ts)

abbrev pub if_form : ℕ → StmtSub → ℕ → List Token → Read StmtTree
if_form most sub l ts = test most ts >>= λ c. sub c.1 >>= λ a. else_part sub l c.0 a.0 a.1

abbrev pub while_form : ℕ → StmtSub → ℕ → List Token → Read StmtTree
while_form most sub l ts = test most ts >>= λ c. sub c.1 >>= λ a. Some (stmt (here l) (while c.0 a.0), a.1)

-- `type name :`
abbrev pub each_front : ℕ → List Token → Read (Ty × List ℕ)
each_front most ts = type_at most ts >>= λ t. name_at t.1 >>= λ n. behind (is_sign s.Colon) n.1 >>= λ rest. Some ((t.0, n.0), rest)

abbrev pub each_rest : ℕ → StmtSub → ℕ → Ty → List ℕ → List Token → Read StmtTree
each_rest most sub l t n ts = expression most 1 ts >>= λ e. behind (is_sign s.CloseRound) e.1 >>= λ a. sub a >>= λ x. Some (stmt (here l) (each t n e.0 x.0), x.1)

-- what stands between the parentheses of a `for` with two `;`
abbrev pub for_parts : ℕ → List Token → Read (Option SmallTree × Option Tree × Option SmallTree)
for_parts most ts = maybe_small most ts >>= λ f. behind (is_sign s.Semicolon) f.1 >>= λ a. maybe_expr most a >>= λ c. behind (is_sign s.Semicolon) c.1 >>= λ b. maybe_small most b >>= λ n. behind (is_sign s.CloseRound) n.1 >>= λ rest. Some ((f.0, c.0, n.0), rest)

abbrev pub for_rest : ℕ → StmtSub → ℕ → List Token → Read StmtTree
for_rest most sub l ts = for_parts most ts >>= λ p. sub p.1 >>= λ x. Some (stmt (here l) (for p.0.0 p.0.1 p.0.2 x.0), x.1)

abbrev pub for_by : ℕ → StmtSub → ℕ → List Token → Read (Ty × List ℕ) → Read StmtTree
for_by most sub l ts (Some f) = each_rest most sub l f.0.0 f.0.1 f.1
for_by most sub l ts None = for_rest most sub l ts

abbrev pub for_form : ℕ → StmtSub → ℕ → List Token → Read StmtTree
for_form most sub l ts = behind (is_sign s.OpenRound) ts >>= λ a. for_by most sub l a (each_front most a)

-- the next statement of a block or of a case, unless they end
abbrev pub next_stmt : StmtSub → Next StmtTree
next_stmt sub ts = if end_ahead ts then Some None else (sub ts >>= λ x. Some (Some x))

-- `default :`
abbrev pub default_label : List Token → Read (Option Tree)
default_label ts = behind (is_sign s.Default) ts >>= λ a. behind (is_sign s.CaseColon) a >>= λ rest. Some (None, rest)

-- `case label :`
abbrev pub case_label : ℕ → List Token → Read (Option Tree)
case_label most ts =
    behind (is_sign s.Case) ts
    >>= λ a. expression most 1 a
    >>= λ e. behind (is_sign s.CaseColon) e.1
    >>= λ rest. Some (Some e.0, rest)

abbrev pub label : ℕ → List Token → Read (Option Tree)
label most ts = if sign_ahead s.Default ts then default_label ts else case_label most ts

abbrev pub case_by : ℕ → StmtSub → List Token → Read CaseTree
case_by most sub ts =
    label most ts
    >>= λ l. many_onto (next_stmt sub) [] l.1
    >>= λ ss. Some (a_case (here (line_ahead ts)) l.0 (to_stmts ss.0), ss.1)

abbrev pub next_case : ℕ → StmtSub → Next CaseTree
next_case most sub ts = if sign_ahead s.CloseBlock ts then Some None else (case_by most sub ts >>= λ c. Some (Some c))

-- the cases of a `switch`, in their braces
abbrev pub cases_by : ℕ → StmtSub → List Token → Read (List CaseTree)
cases_by most sub ts =
    behind (is_sign s.OpenBlock) ts
    >>= λ a. many_onto (next_case most sub) [] a
    >>= λ cs. behind (is_sign s.CloseBlock) cs.1
    >>= λ rest. Some (cs.0, rest)

abbrev pub switch_form : ℕ → StmtSub → ℕ → List Token → Read StmtTree
switch_form most sub l ts =
    test most ts
    >>= λ e. cases_by most sub e.1
    >>= λ cs. Some (stmt (here l) (switch e.0 (to_cases cs.0)), cs.1)

abbrev pub line_form : ℕ → BlockSub → ℕ → List Token → Read StmtTree
line_form most block l ts = line_by most block ts >>= λ x. line_end (line_ends_in_brace x.0) x.1 >>= λ rest. Some (stmt (here l) (line x.0), rest)

abbrev pub statement_by_kind : ℕ → BlockSub → StmtSub → ℕ → StmtKind → List Token → List Token → Read StmtTree
statement_by_kind most block sub l stmt_kinds.Block all ts = block all >>= λ b. Some (stmt (here l) (inner_block b.0), b.1)
statement_by_kind most block sub l stmt_kinds.Empty all ts = Some (stmt (here l) empty, ts)
statement_by_kind most block sub l stmt_kinds.If all ts = if_form most sub l ts
statement_by_kind most block sub l stmt_kinds.While all ts = while_form most sub l ts
statement_by_kind most block sub l stmt_kinds.For all ts = for_form most sub l ts
statement_by_kind most block sub l stmt_kinds.Switch all ts = switch_form most sub l ts
statement_by_kind most block sub l stmt_kinds.Line all ts = line_form most block l all

abbrev pub statement_by : ℕ → BlockSub → StmtSub → List Token → Read StmtTree
statement_by most block sub [] = None
statement_by most block sub (t ∷ ts) = statement_by_kind most block sub t.line (stmt_kind t.word) (t ∷ ts) ts

abbrev pub block_by : StmtSub → List Token → Read BlockTree
block_by sub ts = behind (is_sign s.OpenBlock) ts >>= λ a. many_onto (next_stmt sub) [] a >>= λ ss. behind (is_sign s.CloseBlock) ss.1 >>= λ rest. Some (block_tree (here (line_ahead ts)) (to_stmts ss.0), rest)

-- statements and blocks that nest less than the number
unfoldable pub reads : ℕ → StmtSub × BlockSub
reads zero = (λ ts. None, λ ts. None)
reads (suc most) = (statement_by most (reads most).1 (reads most).0, block_by (reads most).0)

abbrev pub statement : ℕ → StmtSub
statement most = (reads most).0

abbrev pub block : ℕ → BlockSub
block most = (reads most).1
