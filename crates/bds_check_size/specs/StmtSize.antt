-- How many instructions the code of a typed statement has, in the function that it stands in: a sum over its nodes.
use Rattle.std.specs.Prelude.{ℕ, ◌+◌, Bool, true, false, not, Option, Some, None, List, [], ◌∷◌, codes, if◌then◌else◌}
use Rattle.std.specs.List.{list_any}
use Rattle.std.specs.Str.{bytes_eq}
use Rattle.bds_value.specs.declared.methods.Method.{Method}
use Rattle.bds_value.specs.declared.methods.Method.TheVariants as by
use Rattle.bds_value.specs.declared.value.Ty.{Ty}
use Rattle.bds_value.specs.Methods.{signature_of}
use Rattle.bds_tree.specs.declared.stmt.Body.{Body}
use Rattle.bds_tree.specs.declared.stmt.Command.{Command}
use Rattle.bds_tree.specs.declared.token.Piece.{Piece}
use Rattle.bds_tree.specs.Tree.{Tree, FormTree, Trees, node, item, key, method, dependency, type_of}
use Rattle.bds_tree.specs.StmtTree.{SuffixTree, at_index, at_key, SmallFormTree, small_declare, small_infer, small_assign, small_update, small_step, small_call, SmallTree, SettingFormTree, setting_named, setting_plain, SettingTree, StmtTree, StmtFormTree, LineTree, RightTree, ActTree, ActFormTree, BlockTree, StmtTrees, stmt, inner_block, empty, line, when, while, for, each, declare, infer, assign, update, step, call_line, print, println, error, exit, break, continue, return, wait, checkpoint, act_line, right_expr, right_act, act, sys, task, dep, goal, par_call, par_block, block, no_stmts, more_stmts, no_stmt, a_stmt, no_right, a_right, switch, CaseTrees, CaseTree, no_cases, more_cases, a_case}
use Rattle.bds_check_names.specs.Types.{is_known}
use Rattle.bds_check_names.specs.Slots.{visible}
use Rattle.bds_check_rules.specs.Declarations.{declared_by, declared_by_small}
use Rattle.bds_check_rules.specs.Typing.{count}
use Rattle.bds_check_rules.specs.StmtBreaks.{commands_of, any_dependency, stepped}
use Rattle.bds_check_size.specs.Known.{Known, look, with_known, known_with}
use Rattle.bds_check_size.specs.Parts.{parts_size, parts_of}
use Rattle.bds_check_size.specs.ExprSize.{expr_size, trees_size, files_size}

module _ (types : List ℕ → Option Ty) where
  -- Places and changes

  abbrev pub suffix_size : SuffixTree → ℕ
  suffix_size (at_index e) = expr_size types e
  suffix_size (at_key e) = expr_size types e

  abbrev pub suffixes_size : List SuffixTree → ℕ
  suffixes_size [] = 0
  suffixes_size (s ∷ ss) = suffix_size s + suffixes_size ss

  abbrev mutual
    -- the steps of a place that is a receiver
    pub steps_size : Tree → ℕ
    steps_size (node at t f) = form_steps_size f

    pub form_steps_size : FormTree → ℕ
    form_steps_size (item a i) = steps_size a + expr_size types i
    form_steps_size (key a k) = steps_size a + expr_size types k
    form_steps_size _ = 0

  -- a call whose result isn't used
  abbrev pub dropped_size : Tree → ℕ
  dropped_size e = expr_size types e + (if not (is_known (type_of e)) then 0 else 1)

  abbrev pub changed_size : Option Method → Tree → Tree → Trees → ℕ
  changed_size (Some (by.Change n)) e a es = steps_size a + trees_size types es + 1
  changed_size _ e a es = dropped_size e

  abbrev pub call_size : Tree → ℕ
  call_size (node at t (method a m es)) = changed_size (signature_of (type_of a) m (count es)) (node at t (method a m es)) a es
  call_size e = dropped_size e

  abbrev pub small_form_size : SmallFormTree → ℕ
  small_form_size (small_declare t x None) = 2
  small_form_size (small_declare t x (Some e)) = expr_size types e + 1
  small_form_size (small_infer x e) = expr_size types e + 1
  small_form_size (small_assign p e) = suffixes_size p.suffixes + expr_size types e + 1
  small_form_size (small_update p o e) = suffixes_size p.suffixes + expr_size types e + 1
  small_form_size (small_step s) = suffixes_size (stepped s).suffixes + 2
  small_form_size (small_call e) = call_size e

  -- Tasks

  abbrev pub pieces_size : List Piece → ℕ
  pieces_size ps = parts_size (parts_of types ps)

  abbrev pub further_commands_size : List Command → ℕ
  further_commands_size [] = 0
  further_commands_size (c ∷ cs) = 2 + pieces_size c.text + 1 + further_commands_size cs

  abbrev pub commands_size : List Command → ℕ
  commands_size [] = 0
  commands_size (c ∷ cs) = pieces_size c.text + further_commands_size cs

  -- a condition is joined to those before it
  abbrev pub joining_size : ℕ
  joining_size = 4

  abbrev pub plain_form_size : Bool → Tree → FormTree → ℕ
  plain_form_size of_dep e (dependency a b) = files_size types a + 1 + (files_size types b + 1) + (if of_dep then 0 else 3 + joining_size)
  plain_form_size of_dep e _ = expr_size types e + joining_size

  abbrev pub setting_size : Bool → SettingFormTree → ℕ
  setting_size of_dep (setting_named x e) = expr_size types e + 1
  setting_size of_dep (setting_plain (node at t f)) = plain_form_size of_dep (node at t f) f

  abbrev pub settings_size : Bool → List SettingTree → ℕ
  settings_size of_dep [] = 0
  settings_size of_dep (s ∷ ss) = setting_size of_dep s.form + settings_size of_dep ss

abbrev pub is_option : List ℕ → SettingFormTree → Bool
is_option x (setting_named y e) = bytes_eq x y
is_option x (setting_plain e) = false

-- an option is there
abbrev pub has_option : List ℕ → List SettingTree → Bool
has_option x ss = list_any (λ s. is_option x s.form) ss

abbrev pub is_condition : SettingFormTree → Bool
is_condition (setting_named y e) = false
is_condition (setting_plain e) = true

-- a condition or a dependency is there
abbrev pub has_condition : List SettingTree → Bool
has_condition ss = list_any (λ s. is_condition s.form) ss

abbrev pub unless_size : Bool → ℕ
unless_size there = (if there then 0 else 2)

-- what options are before any is evaluated
abbrev pub defaults_size : List SettingTree → ℕ
defaults_size ss =
    unless_size (any_dependency ss) + unless_size (any_dependency ss) + unless_size (has_option (codes "cpus") ss) + unless_size (has_option (codes "canFail") ss)
    + unless_size (has_option (codes "retry") ss) + unless_size (has_option (codes "taskName") ss)

abbrev pub task_size : (List ℕ → Option Ty) → List SettingTree → Body → ℕ
task_size types ss b =
    defaults_size ss
    + (if has_condition ss then 2 + settings_size types false ss + 2 + 6 + commands_size types (commands_of b) + 1 + 1 + 1
    else settings_size types false ss + 6 + commands_size types (commands_of b) + 1)

abbrev pub maybe_settings : Option (List SettingTree) → List SettingTree
maybe_settings None = []
maybe_settings (Some ss) = ss

-- Statements

-- the variables in force behind the first part of the head of a `for`
abbrev pub known_behind_small : Option SmallTree → Known → Known
known_behind_small s k = known_with k (declared_by_small s)

-- the variables in force behind a statement of a block
abbrev pub known_behind : StmtTree → Known → Known
known_behind s k = known_with k (declared_by s)

abbrev pub maybe_small_size : (List ℕ → Option Ty) → Option SmallTree → ℕ
maybe_small_size types None = 0
maybe_small_size types (Some s) = small_form_size types s.form

abbrev pub condition_size : (List ℕ → Option Ty) → Option Tree → ℕ
condition_size types None = 1
condition_size types (Some e) = expr_size types e

abbrev mutual
  -- in the function that it stands in; what stands in a `par` block has a function of its own
  pub stmt_size : StmtTree → Known → ℕ
  stmt_size (stmt at f) k = form_stmt_size f k

  pub form_stmt_size : StmtFormTree → Known → ℕ
  form_stmt_size (inner_block b) k = block_size b k
  form_stmt_size empty k = 0
  form_stmt_size (line l) k = line_size l k
  form_stmt_size (when c then_part no_stmt) k = expr_size (look k) c + 1 + stmt_size then_part k
  form_stmt_size (when c then_part (a_stmt else_part)) k = expr_size (look k) c + 1 + stmt_size then_part k + 1 + stmt_size else_part k
  form_stmt_size (while c s) k = 1 + expr_size (look k) c + 1 + stmt_size s k + 1
  form_stmt_size (for first c next s) k =
      maybe_small_size (look k) first + 1 + condition_size (look (known_behind_small first k)) c + 1 + stmt_size s (known_behind_small first k)
      + maybe_small_size (look (known_behind_small first k)) next + 1
  form_stmt_size (each t x e s) k = expr_size (look k) e + 13 + stmt_size s (with_known k x t) + 3
  form_stmt_size (switch e cs) k = expr_size (look k) e + 2 + labels_size (look k) cs + cases_size cs k

  -- what tests the labels
  pub labels_size : (List ℕ → Option Ty) → CaseTrees → ℕ
  labels_size types no_cases = 0
  labels_size types (more_cases c cs) = label_size types c + labels_size types cs

  pub label_size : (List ℕ → Option Ty) → CaseTree → ℕ
  label_size types (a_case at None ss) = 0
  label_size types (a_case at (Some e) ss) = expr_size types e + 4

  -- the statements of all cases
  pub cases_size : CaseTrees → Known → ℕ
  cases_size no_cases k = 0
  cases_size (more_cases c cs) k = case_size c k + cases_size cs k

  pub case_size : CaseTree → Known → ℕ
  case_size (a_case at l ss) k = stmts_size ss k

  pub line_size : LineTree → Known → ℕ
  line_size (declare t x no_right) k = 2
  line_size (declare t x (a_right r)) k = right_size r k + 1
  line_size (infer x r) k = right_size r k + 1
  line_size (assign p r) k = suffixes_size (look k) p.suffixes + right_size r k + 1
  line_size (update p o r) k = suffixes_size (look k) p.suffixes + right_size r k + 1
  line_size (step s) k = suffixes_size (look k) (stepped s).suffixes + 2
  line_size (call_line e) k = call_size (look k) e
  line_size (print e) k = expr_size (look k) e + 2
  line_size (println None) k = 2
  line_size (println (Some e)) k = expr_size (look k) e + 4
  line_size (error e) k = expr_size (look k) e + 1
  line_size (exit e) k = expr_size (look k) e + 1
  line_size break k = 1
  line_size continue k = 1
  line_size (return no_right) k = 1
  line_size (return (a_right r)) k = right_size r k + 1
  line_size (wait None) k = 1
  line_size (wait (Some e)) k = files_size (look k) e + 1
  line_size (checkpoint None) k = 1
  line_size (checkpoint (Some e)) k = expr_size (look k) e + 1
  line_size (act_line a) k = act_size a k + dropped_act_size a

  pub right_size : RightTree → Known → ℕ
  right_size (right_expr e) k = expr_size (look k) e
  right_size (right_act a) k = act_size a k

  pub act_size : ActTree → Known → ℕ
  act_size (act at f) k = act_form_size f k

  pub act_form_size : ActFormTree → Known → ℕ
  act_form_size (sys ps) k = pieces_size (look k) ps + 1
  act_form_size (task os b) k = task_size (look k) (maybe_settings os) b
  act_form_size (dep os b) k = defaults_size os + settings_size (look k) true os + 6 + commands_size (look k) (commands_of b) + 1
  act_form_size (goal e) k = files_size (look k) e + 1
  act_form_size (par_call f es) k = trees_size (look k) es + 1
  act_form_size (par_block b) k = visible k.locals + 1

  -- only `dep` leaves nothing
  pub dropped_act_size : ActTree → ℕ
  dropped_act_size (act at f) = dropped_act_form_size f

  pub dropped_act_form_size : ActFormTree → ℕ
  dropped_act_form_size (dep os b) = 0
  dropped_act_form_size _ = 1

  pub block_size : BlockTree → Known → ℕ
  block_size (block at ss) k = stmts_size ss k

  pub stmts_size : StmtTrees → Known → ℕ
  stmts_size no_stmts k = 0
  stmts_size (more_stmts s ss) k = stmt_size s k + stmts_size ss (known_behind s k)
