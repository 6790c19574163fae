-- The code of places that are changed, of calls and of the parts of a `for`. The steps to a place stand below what it takes.
use Rattle.std.specs.Prelude.{ℕ, pos, ◌+◌, Bool, true, false, not, Option, Some, None, List, [], ◌∷◌, ◌++◌, map, if◌then◌else◌}
use Rattle.bds_value.specs.Methods.{signature_of}
use Rattle.bds_value.specs.declared.change_numbers.TheConstants.{ASSIGN, ADD, SUBTRACT, MULTIPLY, DIVIDE, REMAINDER}
use Rattle.bds_value.specs.declared.methods.Method.{Method}
use Rattle.bds_value.specs.declared.methods.Method.TheVariants as by
use Rattle.bds_value.specs.declared.value.At.{At}
use Rattle.bds_value.specs.declared.value.Ty.{Ty}
use Rattle.bds_tree.specs.StmtTree.{SuffixTree, at_index, at_key, PlaceTree, StepTree, step_after, step_before, SmallFormTree, small_declare, small_infer, small_assign, small_update, small_step, small_call, SmallTree}
use Rattle.bds_tree.specs.Tree.{Tree, FormTree, Trees, node, name, item, key, method, type_of}
use Rattle.bds_tree.specs.declared.stmt.StepOp.{StepOp}
use Rattle.bds_tree.specs.declared.stmt.StepOp.TheVariants as step_op
use Rattle.bds_tree.specs.declared.stmt.UpdateOp.{UpdateOp}
use Rattle.bds_tree.specs.declared.stmt.UpdateOp.TheVariants as update_op
use Rattle.bds_code.specs.UpdateRows.{step_ty}
use Rattle.bds_code.specs.declared.instr.Instr.TheVariants.{PushInt, PushDefault, Drop, Update}
use Rattle.bds_check_names.specs.Types.{is_known}
use Rattle.bds_check_rules.specs.Declarations.{declared_by_small_form, declared_by_small}
use Rattle.bds_check_rules.specs.StmtBreaks.{stepped}
use Rattle.bds_check_rules.specs.Typing.{count as tree_count}
use Rattle.bds_check_size.specs.StmtSize.{suffix_size, suffixes_size, steps_size}
use Rattle.bds_gen_expr.specs.ExprCode.{expr_code, trees_code}
use Rattle.bds_gen_expr.specs.Marks.{Mark, does, one}
use Rattle.bds_gen_expr.specs.Scope.{place_of, is_global_at, number_at, types_in}
use Rattle.bds_gen_expr.specs.declared.scope.Scope.{Scope}
use Rattle.bds_gen_stmt.specs.Spots.{Spot, local_with, store_new}

abbrev pub kind_of : SuffixTree → Bool
kind_of (at_index e) = false
kind_of (at_key e) = true

abbrev pub suffix_code : SuffixTree → Scope → ℕ → List Ty → List Mark
suffix_code (at_index e) sc p s = expr_code e sc p s
suffix_code (at_key e) sc p s = expr_code e sc p s

-- the steps of a place; nothing is read yet
abbrev pub suffixes_code : List SuffixTree → Scope → ℕ → List Ty → List Mark
suffixes_code [] sc p s = []
suffixes_code (x ∷ xs) sc p s = suffix_code x sc p s ++ suffixes_code xs sc (p + suffix_size (types_in sc) x) (step_ty (kind_of x) ∷ s)

abbrev pub steps_below : List Bool → List Ty → List Ty
steps_below [] s = s
steps_below (k ∷ ks) s = steps_below ks (step_ty k ∷ s)

abbrev pub changes_place : Scope → At → List ℕ → List Bool → ℕ → List Mark
changes_place sc at x kinds what = one at (Update (is_global_at (place_of sc x)) (number_at (place_of sc x)) kinds what)

abbrev pub kinds_of : PlaceTree → List Bool
kinds_of p = map kind_of p.suffixes

abbrev pub change_number : UpdateOp → ℕ
change_number update_op.Add = ADD
change_number update_op.Sub = SUBTRACT
change_number update_op.Mul = MULTIPLY
change_number update_op.Div = DIVIDE
change_number update_op.Rem = REMAINDER

abbrev pub step_number : StepOp → ℕ
step_number step_op.Increment = ADD
step_number step_op.Decrement = SUBTRACT

abbrev pub step_op_of : StepTree → StepOp
step_op_of (step_after p o) = o
step_op_of (step_before o p) = o

abbrev pub step_code : StepTree → At → Scope → ℕ → List Mark
step_code x at sc p =
    suffixes_code (stepped x).suffixes sc p []
    ++ (does (PushInt (pos 1)) at ∷ changes_place sc at (stepped x).name (kinds_of (stepped x)) (step_number (step_op_of x)))

abbrev mutual
  -- the steps of a place that is a receiver
  pub steps_code : Tree → Scope → ℕ → List Ty → List Mark
  steps_code (node at t f) sc p s = form_steps_code f sc p s

  pub form_steps_code : FormTree → Scope → ℕ → List Ty → List Mark
  form_steps_code (item a i) sc p s = steps_code a sc p s ++ expr_code i sc (p + steps_size (types_in sc) a) (steps_below (steps_of a) s)
  form_steps_code (key a k) sc p s = steps_code a sc p s ++ expr_code k sc (p + steps_size (types_in sc) a) (steps_below (steps_of a) s)
  form_steps_code _ sc p s = []

  pub steps_of : Tree → List Bool
  steps_of (node at t f) = form_steps_of f

  pub form_steps_of : FormTree → List Bool
  form_steps_of (item a i) = steps_of a ++ false ∷ []
  form_steps_of (key a k) = steps_of a ++ true ∷ []
  form_steps_of _ = []

  pub variable_of : Tree → List ℕ
  variable_of (node at t f) = form_variable_of f

  pub form_variable_of : FormTree → List ℕ
  form_variable_of (name x) = x
  form_variable_of (item a i) = variable_of a
  form_variable_of (key a k) = variable_of a
  form_variable_of _ = []

-- a call whose result isn't used
abbrev pub dropped_code : Tree → At → Scope → ℕ → List Mark
dropped_code e at sc p = expr_code e sc p [] ++ (if not (is_known (type_of e)) then [] else one at Drop)

abbrev pub changed_code : Option Method → Tree → Tree → Trees → At → Scope → ℕ → List Mark
changed_code (Some (by.Change n)) e a es at sc p =
    steps_code a sc p [] ++ (trees_code es sc (p + steps_size (types_in sc) a) (steps_below (steps_of a) []) ++ changes_place sc at (variable_of a) (steps_of a) n)
changed_code _ e a es at sc p = dropped_code e at sc p

abbrev pub call_code : Tree → At → Scope → ℕ → List Mark
call_code (node place t (method a m es)) at sc p = changed_code (signature_of (type_of a) m (tree_count es)) (node place t (method a m es)) a es at sc p
call_code e at sc p = dropped_code e at sc p

abbrev pub small_form_code : SmallFormTree → At → Spot → ℕ → List Mark
small_form_code (small_declare t x None) at sp p = does (PushDefault t) at ∷ store_new sp at t
small_form_code (small_declare t x (Some e)) at sp p = expr_code e sp.scope p [] ++ store_new sp at t
small_form_code (small_infer x e) at sp p = expr_code e sp.scope p [] ++ store_new sp at (type_of e)
small_form_code (small_assign q e) at sp p =
    suffixes_code q.suffixes sp.scope p []
    ++ (expr_code e sp.scope (p + suffixes_size (types_in sp.scope) q.suffixes) (steps_below (kinds_of q) []) ++ changes_place sp.scope at q.name (kinds_of q) ASSIGN)
small_form_code (small_update q o e) at sp p =
    suffixes_code q.suffixes sp.scope p []
    ++ (expr_code e sp.scope (p + suffixes_size (types_in sp.scope) q.suffixes) (steps_below (kinds_of q) []) ++ changes_place sp.scope at q.name (kinds_of q) (change_number o))
small_form_code (small_step x) at sp p = step_code x at sp.scope p
small_form_code (small_call e) at sp p = call_code e at sp.scope p

abbrev pub small_code : Option SmallTree → Spot → ℕ → List Mark
small_code None sp p = []
small_code (Some x) sp p = small_form_code x.form x.at sp p

abbrev pub behind_small_form : SmallFormTree → Spot → Spot
behind_small_form x sp = local_with sp (declared_by_small_form x)

abbrev pub behind_small : Option SmallTree → Spot → Spot
behind_small x sp = local_with sp (declared_by_small x)
