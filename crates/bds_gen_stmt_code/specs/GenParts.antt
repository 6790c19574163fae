-- For private contracts alone: places that are changed, calls and the parts of a `for`, in the order of the writing. Here the last operand stands at the end.
use Rattle.std.specs.Prelude.{ℕ, pos, Bool, Option, Some, None, List, [], ◌∷◌, ◌++◌, if◌then◌else◌}
use Rattle.bds_value.specs.Methods.{signature_of}
use Rattle.bds_value.specs.declared.change_numbers.TheConstants.{ASSIGN}
use Rattle.bds_value.specs.declared.methods.Method.{Method}
use Rattle.bds_value.specs.declared.methods.Method.TheVariants as by
use Rattle.bds_value.specs.declared.value.At.{At}
use Rattle.bds_value.specs.declared.value.Ty.{Ty}
use Rattle.bds_tree.specs.Tree.{Tree, FormTree, Trees, node, item, key, method, type_of}
use Rattle.bds_tree.specs.StmtTree.{SuffixTree, at_index, at_key, PlaceTree, StepTree, SmallFormTree, small_declare, small_infer, small_assign, small_update, small_step, small_call, SmallTree}
use Rattle.bds_code.specs.UpdateRows.{step_ty}
use Rattle.bds_code.specs.declared.instr.Instr.{Instr}
use Rattle.bds_code.specs.declared.instr.Instr.TheVariants.{PushInt, PushDefault, Drop, Update}
use Rattle.bds_code.specs.declared.unit.Function.{Function}
use Rattle.bds_check_names.specs.Types.{is_known}
use Rattle.bds_check_rules.specs.StmtBreaks.{stepped}
use Rattle.bds_check_rules.specs.Typing.{count as tree_count}
use Rattle.bds_gen_expr.specs.Gen.{act, gen, gen_all}
use Rattle.bds_gen_expr.specs.Scope.{place_of, is_global_at, number_at}
use Rattle.bds_gen_expr.specs.declared.scope.Scope.{Scope}
use Rattle.bds_gen_stmt.specs.PlaceCode.{kind_of, kinds_of, change_number, step_number, step_op_of, steps_of, variable_of}
use Rattle.bds_gen_stmt_code.specs.Bodies.{in_body, with_local}
use Rattle.bds_gen_stmt_code.specs.declared.body.Body.{Body}

-- what steps leave above these operands
abbrev pub steps_above : List Bool → List Ty → List Ty
steps_above [] s = s
steps_above (k ∷ ks) s = steps_above ks (s ++ step_ty k ∷ [])

abbrev pub update_of : Scope → List ℕ → List Bool → ℕ → Instr
update_of sc x kinds what = Update (is_global_at (place_of sc x)) (number_at (place_of sc x)) kinds what

abbrev pub gen_suffix : SuffixTree → Scope → List Ty → Function → Function
gen_suffix (at_index e) sc s f = gen e sc s f
gen_suffix (at_key e) sc s f = gen e sc s f

abbrev pub gen_suffixes : List SuffixTree → Scope → List Ty → Function → Function
gen_suffixes [] sc s f = f
gen_suffixes (x ∷ xs) sc s f = gen_suffixes xs sc (s ++ step_ty (kind_of x) ∷ []) (gen_suffix x sc s f)

-- one more or one less
abbrev pub gen_step : StepTree → At → Scope → Function → Function
gen_step x at sc f =
    act (act (gen_suffixes (stepped x).suffixes sc [] f) at (PushInt (pos 1))) at (update_of sc (stepped x).name (kinds_of (stepped x)) (step_number (step_op_of x)))

-- a place that takes the value of an expression
abbrev pub gen_change : PlaceTree → ℕ → Tree → At → Scope → Function → Function
gen_change q what e at sc f = act (gen e sc (steps_above (kinds_of q) []) (gen_suffixes q.suffixes sc [] f)) at (update_of sc q.name (kinds_of q) what)

abbrev mutual
  -- the steps of a place that is a receiver
  pub gen_steps : Tree → Scope → List Ty → Function → Function
  gen_steps (node at t f) sc s g = gen_form_steps f sc s g

  pub gen_form_steps : FormTree → Scope → List Ty → Function → Function
  gen_form_steps (item a i) sc s g = gen i sc (steps_above (steps_of a) s) (gen_steps a sc s g)
  gen_form_steps (key a k) sc s g = gen k sc (steps_above (steps_of a) s) (gen_steps a sc s g)
  gen_form_steps _ sc s g = g

-- a call whose result isn't used
abbrev pub gen_dropped : Tree → At → Scope → Function → Function
gen_dropped e at sc f = (if is_known (type_of e) then act (gen e sc [] f) at Drop else gen e sc [] f)

abbrev pub gen_changed : Option Method → Tree → Tree → Trees → At → Scope → Function → Function
gen_changed (Some (by.Change n)) e a es at sc f = act (gen_all es sc (steps_above (steps_of a) []) (gen_steps a sc [] f)) at (update_of sc (variable_of a) (steps_of a) n)
gen_changed _ e a es at sc f = gen_dropped e at sc f

abbrev pub gen_call : Tree → At → Scope → Function → Function
gen_call (node place t (method a m es)) at sc f = gen_changed (signature_of (type_of a) m (tree_count es)) (node place t (method a m es)) a es at sc f
gen_call e at sc f = gen_dropped e at sc f

abbrev pub gen_small_form : SmallFormTree → At → Body → Body
gen_small_form (small_declare t x None) at b = with_local (in_body b (act b.function at (PushDefault t))) at x t
gen_small_form (small_declare t x (Some e)) at b = with_local (in_body b (gen e b.scope [] b.function)) at x t
gen_small_form (small_infer x e) at b = with_local (in_body b (gen e b.scope [] b.function)) at x (type_of e)
gen_small_form (small_assign q e) at b = in_body b (gen_change q ASSIGN e at b.scope b.function)
gen_small_form (small_update q o e) at b = in_body b (gen_change q (change_number o) e at b.scope b.function)
gen_small_form (small_step x) at b = in_body b (gen_step x at b.scope b.function)
gen_small_form (small_call e) at b = in_body b (gen_call e at b.scope b.function)

abbrev pub gen_small : Option SmallTree → Body → Body
gen_small None b = b
gen_small (Some x) b = gen_small_form x.form x.at b
