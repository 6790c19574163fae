-- The functions of blocks: those that are declared, and those of `par` blocks.
use Rattle.std.specs.Prelude.{ℕ, suc, ◌+◌, false, not, None, List, [], ◌∷◌, ◌++◌, map, length, if◌then◌else◌}
use Rattle.bds_value.specs.declared.value.At.{At}
use Rattle.bds_value.specs.declared.value.Ty.{Ty}
use Rattle.bds_value.specs.declared.value.Ty.TheVariants as ty
use Rattle.bds_tree.specs.StmtTree.{StmtTree, StmtFormTree, LineTree, RightTree, ActTree, ActFormTree, BlockTree, StmtTrees, stmt, inner_block, empty, line, when, while, for, each, declare, infer, assign, update, return, act_line, right_expr, right_act, act, par_block, block, no_stmts, more_stmts, no_stmt, a_stmt, a_right, switch, CaseTrees, CaseTree, no_cases, more_cases, a_case}
use Rattle.bds_code.specs.declared.instr.Instr.TheVariants.{PushDefault, Return}
use Rattle.bds_code.specs.declared.unit.Function.{Function}
use Rattle.bds_check_names.specs.Slots.{slots, case_slots}
use Rattle.bds_check_names.specs.Types.{is_known}
use Rattle.bds_gen_expr.specs.Marks.{Mark, does, slot, one, written}
use Rattle.bds_gen_expr.specs.Numbers.{visible_locals}
use Rattle.bds_gen_expr.specs.declared.scope.Numbered.{Numbered}
use Rattle.bds_gen_expr.specs.declared.scope.Scope.{Scope}
use Rattle.bds_gen_stmt.specs.PlaceCode.{behind_small}
use Rattle.bds_gen_stmt.specs.Spots.{Spot, inner, behind_slots, declared_local}
use Rattle.bds_gen_stmt.specs.StmtCode.{behind, pars, case_pars, block_code}

abbrev pub fresh : List ℕ → List Ty → Ty → Function
fresh x params ret = record { name = x; params = params; locals = []; ret = ret; code = []; labels = []; lines = [] }

-- the slots that tasks need: outputs, inputs, cpus, whether it may fail, retries, name, whether it is needed, and a spare one
abbrev pub eight : List Mark
eight =
    slot (ty.List ty.Text) ∷ slot (ty.List ty.Text) ∷ slot ty.Int ∷ slot ty.Bool ∷ slot ty.Int ∷ slot ty.Text ∷ slot ty.Bool ∷ slot ty.Text ∷ []

abbrev pub ending : Ty → At → List Mark
ending ret at = if not (is_known ret) then one at Return else does (PushDefault ret) at ∷ does Return at ∷ []

-- the same variables, numbered from here on
abbrev pub renumbered : List Numbered → ℕ → List Numbered
renumbered [] n = []
renumbered (l ∷ ls) n = record l { number = n } ∷ renumbered ls (suc n)

-- the beginning of a function whose parameters are these variables, in this order
abbrev pub opening : Scope → List Numbered → Spot
opening sc ls = record {
  scope = record { locals = renumbered ls 0; globals = sc.globals; functions = sc.functions };
  next = length ls + 8;
  first = length ls;
  loop = None;
  at_top = false;
}

abbrev pub types_of : List Numbered → List Ty
types_of ls = map (λ l. l.variable.ty) ls

abbrev pub at_of_block : BlockTree → At
at_of_block (block at ss) = at

abbrev pub function_of : List ℕ → List Numbered → Ty → Scope → BlockTree → ℕ → Function
function_of x ls ret sc b n = written (fresh x (types_of ls) ret) (eight ++ (block_code b (opening sc ls) n 0 ++ ending ret (at_of_block b)))

abbrev mutual
  -- the functions of the `par` blocks in it, by their numbers
  pub par_functions : StmtTree → Spot → ℕ → List Function
  par_functions (stmt at f) sp n = form_par_functions f sp n

  pub form_par_functions : StmtFormTree → Spot → ℕ → List Function
  form_par_functions (inner_block b) sp n = block_par_functions b (inner sp) n
  form_par_functions empty sp n = []
  form_par_functions (line l) sp n = line_par_functions l sp n
  form_par_functions (when c then_part no_stmt) sp n = par_functions then_part (inner sp) n
  form_par_functions (when c then_part (a_stmt else_part)) sp n =
      par_functions then_part (inner sp) n ++ par_functions else_part (behind_slots (inner sp) (slots then_part)) (n + pars then_part)
  form_par_functions (while c s) sp n = par_functions s (inner sp) n
  form_par_functions (for first c next s) sp n = par_functions s (behind_small first (inner sp)) n
  form_par_functions (each t x e s) sp n = par_functions s (declared_local (behind_slots (inner sp) 2) x t) n
  form_par_functions (switch e cs) sp n = cases_par_functions cs (behind_slots (inner sp) 1) n

  pub cases_par_functions : CaseTrees → Spot → ℕ → List Function
  cases_par_functions no_cases sp n = []
  cases_par_functions (more_cases c cs) sp n = case_par_functions c sp n ++ cases_par_functions cs (behind_slots sp (case_slots c)) (n + case_pars c)

  pub case_par_functions : CaseTree → Spot → ℕ → List Function
  case_par_functions (a_case at l ss) sp n = stmts_par_functions ss sp n

  pub line_par_functions : LineTree → Spot → ℕ → List Function
  line_par_functions (declare t x (a_right r)) sp n = right_par_functions r sp n
  line_par_functions (infer x r) sp n = right_par_functions r sp n
  line_par_functions (assign p r) sp n = right_par_functions r sp n
  line_par_functions (update p o r) sp n = right_par_functions r sp n
  line_par_functions (return (a_right r)) sp n = right_par_functions r sp n
  line_par_functions (act_line a) sp n = act_par_functions a sp n
  line_par_functions _ sp n = []

  pub right_par_functions : RightTree → Spot → ℕ → List Function
  right_par_functions (right_expr e) sp n = []
  right_par_functions (right_act a) sp n = act_par_functions a sp n

  pub act_par_functions : ActTree → Spot → ℕ → List Function
  act_par_functions (act at f) sp n = act_form_par_functions f sp n

  -- first those within
  pub act_form_par_functions : ActFormTree → Spot → ℕ → List Function
  act_form_par_functions (par_block b) sp n =
      let ls = visible_locals sp.scope.locals in
      block_par_functions b (opening sp.scope ls) n ++ function_of [] ls ty.Void sp.scope b n ∷ []
  act_form_par_functions _ sp n = []

  pub block_par_functions : BlockTree → Spot → ℕ → List Function
  block_par_functions (block at ss) sp n = stmts_par_functions ss sp n

  pub stmts_par_functions : StmtTrees → Spot → ℕ → List Function
  stmts_par_functions no_stmts sp n = []
  stmts_par_functions (more_stmts s ss) sp n = par_functions s sp n ++ stmts_par_functions ss (behind s sp) (n + pars s)
