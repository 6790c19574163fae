-- The unit of a typed script: its first function is the top level. Words give values to globals and to `args`.
use Rattle.std.specs.Prelude.{ℕ, suc, ◌+◌, true, Option, Some, None, List, [], ◌∷◌, ◌++◌, map, length, codes}
use Rattle.bds_value.specs.declared.value.At.{At}
use Rattle.bds_value.specs.declared.value.Ty.TheVariants as ty
use Rattle.bds_value.specs.declared.value.Value.{Value, out-Value}
use Rattle.bds_value.specs.declared.value.Value.TheOpen.{Value-F}
use Rattle.bds_tree.specs.declared.stmt.Parameter.{Parameter}
use Rattle.bds_tree.specs.StmtTree.{StmtTree, StmtFormTree, LineTree, stmt, line, PartTree, ScriptTree, a_function, an_include, a_statement}
use Rattle.bds_code.specs.declared.instr.Instr.{Instr}
use Rattle.bds_code.specs.declared.instr.Instr.TheVariants.{PushBool, PushInt, PushText, PushDefault, MakeList, StoreGlobal}
use Rattle.bds_code.specs.declared.unit.Function.{Function}
use Rattle.bds_code.specs.declared.unit.Unit.{Unit as CodeUnit}
use Rattle.bds_check_names.specs.declared.names.Variable.{Variable}
use Rattle.bds_check_size.specs.ScriptSize.{Settings, set_for, declared_type, top_size, all_globals}
use Rattle.bds_gen_expr.specs.Marks.{Mark, does, one, written}
use Rattle.bds_gen_expr.specs.declared.scope.Numbered.{Numbered}
use Rattle.bds_gen_expr.specs.declared.scope.Scope.{Scope}
use Rattle.bds_gen_expr.specs.Numbers.{numbered, callees_from}
use Rattle.bds_gen_expr.specs.Scope.{known}
use Rattle.bds_gen_stmt.specs.Spots.{Spot, store_new}
use Rattle.bds_gen_stmt.specs.StmtCode.{behind, pars, block_pars, line_code, form_stmt_code}
use Rattle.bds_gen_stmt.specs.FunctionCode.{fresh, eight, ending, opening, function_of, par_functions, block_par_functions}

-- Names

abbrev pub function_names : List PartTree → List (List ℕ)
function_names [] = []
function_names (a_function f ∷ ps) = f.name ∷ function_names ps
function_names (an_include i ∷ ps) = function_names ps
function_names (a_statement s ∷ ps) = function_names ps

-- variables in the order of their numbers, from this one on
abbrev pub in_order : ℕ → List Variable → List Numbered
in_order n [] = []
in_order n (v ∷ vs) = record { variable = v; number = n } ∷ in_order (suc n) vs

-- the declared functions behind the top level, which no name stands for; `args` is the first global
abbrev pub first_scope : List PartTree → Scope
first_scope ps = record { locals = []; globals = numbered (codes "args") (ty.List ty.Text) 0 ∷ []; functions = callees_from 1 (function_names ps) }

-- what functions see: all globals
abbrev pub function_scope : List PartTree → Scope
function_scope ps = record { locals = []; globals = in_order 0 (all_globals ps); functions = callees_from 1 (function_names ps) }

-- The top level

abbrev pub first_spot : List PartTree → Spot
first_spot ps = record { scope = first_scope ps; next = 8; first = 0; loop = None; at_top = true }

abbrev pub behind_part : PartTree → Spot → Spot
behind_part (a_function f) sp = sp
behind_part (an_include i) sp = sp
behind_part (a_statement s) sp = behind s sp

abbrev pub behind_parts : List PartTree → Spot → Spot
behind_parts [] sp = sp
behind_parts (p ∷ ps) sp = behind_parts ps (behind_part p sp)

-- a value in one instruction, as items and values that aren't lists are
abbrev pub push_at : Value-F Value → Instr
push_at (Value-F.Bool b) = PushBool b
push_at (Value-F.Int n) = PushInt n
push_at (Value-F.Text t) = PushText t
push_at (Value-F.List t vs) = PushDefault (ty.List t)
push_at (Value-F.Map t ps) = PushDefault (ty.Map t)

abbrev pub items_code : At → List Value → List Mark
items_code at [] = []
items_code at (v ∷ vs) = does (push_at (out-Value v)) at ∷ items_code at vs

abbrev pub value_code_at : At → Value-F Value → List Mark
value_code_at at (Value-F.List t vs) = items_code at vs ++ one at (MakeList t (length vs))
value_code_at at w = one at (push_at w)

-- what makes a value that words give
abbrev pub value_code : At → Value → List Mark
value_code at v = value_code_at at (out-Value v)

-- a value that is set stands in the place of what is on the right
abbrev pub line_or_value_code : Option Value → LineTree → At → Spot → ℕ → ℕ → List Mark
line_or_value_code None l at sp n p = line_code l at sp n p
line_or_value_code (Some v) l at sp n p = value_code at v ++ store_new sp at (declared_type l)

abbrev pub top_form_code : Settings → StmtFormTree → At → Spot → ℕ → ℕ → List Mark
top_form_code ss (line l) at sp n p = line_or_value_code (set_for ss l) l at sp n p
top_form_code ss f at sp n p = form_stmt_code f at sp n p

abbrev pub top_stmt_code : Settings → StmtTree → Spot → ℕ → ℕ → List Mark
top_stmt_code ss (stmt at f) sp n p = top_form_code ss f at sp n p

abbrev pub part_pars : PartTree → ℕ
part_pars (a_statement s) = pars s
part_pars _ = 0

abbrev pub top_pars : List PartTree → ℕ
top_pars [] = 0
top_pars (p ∷ ps) = part_pars p + top_pars ps

abbrev pub top_code : Settings → List PartTree → Spot → ℕ → ℕ → List Mark
top_code ss [] sp n p = []
top_code ss (a_statement s ∷ ps) sp n p = top_stmt_code ss s sp n p ++ top_code ss ps (behind s sp) (n + pars s) (p + top_size ss s (known sp.scope))
top_code ss (_ ∷ ps) sp n p = top_code ss ps sp n p

abbrev pub top_functions : List PartTree → Spot → ℕ → List Function
top_functions [] sp n = []
top_functions (a_statement s ∷ ps) sp n = par_functions s sp n ++ top_functions ps (behind s sp) (n + pars s)
top_functions (_ ∷ ps) sp n = top_functions ps sp n

abbrev pub texts_code : At → List (List ℕ) → List Mark
texts_code at [] = []
texts_code at (t ∷ ts) = does (PushText t) at ∷ texts_code at ts

abbrev pub args_code : At → List (List ℕ) → List Mark
args_code at args = texts_code at args ++ (does (MakeList ty.Text (length args)) at ∷ does (StoreGlobal 0) at ∷ [])

-- Functions

abbrev pub parameter_locals : List Parameter → ℕ → List Numbered
parameter_locals [] n = []
parameter_locals (p ∷ ps) n = numbered p.name p.ty n ∷ parameter_locals ps (suc n)

-- the functions that are declared, where this is the number of the next function of a `par` block
abbrev pub declared_functions : List PartTree → Scope → ℕ → List Function
declared_functions [] sc n = []
declared_functions (a_function f ∷ ps) sc n =
    function_of f.name (parameter_locals f.parameters 0) f.result sc f.body n ∷ declared_functions ps sc (n + block_pars f.body)
declared_functions (_ ∷ ps) sc n = declared_functions ps sc n

-- the functions of the `par` blocks in them
abbrev pub further_functions : List PartTree → Scope → ℕ → List Function
further_functions [] sc n = []
further_functions (a_function f ∷ ps) sc n =
    block_par_functions f.body (opening sc (parameter_locals f.parameters 0)) n ++ further_functions ps sc (n + block_pars f.body)
further_functions (_ ∷ ps) sc n = further_functions ps sc n

-- The unit

-- functions of `par` blocks are numbered behind the declared ones, first those of the top level
abbrev pub first_par : List PartTree → ℕ
first_par ps = length (function_names ps) + 1

module _ (ss : Settings) (args : List (List ℕ)) (s : ScriptTree) where
  abbrev pub top_function : Function
  top_function =
      written (fresh [] [] ty.Void) (eight ++ (args_code s.at args ++ (top_code ss s.parts (first_spot s.parts) (first_par s.parts) (length args + 2) ++ ending ty.Void s.at)))

  abbrev pub unit_of : CodeUnit
  unit_of = record {
    files = s.files;
    globals = map (λ v. v.ty) (all_globals s.parts);
    functions =
        top_function
        ∷ (declared_functions s.parts (function_scope s.parts) (first_par s.parts + top_pars s.parts)
        ++ (top_functions s.parts (first_spot s.parts) (first_par s.parts) ++ further_functions s.parts (function_scope s.parts) (first_par s.parts + top_pars s.parts)));
  }
