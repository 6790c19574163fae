-- How many instructions the unit of a typed script has: the sum over its functions, and what bounds it. Words give values to globals and to `args`.
use Rattle.std.specs.Prelude.{ℕ, ◌+◌, ◌*◌, ◌≡◌, false, not, Option, Some, None, List, [], ◌∷◌, ⊤, length, codes, if◌then◌else◌}
use Rattle.std.specs.List.{list_any}
use Rattle.std.specs.Str.{bytes_eq}
use Rattle.bds_value.specs.declared.value.Ty.{Ty}
use Rattle.bds_value.specs.declared.value.Ty.TheVariants as ty
use Rattle.bds_value.specs.declared.value.Value.{Value, out-Value}
use Rattle.bds_value.specs.declared.value.Value.TheOpen.{Value-F}
use Rattle.bds_tree.specs.declared.stmt.Parameter.{Parameter}
use Rattle.bds_tree.specs.StmtTree.{StmtTree, StmtFormTree, LineTree, stmt, line, PartTree, ScriptTree, a_function, an_include, a_statement}
use Rattle.bds_check_names.specs.declared.names.Variable.{Variable}
use Rattle.bds_check_names.specs.Scopes.{variable}
use Rattle.bds_check_names.specs.Types.{is_known}
use Rattle.bds_check_rules.specs.Declarations.{declared_by, declared_by_line}
use Rattle.bds_check_size.specs.Known.{Known, known_with_global}
use Rattle.bds_check_size.specs.StmtSize.{line_size, form_stmt_size, block_size}
use Rattle.bds_check_size.specs.ParSize.{pars_size, block_pars_size, par_locals, block_par_locals}
use Rattle.bds_check_size.specs.Nodes.{stmt_nodes, block_nodes}

-- What words set

-- names with the values that words give them
abbrev pub Settings : Type 0
Settings = List (List ℕ × Value)

abbrev pub later : Option Value → Option Value → Option Value
later (Some v) earlier = Some v
later None earlier = earlier

-- the value that is set for a name, if there is one: the last one
abbrev pub set_value : Settings → List ℕ → Option Value
set_value [] x = None
set_value (s ∷ ss) x = later (set_value ss x) (if bytes_eq s.0 x then Some s.1 else None)

abbrev pub set_for_variable : Settings → Option Variable → Option Value
set_for_variable ss None = None
set_for_variable ss (Some v) = set_value ss v.name

-- the value that is set for the global that a line declares
abbrev pub set_for : Settings → LineTree → Option Value
set_for ss l = set_for_variable ss (declared_by_line l)

abbrev pub type_or_void : Option Variable → Ty
type_or_void None = ty.Void
type_or_void (Some v) = v.ty

-- the type of the variable that a line declares
abbrev pub declared_type : LineTree → Ty
declared_type l = type_or_void (declared_by_line l)

abbrev pub items_at : Value-F Value → ℕ
items_at (Value-F.List t vs) = length vs
items_at _ = 0

-- the items of a list, and none of another value
abbrev pub items_in : Value → ℕ
items_in v = items_at (out-Value v)

abbrev pub made_at : Value-F Value → ℕ
made_at (Value-F.List t vs) = length vs + 1
made_at _ = 1

-- what makes a value: of a list each item, and the list
abbrev pub value_size : Value → ℕ
value_size v = made_at (out-Value v)

abbrev pub items_set : Settings → ℕ
items_set [] = 0
items_set (s ∷ ss) = items_in s.1 + items_set ss

-- The top level, where declarations make globals

-- a value that is set stands in the place of what is on the right
abbrev pub line_or_value_size : Option Value → LineTree → Known → ℕ
line_or_value_size None l k = line_size l k
line_or_value_size (Some v) l k = value_size v + 1

abbrev pub top_form_size : Settings → StmtFormTree → Known → ℕ
top_form_size ss (line l) k = line_or_value_size (set_for ss l) l k
top_form_size ss f k = form_stmt_size f k

abbrev pub top_size : Settings → StmtTree → Known → ℕ
top_size ss (stmt at f) k = top_form_size ss f k

abbrev pub behind_top : StmtTree → Known → Known
behind_top s k = known_with_global k (declared_by s)

abbrev pub behind_part : PartTree → Known → Known
behind_part (a_function f) k = k
behind_part (an_include i) k = k
behind_part (a_statement s) k = behind_top s k

abbrev pub behind_parts : List PartTree → Known → Known
behind_parts [] k = k
behind_parts (p ∷ ps) k = behind_parts ps (behind_part p k)

-- `args` is declared before all others
abbrev pub first_known : Known
first_known = record { locals = []; globals = variable (codes "args") (ty.List ty.Text) ∷ [] }

-- all globals, which are in force in each function
abbrev pub all_globals : List PartTree → List Variable
all_globals ps = (behind_parts ps first_known).globals

-- Functions

-- a function returns, and one with a result gives a default
abbrev pub ending_size : Ty → ℕ
ending_size ret = if not (is_known ret) then 1 else 2

abbrev pub variables_from : List Parameter → List Variable
variables_from [] = []
variables_from (p ∷ ps) = variable p.name p.ty ∷ variables_from ps

abbrev pub in_function : List Variable → List Parameter → Known
in_function gs ps = record { locals = variables_from ps; globals = gs }

-- The script

-- where these globals are seen in functions, and these variables are in force at the top
abbrev pub script_parts_size : Settings → List PartTree → List Variable → Known → ℕ
script_parts_size ss [] gs k = 0
script_parts_size ss (a_function f ∷ ps) gs k =
    block_size f.body (in_function gs f.parameters) + ending_size f.result + block_pars_size f.body (in_function gs f.parameters) + script_parts_size ss ps gs k
script_parts_size ss (an_include i ∷ ps) gs k = script_parts_size ss ps gs k
script_parts_size ss (a_statement s ∷ ps) gs k = top_size ss s k + pars_size s k + script_parts_size ss ps gs (behind_top s k)

-- the list of the words of `args`, the statements, and the return at the end
abbrev pub program_size : Settings → List (List ℕ) → ScriptTree → ℕ
program_size ss args s = length args + 3 + script_parts_size ss s.parts (all_globals s.parts) first_known

-- a function and its block are nodes
abbrev pub parts_nodes : List PartTree → ℕ
parts_nodes [] = 0
parts_nodes (a_function f ∷ ps) = 1 + block_nodes f.body + parts_nodes ps
parts_nodes (an_include i ∷ ps) = 1 + parts_nodes ps
parts_nodes (a_statement s ∷ ps) = stmt_nodes s + parts_nodes ps

-- the locals in force at each `par` block
abbrev pub parts_par_locals : List PartTree → List Variable → Known → ℕ
parts_par_locals [] gs k = 0
parts_par_locals (a_function f ∷ ps) gs k = block_par_locals f.body (in_function gs f.parameters) + parts_par_locals ps gs k
parts_par_locals (an_include i ∷ ps) gs k = parts_par_locals ps gs k
parts_par_locals (a_statement s ∷ ps) gs k = par_locals s k + parts_par_locals ps gs (behind_top s k)

-- 64, 32 for each node and each piece of a text, one for each local in force at each `par` block, and one for each item that words give
abbrev pub program_bound : Settings → List (List ℕ) → ScriptTree → ℕ
program_bound ss args s =
    64 + 32 * parts_nodes s.parts + parts_par_locals s.parts (all_globals s.parts) first_known + (length args + items_set ss)

-- The names of the globals that the top level declares

abbrev pub name_before : Option Variable → List (List ℕ) → List (List ℕ)
name_before None others = others
name_before (Some v) others = v.name ∷ others

abbrev pub global_names : List PartTree → List (List ℕ)
global_names [] = []
global_names (a_function f ∷ ps) = global_names ps
global_names (an_include i ∷ ps) = global_names ps
global_names (a_statement s ∷ ps) = name_before (declared_by s) (global_names ps)

-- no name stands there twice
abbrev pub AreDistinct : List (List ℕ) → Type 0
AreDistinct [] = ⊤
AreDistinct (x ∷ xs) = (list_any (λ y. bytes_eq x y) xs ≡ false) × AreDistinct xs
