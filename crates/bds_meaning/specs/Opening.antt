-- The configuration in which a typed script opens.
use Rattle.std.specs.Prelude.{ℕ, List, [], ◌∷◌, map, codes, cond}
use Rattle.bds_value.specs.declared.value.Ty.{Ty}
use Rattle.bds_value.specs.Value.{default_of}
use Rattle.bds_tree.specs.declared.stmt.Parameter.{Parameter}
use Rattle.bds_tree.specs.StmtTree.{FunctionTree, PartTree, ScriptTree, a_function, a_statement}
use Rattle.bds_check_typing.specs.WellTypedScripts.{first_names}
use Rattle.bds_check_names.specs.declared.names.Names.{Names}
use Rattle.bds_check_names.specs.declared.names.Variable.{Variable}
use Rattle.bds_check_names.specs.Scopes.{variable, declare_in, with_locals, top, in_function}
use Rattle.bds_check_names.specs.Types.{is_known}
use Rattle.bds_meaning.specs.Acts.{Code}
use Rattle.bds_schedule.specs.Configuration.{Ready, at_point}
use Rattle.bds_meaning.specs.OpeningStatements.{behind, stmt_term, block_term}
use Rattle.bds_meaning.specs.Run.{Program, Conf}
use Rattle.bds_meaning.specs.Step.{Function}
use Rattle.bds_meaning.specs.Term.{Term, Constant, Nothing, Then, Declare, Return}
use Rattle.bds_schedule.specs.Values.{of_texts}
use Rattle.bds_meaning.specs.Variables.{Bindings, global}

-- The names in force, as they are to the checker

abbrev pub args_name : List ℕ
args_name = codes "args"

abbrev pub behind_part : Names → PartTree → Names
behind_part names (a_statement s) = behind names top s
behind_part names _ = names

abbrev pub behind_parts : Names → List PartTree → Names
behind_parts names [] = names
behind_parts names (p ∷ ps) = behind_parts (behind_part names p) ps

-- all globals of a script; in the body of a function all of them are in force
abbrev pub all_names : List PartTree → Names
all_names ps = behind_parts (first_names ps) ps

abbrev pub parameters_of : List Variable → List Parameter → List Variable
parameters_of locals [] = locals
parameters_of locals (p ∷ ps) = parameters_of (declare_in 0 (variable p.name p.ty) locals) ps

-- Terms

-- what a function returns whose code comes to its end
abbrev pub last_return : Ty → Term
last_return t = Return (cond (is_known t) (Constant (default_of t)) Nothing)

-- no variable of a function is set before the run
abbrev pub function_of : Names → FunctionTree → Function
function_of names f = record {
  name = f.name;
  parameters = map (λ (p : Parameter). p.name) f.parameters;
  body = Then (block_term [] (with_locals names (parameters_of [] f.parameters)) (in_function f.result) f.body) (last_return f.result);
}

abbrev pub functions_of : Names → List PartTree → List Function
functions_of names [] = []
functions_of names (a_function f ∷ ps) = function_of names f ∷ functions_of names ps
functions_of names (p ∷ ps) = functions_of names ps

-- the functions of a script, and the path of each of its files
abbrev pub program_of : ScriptTree → Program
program_of script = record { files = script.files; functions = functions_of (all_names script.parts) script.parts }

-- the statements of the top level, where these values of globals are set before the run
abbrev pub parts_term : Bindings → Names → List PartTree → Term
parts_term settings names [] = Nothing
parts_term settings names (a_statement s ∷ ps) = Then (stmt_term settings names top s) (parts_term settings (behind names top s) ps)
parts_term settings names (p ∷ ps) = parts_term settings names ps

-- each global at its default, in the order of declaration
abbrev pub globals_of : List PartTree → Bindings
globals_of ps = map (λ (v : Variable). (v.name, default_of v.ty)) (all_names ps).globals

-- the main thread's term: `args` is declared first
abbrev pub source_term : Bindings → List (List ℕ) → ScriptTree → Term
source_term settings args script = Then (Declare global args_name (Constant (of_texts args))) (parts_term settings (first_names script.parts) script.parts)

abbrev pub source_code : Bindings → List (List ℕ) → ScriptTree → Code
source_code settings args script = record { variables = record { globals = globals_of script.parts; locals = [] }; term = source_term settings args script }

-- the main thread alone, ready, at a point; no task, no rule, and no tick used
abbrev pub opening : List ℕ → ℕ → ℕ → Bindings → List (List ℕ) → ScriptTree → Conf
opening path cpus budget settings args script =
    record { path = path; cpus = cpus; budget = budget; used = 0; threads = record { parent = 0; life = Ready (source_code settings args script) } ∷ []; tasks = []; rules = []; mode = at_point }
