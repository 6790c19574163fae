-- The walk through a script, and which scripts are accepted.
use Rattle.std.specs.Prelude.{◌+◌, Bool, true, false, ◌||◌, ◌&&◌, not, is_some, Option, Some, None, List, [], ◌∷◌, ◌++◌, map, length, nat_lt, codes, ◌≡◌}
use Rattle.std.specs.List.{list_any}
use Rattle.std.specs.Str.{bytes_eq}
use Rattle.bds_value.specs.declared.TheConstants.{MAX_GLOBALS, MAX_PARAMETERS}
use Rattle.bds_value.specs.declared.value.At.{At}
use Rattle.bds_value.specs.declared.value.Ty.{Ty}
use Rattle.bds_value.specs.declared.value.Ty.TheVariants as ty
use Rattle.bds_tree.specs.declared.stmt.Parameter.{Parameter}
use Rattle.bds_tree.specs.StmtTree.{StmtTree, RightTree, BlockTree, FunctionTree, PartTree, ScriptTree, stmt, line, infer, a_function, an_include, a_statement}
use Rattle.bds_check_names.specs.declared.names.Names.{Names}
use Rattle.bds_check_names.specs.declared.names.Head.{Head}
use Rattle.bds_check_names.specs.declared.names.Variable.{Variable}
use Rattle.bds_check_names.specs.declared.names.Asked.TheVariants.{Value}
use Rattle.bds_check_rules.specs.declared.rules.Rule.{Rule}
use Rattle.bds_check_rules.specs.declared.rules.Rule.TheVariants as rule
use Rattle.bds_check_names.specs.Types.{is_known}
use Rattle.bds_check_names.specs.Scopes.{variable, declare_in, function_named, top, in_function}
use Rattle.bds_check_rules.specs.Pieces.{when as broken_if}
use Rattle.bds_check_rules.specs.Ends.{block_ends}
use Rattle.bds_check_names.specs.Slots.{block_slots, parts_slots, parts_globals, are_too_many}
use Rattle.bds_check_rules.specs.Declarations.{declared_by}
use Rattle.bds_check_rules.specs.StmtBreaks.{right_type}
use Rattle.bds_check_typing.specs.Walk.{Broken, first, placed}
use Rattle.bds_check_typing.specs.StmtParts.{JudgedBlock, JudgedStmt}
use Rattle.bds_check_typing.specs.StmtWalk.{JudgedRight, judge_block, judge_right, judge_stmt}

-- Functions and globals, which are in force in every function

abbrev pub head_of : FunctionTree → Head
head_of f = record { name = f.name; parameters = map (λ p. p.ty) f.parameters; result = f.result }

abbrev pub heads_of : List PartTree → List Head
heads_of [] = []
heads_of (a_function f ∷ ps) = head_of f ∷ heads_of ps
heads_of (an_include i ∷ ps) = heads_of ps
heads_of (a_statement s ∷ ps) = heads_of ps

-- the functions so far, behind a part
abbrev pub with_head : List Head → PartTree → List Head
with_head heads (a_function f) = heads ++ head_of f ∷ []
with_head heads (an_include i) = heads
with_head heads (a_statement s) = heads

abbrev pub names_of : List Head → List Variable → Names
names_of heads globals = record { functions = heads; globals = globals; locals = []; finding = false }

abbrev pub finding_names : List Head → List Variable → Names
finding_names heads globals = record { functions = heads; globals = globals; locals = []; finding = true }

abbrev pub type_unless_broken : RightTree → Option Broken → Ty
type_unless_broken r None = right_type r
type_unless_broken r (Some b) = ty.Void

abbrev pub found_type_of : JudgedRight → Ty
found_type_of j = type_unless_broken j.right j.broken

-- the type of a global declared by `:=`: none where a node of the declaration breaks a rule or names a global without a type
abbrev pub found_type : List Head → List Variable → RightTree → Ty
found_type heads globals r = found_type_of (judge_right r (finding_names heads globals) Value)

-- the global that a statement declares, with the type that is found
abbrev pub found_by : List Head → List Variable → StmtTree → Option Variable
found_by heads globals (stmt at (line (infer x r))) = Some (variable x (found_type heads globals r))
found_by heads globals s = declared_by s

abbrev pub globals_with : List Variable → Option Variable → List Variable
globals_with globals None = globals
globals_with globals (Some v) = declare_in 0 v globals

abbrev pub behind_stmt : List Head → List Variable → StmtTree → List Variable
behind_stmt heads globals s = globals_with globals (found_by heads globals s)

-- the globals behind a part
abbrev pub behind_part : List Head → List Variable → PartTree → List Variable
behind_part heads globals (a_function f) = globals
behind_part heads globals (an_include i) = globals
behind_part heads globals (a_statement s) = behind_stmt heads globals s

-- the globals with their types, found in the order of the text
abbrev pub globals_from : List Head → List Variable → List PartTree → List Variable
globals_from heads globals [] = globals
globals_from heads globals (p ∷ ps) = globals_from heads (behind_part heads globals p) ps

-- `args` is declared before all others
abbrev pub first_globals : List Variable
first_globals = variable (codes "args") (ty.List ty.Text) ∷ []

abbrev pub globals_of : List PartTree → List Variable
globals_of ps = globals_from (heads_of ps) first_globals ps

-- Functions

abbrev pub declare_parameters : List Variable → List Parameter → List Variable
declare_parameters locals [] = locals
declare_parameters locals (p ∷ ps) = declare_parameters (declare_in 0 (variable p.name p.ty) locals) ps

abbrev pub with_parameters : Names → List Parameter → Names
with_parameters names ps = record { functions = names.functions; globals = names.globals; locals = declare_parameters [] ps; finding = names.finding }

abbrev pub any_twice : List Parameter → Bool
any_twice [] = false
any_twice (p ∷ ps) = list_any (λ q. bytes_eq q.name p.name) ps || any_twice ps

-- the least rule that a function breaks behind the functions before it
abbrev pub function_breaks : List Head → FunctionTree → Option Rule
function_breaks before f =
    broken_if (any_twice f.parameters) rule.TwiceDeclared
    (broken_if (is_some (function_named f.name before)) rule.TwiceFunction
    (broken_if (is_known f.result && not (block_ends f.body)) rule.NoReturn
    (broken_if (nat_lt MAX_PARAMETERS (length f.parameters)) rule.TooManyParameters
    (broken_if (are_too_many (length f.parameters + block_slots f.body)) rule.TooManyLocals None))))

pub record JudgedFunction : Type 0 where
  pub function : FunctionTree
  pub broken : Option Broken

abbrev pub with_body : FunctionTree → BlockTree → FunctionTree
with_body f body = record { at = f.at; result = f.result; name = f.name; parameters = f.parameters; body = body }

abbrev pub close_function : List Head → FunctionTree → JudgedBlock → JudgedFunction
close_function before f j = record { function = with_body f j.block; broken = first j.broken (placed f.at (function_breaks before (with_body f j.block))) }

abbrev pub judge_function : Names → List Head → FunctionTree → JudgedFunction
judge_function names before f = close_function before f (judge_block f.body (with_parameters names f.parameters) (in_function f.result))

-- Scripts

-- a part, and the names in force behind it at the top level
pub record JudgedPart : Type 0 where
  pub part : PartTree
  pub broken : Option Broken
  pub names : Names

pub record JudgedParts : Type 0 where
  pub parts : List PartTree
  pub broken : Option Broken

abbrev pub function_part : Names → JudgedFunction → JudgedPart
function_part names j = record { part = a_function j.function; broken = j.broken; names = names }

abbrev pub statement_part : JudgedStmt → JudgedPart
statement_part j = record { part = a_statement j.stmt; broken = j.broken; names = j.names }

-- behind the functions before; `all` are the names in force in functions, `names` those in force here
abbrev pub judge_part : Names → List Head → Names → PartTree → JudgedPart
judge_part all before names (a_function f) = function_part names (judge_function all before f)
judge_part all before names (an_include i) = record { part = an_include i; broken = None; names = names }
judge_part all before names (a_statement s) = statement_part (judge_stmt s names top)

abbrev pub also_part : JudgedPart → JudgedParts → JudgedParts
also_part j js = record { parts = j.part ∷ js.parts; broken = first j.broken js.broken }

abbrev pub judge_parts : Names → List Head → Names → List PartTree → JudgedParts
judge_parts all before names [] = record { parts = []; broken = None }
judge_parts all before names (p ∷ ps) =
    also_part (judge_part all before names p) (judge_parts all (with_head before p) (judge_part all before names p).names ps)

-- more slots or globals than there may be; `args` is one of the globals
abbrev pub has_too_many : List PartTree → Bool
has_too_many ps = are_too_many (parts_slots ps) || nat_lt MAX_GLOBALS (parts_globals ps + 1)

abbrev pub script_breaks : List PartTree → Option Rule
script_breaks ps = broken_if (has_too_many ps) rule.TooManyLocals None

-- the script is judged behind its parts
abbrev pub close_parts : At → JudgedParts → JudgedParts
close_parts at js = record { parts = js.parts; broken = first js.broken (placed at (script_breaks js.parts)) }

abbrev pub judge_all : At → List PartTree → JudgedParts
judge_all at ps = close_parts at (judge_parts (names_of (heads_of ps) (globals_of ps)) [] (names_of (heads_of ps) first_globals) ps)

pub record JudgedScript : Type 0 where
  pub script : ScriptTree
  pub broken : Option Broken

abbrev pub with_parts : ScriptTree → JudgedParts → JudgedScript
with_parts s js = record { script = record { at = s.at; files = s.files; parts = js.parts }; broken = js.broken }

abbrev pub judge_script : ScriptTree → JudgedScript
judge_script s = with_parts s (judge_all s.at s.parts)

-- the first node of the walk that breaks a rule
abbrev pub first_broken : ScriptTree → Option Broken
first_broken s = (judge_script s).broken

abbrev pub IsAccepted : ScriptTree → Type 0
IsAccepted s = first_broken s ≡ None

-- the script with its types
abbrev pub typed : ScriptTree → ScriptTree
typed s = (judge_script s).script

abbrev pub is_include : PartTree → Bool
is_include (an_include i) = true
is_include _ = false

abbrev pub holds_include : ScriptTree → Bool
holds_include s = list_any is_include s.parts
