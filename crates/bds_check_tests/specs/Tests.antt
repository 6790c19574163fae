-- The tests of a script, and the program that each of them is run as.
use Rattle.std.specs.Prelude.{◌==◌, ◌&&◌, ◌≡◌, ℕ, Bool, true, false, List, [], ◌∷◌, ◌++◌, Some, length, codes}
use Rattle.std.specs.Prelude.{if◌then◌else◌}
use Rattle.std.specs.Prelude.{map, filter}
use Rattle.std.specs.List.{starts_with, slice_get}
use Rattle.bds_value.specs.declared.value.At.{At}
use Rattle.bds_value.specs.declared.value.Ty.{Ty}
use Rattle.bds_tree.specs.Tree.{node, call, none}
use Rattle.bds_tree.specs.StmtTree.{StmtTree, StmtFormTree, LineTree, FunctionTree, PartTree, ScriptTree}
use Rattle.bds_tree.specs.StmtTree.{stmt, line, declare, infer, call_line, a_function, an_include, a_statement}
use Rattle.bds_tree.specs.StmtView.{script_of}
use Rattle.bds_check.specs.declared.checking.TypedScript.{TypedScript}
use Rattle.bds_check_typing.specs.Typed.{IsTyped}

-- a function is a test where its name begins so, and it has no parameters
abbrev pub is_test : FunctionTree → Bool
is_test f = starts_with (λ a b. a == b) f.name (codes "test") && (length f.parameters == 0)

-- the tests among the parts, in their order
abbrev pub tests_in : List PartTree → List FunctionTree
tests_in [] = []
tests_in (a_function f ∷ ps) = if is_test f then f ∷ tests_in ps else tests_in ps
tests_in (an_include i ∷ ps) = tests_in ps
tests_in (a_statement s ∷ ps) = tests_in ps

abbrev pub test_names : ScriptTree → List (List ℕ)
test_names s = map (λ f. f.name) (tests_in s.parts)

-- a statement that declares a variable
abbrev pub is_declaring_line : LineTree → Bool
is_declaring_line (declare t x r) = true
is_declaring_line (infer x r) = true
is_declaring_line _ = false

abbrev pub is_declaring_form : StmtFormTree → Bool
is_declaring_form (line l) = is_declaring_line l
is_declaring_form _ = false

abbrev pub is_declaration : StmtTree → Bool
is_declaration (stmt at f) = is_declaring_form f

-- the parts that stand in the program of each test: functions, and the variables that the top level declares
abbrev pub is_kept : PartTree → Bool
is_kept (a_function f) = true
is_kept (an_include i) = false
is_kept (a_statement s) = is_declaration s

-- a call of this name without arguments, as a statement
abbrev pub call_named : At → Ty → List ℕ → StmtTree
call_named at t x = stmt at (line (call_line (node at t (call x none))))

-- a call of a function without parameters, which stands where the function stands
abbrev pub call_of : FunctionTree → StmtTree
call_of f = call_named f.at f.result f.name

abbrev pub with_call : List PartTree → FunctionTree → List PartTree
with_call ps f = filter is_kept ps ++ a_statement (call_of f) ∷ []

-- the program of a test: all functions, all variables of the top level in their order, and then its call
abbrev pub test_program : ScriptTree → FunctionTree → ScriptTree
test_program s f = record { at = s.at; files = s.files; parts = with_call s.parts f }

-- what the program of each test begins with: that of a test without its call
abbrev pub base_program : ScriptTree → ScriptTree
base_program s = record { at = s.at; files = s.files; parts = filter is_kept s.parts }

-- this is what the programs of this script's tests begin with, in which each node has its type
pub record IsBaseOf (t : TypedScript) (base : ScriptTree) : Type 0 where
  pub typed : IsTyped (script_of t.script)
  pub is : base ≡ base_program (script_of t.script)

-- this is the program of the test of this number, and no word sets anything
pub record IsTestOf (t : TypedScript) (index : ℕ) (test : TypedScript) : Type 0 where
  pub function : FunctionTree
  pub is : slice_get (tests_in (script_of t.script).parts) index ≡ Some function
  pub program : script_of test.script ≡ test_program (script_of t.script) function
  pub settings : test.settings ≡ []
  pub args : test.args ≡ []
