-- What a typed script is: each part is well typed under the names in force there, and the script breaks no rule.
use Rattle.std.specs.Prelude.{◌≡◌, None, List, [], ◌∷◌, ⊤, ◌⊎◌}
use Rattle.bds_value.specs.declared.value.Ty.TheVariants as ty
use Rattle.bds_tree.specs.StmtTree.{FunctionTree, PartTree, ScriptTree, a_function, an_include, a_statement}
use Rattle.bds_check_names.specs.declared.names.Names.{Names}
use Rattle.bds_check_names.specs.declared.names.Head.{Head}
use Rattle.bds_check_names.specs.declared.names.Variable.{Variable}
use Rattle.bds_check_names.specs.Scopes.{top, in_function}
use Rattle.bds_check_typing.specs.Program.{heads_of, with_head, names_of, first_globals, globals_of, with_parameters, function_breaks, script_breaks}
use Rattle.bds_check_typing.specs.WellTypedStmts.{IsWellTypedStmt, IsWellTypedBlock, names_behind}

-- behind the functions before
abbrev pub IsWellTypedFunction : FunctionTree → Names → List Head → Type 0
IsWellTypedFunction f names before = IsWellTypedBlock f.body (with_parameters names f.parameters) (in_function f.result) × (function_breaks before f ≡ None)

-- `all` are the names in force in functions, `names` those in force here
abbrev pub IsWellTypedPart : PartTree → Names → List Head → Names → Type 0
IsWellTypedPart (a_function f) all before names = IsWellTypedFunction f all before
IsWellTypedPart (an_include i) all before names = ⊤
IsWellTypedPart (a_statement s) all before names = IsWellTypedStmt s names top

-- the names at the top level behind a part
abbrev pub names_behind_part : PartTree → Names → Names
names_behind_part (a_function f) names = names
names_behind_part (an_include i) names = names
names_behind_part (a_statement s) names = names_behind s names top

abbrev pub names_behind_parts : List PartTree → Names → Names
names_behind_parts [] names = names
names_behind_parts (p ∷ ps) names = names_behind_parts ps (names_behind_part p names)

abbrev pub AreWellTypedParts : List PartTree → Names → List Head → Names → Type 0
AreWellTypedParts [] all before names = ⊤
AreWellTypedParts (p ∷ ps) all before names = IsWellTypedPart p all before names × AreWellTypedParts ps all (with_head before p) (names_behind_part p names)

-- the same variables in the same order, each with its type there, or with none
abbrev pub AreFoundAs : List Variable → List Variable → Type 0
AreFoundAs [] [] = ⊤
AreFoundAs (v ∷ vs) (w ∷ ws) = (v.name ≡ w.name) × ((v.ty ≡ w.ty) ⊎ (v.ty ≡ ty.Void)) × AreFoundAs vs ws
AreFoundAs _ _ = ⊥

-- the names in force before the first part
abbrev pub first_names : List PartTree → Names
first_names ps = names_of (heads_of ps) first_globals

-- the globals that the top level declares
abbrev pub globals_in : ScriptTree → List Variable
globals_in s = (names_behind_parts s.parts (first_names s.parts)).globals

-- where functions see these globals
pub record IsWellTypedUnder (s : ScriptTree) (globals : List Variable) : Type 0 where
  pub parts : AreWellTypedParts s.parts (names_of (heads_of s.parts) globals) [] (first_names s.parts)
  pub breaks : script_breaks s.parts ≡ None

-- functions see the globals that are found in its source: those that the top level declares, each with its type there or with none
pub record IsWellTypedFrom (source s : ScriptTree) : Type 0 where
  pub found : AreFoundAs (globals_of source.parts) (globals_in s)
  pub under : IsWellTypedUnder s (globals_of source.parts)
