-- What names stand for in code: slots, globals and functions by their numbers.
use Rattle.std.specs.Prelude.{ℕ, Bool, true, false, Option, Some, None, List, [], ◌∷◌, ◌++◌, reverse}
use Rattle.std.specs.Option.{unwrap_or}
use Rattle.bds_value.specs.declared.value.Ty.{Ty}
use Rattle.bds_code.specs.declared.instr.Instr.{Instr}
use Rattle.bds_code.specs.declared.instr.Instr.TheVariants.{Load, LoadGlobal}
use Rattle.bds_code.specs.declared.unit.Function.{Function}
use Rattle.bds_check_size.specs.Known.{Known, look}
use Rattle.bds_gen_expr.specs.declared.scope.Scope.{Scope}
use Rattle.bds_gen_expr.specs.declared.names.Names.{Names}
use Rattle.bds_gen_expr.specs.Numbers.{variables_of, numbered, last_number, first_number, first_callee, numbered_from, callees_from}

-- without their numbers
abbrev pub known : Scope → Known
known sc = record { locals = variables_of sc.locals; globals = variables_of sc.globals }

-- the type of the variable that a name stands for
abbrev pub types_in : Scope → List ℕ → Option Ty
types_in sc = look (known sc)

-- a slot of the function, or a global
pub data VariablePlace : Type 0 where
  in_slot : ℕ → VariablePlace
  in_global : ℕ → VariablePlace

abbrev pub slot_or_global : Option ℕ → Option ℕ → VariablePlace
slot_or_global (Some i) g = in_slot i
slot_or_global None g = in_global (unwrap_or g 0)

-- the innermost local of the name, or else the global; a name that isn't in force stands for global 0
abbrev pub place_of : Scope → List ℕ → VariablePlace
place_of sc x = slot_or_global (last_number x sc.locals None) (first_number x sc.globals)

abbrev pub load_at : VariablePlace → Instr
load_at (in_slot i) = Load i
load_at (in_global g) = LoadGlobal g

abbrev pub load : Scope → List ℕ → Instr
load sc x = load_at (place_of sc x)

abbrev pub is_global_at : VariablePlace → Bool
is_global_at (in_slot i) = false
is_global_at (in_global g) = true

abbrev pub number_at : VariablePlace → ℕ
number_at (in_slot i) = i
number_at (in_global g) = g

-- a name that no function has stands for function 0
abbrev pub function_number : Scope → List ℕ → ℕ
function_number sc x = unwrap_or (first_callee x sc.functions) 0

-- one more local, which hides those of its name
abbrev pub with_slot : Scope → List ℕ → Ty → ℕ → Scope
with_slot sc x t i = record sc { locals = sc.locals ++ numbered x t i ∷ [] }

-- one more global; where there is one of the name already, that one counts
abbrev pub with_one_global : Scope → List ℕ → Ty → ℕ → Scope
with_one_global sc x t n = record sc { globals = sc.globals ++ numbered x t n ∷ [] }

-- in a function, whose slots have the types of its parameters and locals; of equal names the last counts
abbrev pub scope_of : Names → Function → Scope
scope_of names f = record {
  locals = numbered_from 0 names.locals (f.params ++ f.locals);
  globals = reverse (numbered_from 0 names.globals names.types);
  functions = reverse (callees_from 0 names.functions);
}
