-- What the rows need of the definitions of results: at typed values they give a value of a type, or a fault of the run.
use Rattle.std.specs.Prelude.{ℕ, List, ◌≡◌, Some}
use Rattle.std.specs.List.{AllByRecursion}
use Rattle.bds_value.specs.declared.value.Op.{Op}
use Rattle.bds_value.specs.declared.value.Place.{Place}
use Rattle.bds_value.specs.declared.value.Ty.{Ty}
use Rattle.bds_value.specs.declared.value.Value.{Value}
use Rattle.bds_value.specs.Operators.{Takes, result_type}
use Rattle.bds_value.specs.Path.{item_of, put_in, type_at_path}
use Rattle.bds_value.specs.RunFaults.{put_fault}
use Rattle.bds_lib.specs.Rows.{IsRow, IsChangeRow}
use Rattle.bds_verify.specs.Threads.{Holds, Typed}
use Rattle.bds_machine_values.specs.Faults.{outcome}
use Rattle.bds_machine_values.specs.Results.{applied, called, mutated}
use Rattle.bds_machine.proofs.HeldFits.{IsHeld}
use Rattle.bds_machine.proofs.PathLimits.{IsStep}

-- an operator at operands that it takes
abbrev pub OperatorLaw : Type 0
OperatorLaw = (op : Op) (l r : Value) (a b : Ty) → Holds l a → Holds r b → Takes op a b → IsHeld (result_type op a) (applied op l r)

-- the part at a path that fits
abbrev pub PartLaw : Type 0
PartLaw = (path : List Place) (v : Value) (t p : Ty) → Holds v t → type_at_path path t ≡ Some p → IsHeld p (outcome put_fault (item_of path v))

-- a value with a new part at a path that fits
abbrev pub PutLaw : Type 0
PutLaw = (path : List Place) (v new : Value) (t p : Ty) → AllByRecursion IsStep path → Holds v t → Holds new p → type_at_path path t ≡ Some p → IsHeld t (outcome put_fault (put_in path v new))

-- a method of a row
abbrev pub MethodLaw : Type 0
MethodLaw = (m : ℕ) (v : Value) (args : List Value) (receiver t : Ty) (types : List Ty) → IsRow m receiver types t → Holds v receiver → Typed args types → IsHeld t (called m v args)

-- a change of a row
abbrev pub ChangeLaw : Type 0
ChangeLaw = (what : ℕ) (v : Value) (args : List Value) (place : Ty) (types : List Ty) → IsChangeRow what place types → Holds v place → Typed args types → IsHeld place (mutated what v args)
