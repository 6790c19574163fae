-- The answers of the generator: the unit of a script, which is too big exactly where it would have more instructions than a unit may have.
use Rattle.std.specs.Prelude.{◌≡◌, ◌≤◌, ◌<◌, ℕ, Result, Ok, Err, ⊤}
use Rattle.bds_value.specs.declared.TheConstants.{MAX_CODE}
use Rattle.bds_code.specs.declared.unit.Unit.{Unit as CodeUnit}
use Rattle.bds_tree.specs.StmtView.{script_of}
use Rattle.bds_check.specs.declared.checking.TypedScript.{TypedScript}
use Rattle.bds_check_size.specs.ScriptSize.{program_size}
use Rattle.bds_check_typing.specs.GivenValues.{set_by}
use Rattle.bds_gen_stmt.specs.UnitCode.{unit_of}
use Rattle.bds_gen_unit.specs.declared.unit.GenFault.{GenFault}
use Rattle.bds_gen_unit.specs.declared.unit.GenFault.TheVariants as fault

-- the unit of a typed script with what words set
abbrev pub unit_for : TypedScript → CodeUnit
unit_for t = unit_of (set_by t.settings) t.args (script_of t.script)

abbrev pub size_for : TypedScript → ℕ
size_for t = program_size (set_by t.settings) t.args (script_of t.script)

-- want of memory alone is free
abbrev pub IsGenerated : Result CodeUnit GenFault → TypedScript → Type 0
IsGenerated (Ok unit) t = (unit ≡ unit_for t) × (size_for t ≤ MAX_CODE)
IsGenerated (Err fault.TooBig) t = MAX_CODE < size_for t
IsGenerated (Err fault.NoMemory) t = ⊤
