-- What is shown of the unit of a script.
use Rattle.std.specs.Prelude.{◌≡◌, ◌≤◌, List, ℕ}
use Rattle.bds_value.specs.declared.TheConstants.{MAX_CODE}
use Rattle.bds_tree.specs.StmtTree.{ScriptTree}
use Rattle.bds_verify.specs.Verified.{VerifiedUnit}
use Rattle.bds_check_typing.specs.Known.{IsFullyTyped}
use Rattle.bds_check_typing.specs.Typed.{IsTypedWith}
use Rattle.bds_check_size.specs.ScriptSize.{Settings, program_size, program_bound}
use Rattle.bds_gen_stmt.specs.UnitCode.{unit_of}
use Rattle.bds_gen_stmt.specs.Sizes.{codes_size}

-- its code has the size that is counted before any is made, whatever words give
abbrev pub UnitsHaveTheirSize : Type 0
UnitsHaveTheirSize = (ss : Settings) (args : List (List ℕ)) (s : ScriptTree) → codes_size (unit_of ss args s).functions ≡ program_size ss args s

-- so it has no more than are known from the nodes of the script and the words
abbrev pub UnitsAreSmall : Type 0
UnitsAreSmall = (ss : Settings) (args : List (List ℕ)) (s : ScriptTree) → IsFullyTyped s → codes_size (unit_of ss args s).functions ≤ program_bound ss args s

-- the unit of a typed script, with what words set in it, is verified where it isn't too large
abbrev pub UnitsAreVerified : Type 0
UnitsAreVerified = (ss : Settings) (args : List (List ℕ)) (s : ScriptTree) → IsTypedWith s ss args → program_size ss args s ≤ MAX_CODE → VerifiedUnit (unit_of ss args s)
