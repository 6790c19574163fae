-- The parts of a file in a program: each node has the file's number.
use Rattle.std.specs.Prelude.{ℕ}
use Rattle.bds_value.specs.declared.value.At.{At}
use Rattle.bds_value.specs.declared.value.Ty.{Ty}
use Rattle.bds_tree.specs.StmtTree.{PartTree}
use Rattle.bds_check_typing.specs.Remade.{remade_part}

abbrev pub in_file : ℕ → At → At
in_file file at = record { file = file; line = at.line }

abbrev pub kept_ty : Ty → Ty
kept_ty t = t

-- in the file of this number
abbrev pub part_in : ℕ → PartTree → PartTree
part_in file p = remade_part (in_file file) kept_ty p
