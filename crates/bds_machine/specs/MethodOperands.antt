-- The operands of a method are those of its row in the table of methods.
use Rattle.std.specs.Prelude.{◌≡◌, ℕ, List, ◌∷◌, ◌++◌, length, reverse}
use Rattle.bds_value.specs.declared.value.Ty.{Ty}
use Rattle.bds_lib.specs.Rows.{IsRow}
use Rattle.bds_code.specs.Operands.{given}

-- the operands are a receiver and so many arguments of a method's row, for which its result is given
pub record IsMethod (m n : ℕ) (shape next : List Ty) : Type 0 where
  pub receiver : Ty
  pub types : List Ty
  pub result : Ty
  pub rest : List Ty
  pub row : IsRow m receiver types result
  pub count : n ≡ length types
  pub takes : shape ≡ reverse types ++ receiver ∷ rest
  pub gives : next ≡ given result ++ rest
