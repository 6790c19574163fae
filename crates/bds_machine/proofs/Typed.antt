-- Typed values, taken and put together.
use Rattle.std.proofs.Common.{◌≤◌, List, ◌++◌, take, drop, length, reverse, subst}
use Rattle.std.proofs.lemmas.List.{reverse-reverse, length-reverse}
use Rattle.bds_value.specs.declared.value.Ty.{Ty}
use Rattle.bds_value.specs.declared.value.Value.{Value}
use Rattle.bds_verify.specs.Threads.{Typed}
use Rattle.bds_state_threads.proofs.Resting.{typed-reverse}
use Rattle.bds_machine.proofs.OperandFits.{typed_split}

-- the last operands are the arguments of these parameters
pub typed-arguments : (ops : List Value) (params rest : List Ty) → Typed ops (reverse params ++ rest)
    → Typed (reverse (take (length params) ops)) params × Typed (drop (length params) ops) rest × (length params ≤ length ops)
typed-arguments ops params rest h =
    let k = typed_split (reverse params) rest ops h in
    let same = length-reverse params in (
      subst (Typed (reverse (take (length params) ops))) (reverse-reverse params)
          (typed-reverse (take (length params) ops) (reverse params) (subst (λ m. Typed (take m ops) (reverse params)) same k.0)),
      subst (λ m. Typed (drop m ops) rest) same k.1,
      subst (λ m. m ≤ length ops) same k.2,
    )
