-- What is in force where a statement stands: names, the next slot, the loop or `switch` around it.
use Rattle.std.specs.Prelude.{ℕ, ◌+◌, Bool, false, Option, Some, None, List, [], ◌∷◌, length, if◌then◌else◌}
use Rattle.bds_value.specs.declared.value.At.{At}
use Rattle.bds_value.specs.declared.value.Ty.{Ty}
use Rattle.bds_code.specs.declared.instr.Instr.TheVariants.{Store, StoreGlobal}
use Rattle.bds_check_names.specs.declared.names.Variable.{Variable}
use Rattle.bds_gen_expr.specs.Marks.{Mark, does, slot, one}
use Rattle.bds_gen_expr.specs.Scope.{with_slot, with_one_global}
use Rattle.bds_gen_expr.specs.declared.scope.Scope.{Scope}

-- where `continue` and `break` lead
pub record Loop : Type 0 where
  pub again : ℕ
  pub end : ℕ

-- what is in force before a statement
pub record Spot : Type 0 where
  pub scope : Scope
  -- the next slot
  pub next : ℕ
  -- the first of the eight slots that tasks need
  pub first : ℕ
  pub loop : Option Loop
  -- declarations make globals
  pub at_top : Bool

abbrev pub inner : Spot → Spot
inner sp = record sp { at_top = false }

abbrev pub in_loop : Spot → ℕ → ℕ → Spot
in_loop sp again end = record sp { at_top = false; loop = Some (record { again = again; end = end }) }

abbrev pub again_of : Option Loop → ℕ
again_of None = 0
again_of (Some l) = l.again

-- in the statements of a `switch`, behind the slot of its value; `continue` leads where it led before
abbrev pub in_switch : Spot → ℕ → Spot
in_switch sp end = record sp { at_top = false; next = sp.next + 1; loop = Some (record { again = again_of sp.loop; end = end }) }

-- further on in the same block, behind so many slots
abbrev pub behind_slots : Spot → ℕ → Spot
behind_slots sp n = record sp { next = sp.next + n }

abbrev pub declared_local : Spot → List ℕ → Ty → Spot
declared_local sp x t = record sp { scope = with_slot sp.scope x t sp.next; next = sp.next + 1 }

abbrev pub declared : Spot → List ℕ → Ty → Spot
declared sp x t = if sp.at_top then record sp { scope = with_one_global sp.scope x t (length sp.scope.globals) } else declared_local sp x t

-- behind what declares this local, or none
abbrev pub local_with : Spot → Option Variable → Spot
local_with sp None = sp
local_with sp (Some v) = declared_local sp v.name v.ty

-- behind what declares this variable, or none
abbrev pub spot_with : Spot → Option Variable → Spot
spot_with sp None = sp
spot_with sp (Some v) = declared sp v.name v.ty

-- a value on the list goes to a new variable
abbrev pub store_new : Spot → At → Ty → List Mark
store_new sp at t = if sp.at_top then one at (StoreGlobal (length sp.scope.globals)) else slot t ∷ does (Store sp.next) at ∷ []
