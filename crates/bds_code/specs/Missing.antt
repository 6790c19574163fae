-- What an instruction names that isn't there.
use Rattle.std.specs.Prelude.{ℕ, slice_get, Option, Some, None}
use Rattle.bds_value.specs.declared.value.Ty.{Ty}
use Rattle.bds_value.specs.declared.methods.Method.TheVariants.{Plain}
use Rattle.bds_value.specs.Methods.{arguments_of}
use Rattle.bds_code.specs.declared.instr.Instr.{Instr}
use Rattle.bds_code.specs.declared.instr.Instr.TheVariants.{Load, Store, LoadGlobal, StoreGlobal, Update, Call, Method, FileStamp, Spawn}
use Rattle.bds_code.specs.declared.unit.Function.{Function}
use Rattle.bds_code.specs.declared.unit.Unit.{Unit as CodeUnit}
use Rattle.bds_code.specs.Row.{slot_ty, variable_ty, answers}
use Rattle.bds_code.specs.UpdateRows.{change_rows}

-- the number of a thing that isn't there
abbrev pub unless : {X : Type 0} → Option X → ℕ → Option ℕ
unless None n = Some n
unless (Some x) n = None

abbrev pub first_of : Option ℕ → Option ℕ → Option ℕ
first_of (Some n) later = Some n
first_of None later = later

-- the number of the first slot, global, function, method, question on a file or change of an instruction that isn't there
abbrev pub missing : CodeUnit → Function → Instr → Option ℕ
missing u f (Load i) = unless (slot_ty f i) i
missing u f (Store i) = unless (slot_ty f i) i
missing u f (LoadGlobal i) = unless (slice_get u.globals i) i
missing u f (StoreGlobal i) = unless (slice_get u.globals i) i
missing u f (Update scope slot kinds what) = first_of (unless (variable_ty u f scope slot) slot) (unless (slice_get change_rows what) what)
missing u f (Call g) = unless (slice_get u.functions g) g
missing u f (Spawn g) = unless (slice_get u.functions g) g
missing u f (Method m) = unless (arguments_of (Plain m)) m
missing u f (FileStamp q) = unless (slice_get answers q) q
missing u f _ = None
