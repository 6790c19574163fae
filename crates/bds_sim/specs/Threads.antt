-- Threads of the machine: globals and calls, and what an answer gives them.
use Rattle.std.specs.Prelude.{◌≢◌, ◌-◌, List, [], ◌∷◌, slice_get, Option, Some, None}
use Rattle.bds_value.specs.declared.value.Value.{Value}
use Rattle.bds_code.specs.declared.instr.Instr.{Instr}
use Rattle.bds_code.specs.declared.unit.Unit.{Unit as CodeUnit}
use Rattle.bds_code_frames.specs.Stack.{Stack, place_of, pushed}
use Rattle.bds_value.specs.Options.{◌>>=◌}
use Rattle.bds_verify.specs.Threads.{AreLive}

-- the globals and calls of a thread
pub record Parts : Type 0 where
  pub globals : List Value
  pub calls : Stack

-- the instruction that the newest call has behind it
abbrev pub code_behind : CodeUnit → Stack → Option Instr
code_behind u s = place_of s >>= λ at. slice_get u.functions at.0 >>= λ f. slice_get f.code (at.1 - 1)

-- the calls with the values of an answer
abbrev pub answered : List Value → Stack → Option Stack
answered [] s = Some s
answered (v ∷ us) s = answered us s >>= pushed v

-- the globals and calls of a thread that goes on are valid
pub record Live (u : CodeUnit) (m : Parts) : Type 0 where
  pub valid : AreLive u m.globals m.calls
  pub some : m.calls ≢ []

-- the values of an answer
abbrev pub given : Option Value → List Value
given None = []
given (Some v) = v ∷ []
