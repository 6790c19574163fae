-- A thread that begins.
use Rattle.std.specs.Prelude.{ℕ, List, [], ◌∷◌, ◌++◌, map, slice_get, Some, ◌≡◌}
use Rattle.bds_value.specs.declared.value.Value.{Value}
use Rattle.bds_value.specs.declared.ids.Status.TheVariants.{Ready}
use Rattle.bds_value.specs.Value.{default_of}
use Rattle.bds_code.specs.declared.unit.Function.{Function}
use Rattle.bds_code.specs.declared.unit.Unit.{Unit as CodeUnit}
use Rattle.bds_code_frames.specs.declared.thread.Thread.{Thread}
use Rattle.bds_code_frames.specs.Stack.{stack, call_at}

-- ready, with one call at the first place of a function: its slots are the arguments, and the defaults of its locals
pub record IsBegun (u : CodeUnit) (maker function : ℕ) (args held : List Value) (t : Thread) : Type 0 where
  pub f : Function
  pub there : slice_get u.functions function ≡ Some f
  pub parent : t.parent ≡ maker
  pub status : t.status ≡ Ready
  pub globals : t.globals ≡ held
  pub frames : stack t.frames ≡ call_at function (args ++ map default_of f.locals) ∷ []
