use Rattle.std.proofs.Common.{◌≡◌, List, [], ◌∷◌, ◌++◌, map, take}
use Rattle.bds_value.specs.declared.value.Value.{Value}
use Rattle.bds_value.specs.Value.{default_of}
use Rattle.bds_code_frames.specs.Stack.{stack, call_at}
use Rattle.bds_state_threads.proofs.made.add_locals.Given as goal

abbrev pub invariant-loop-ty : goal.invariant-loop-ty
invariant-loop-ty l =
    (args : List Value) → stack l.fn.frames ≡ call_at l.function args ∷ [] → stack l.frames ≡ call_at l.function (args ++ map default_of (take l.ty-index l.locals)) ∷ []
