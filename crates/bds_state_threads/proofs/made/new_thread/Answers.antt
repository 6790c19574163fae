use Rattle.std.proofs.Common.{◌≡◌, ◌∷◌, [], ◌++◌, map, slice_get, Some, refl, ap, ◌∙◌, subst, List}
use Rattle.bds_value.specs.declared.value.Ty.{Ty}
use Rattle.bds_value.specs.Value.{default_of}
use Rattle.bds_code.specs.declared.unit.Unit.{Unit as CodeUnit}
use Rattle.bds_code_frames.specs.Stack.{call_at}
use Rattle.bds_state_threads.proofs.Begun.{begun_valid}
use Rattle.bds_state_threads.proofs.Locals.{locals-values}
use Rattle.bds_state_threads.proofs.made.new_thread.Goals as goal

pub frames_of-requires : goal.frames_of-requires
frames_of-requires c =
    let f = c.function_at.result.now in
    let there : slice_get c.args.unit.now.functions c.args.function ≡ Some f = subst (λ (u : CodeUnit). slice_get u.functions c.args.function ≡ Some f) c.unit-code.ensures.same c.function_at.ensures in
    rw c.as_slice-locals.ensures (locals-values c.args.unit.now f (c.unit-code.ensures.verified.functions c.args.function f there).whole)

pub returns-clause-begun : goal.returns-clause-begun
returns-clause-begun c =
    let f = c.function_at.result.now in
    record {
      f = f;
      there = subst (λ (u : CodeUnit). slice_get u.functions c.args.function ≡ Some f) c.unit-code.ensures.same c.function_at.ensures;
      parent = refl;
      status = refl;
      globals = refl;
      frames = c.in_ok-frames.ensures ∙ ap (λ (ts : List Ty). call_at c.args.function (c.args.args ++ map default_of ts) ∷ []) c.as_slice-locals.ensures;
    }

pub returns-clause-valid : goal.returns-clause-valid
returns-clause-valid c =
    begun_valid c.args.unit.now c.unit-code.ensures.verified c.args.parent c.args.function c.args.args c.args.globals _ (returns-clause-begun c) c.requires.args c.requires.globals
