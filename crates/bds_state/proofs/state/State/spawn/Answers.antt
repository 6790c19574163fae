use Rattle.std.proofs.Common.{◌≡◌, ◌<◌, arith, length, slice_get, Some, List, subst, sym}
use Rattle.std.proofs.lemmas.Option.{slice_get_within}
use Rattle.bds_value.specs.declared.TheConstants.{MAX_THREADS}
use Rattle.bds_code_frames.specs.declared.thread.Thread.{Thread}
use Rattle.bds_state.specs.Parts.{Parts, with_threads}
use Rattle.bds_state.specs.Valid.{IsValid}
use Rattle.bds_state.specs.Held.{AreHeld}
use Rattle.bds_state.proofs.HeldLaws.{thread_more}
use Rattle.bds_state.proofs.Spawning.{spawned_valid}
use Rattle.bds_state.proofs.state.State.spawn.Goals as goal

pub made_by-requires-clause-valid : goal.made_by-requires-clause-valid
made_by-requires-clause-valid c =
    λ n t e. (c.self.invariant.0.threads.each n t (subst (λ (xs : List Thread). slice_get xs n ≡ Some t)
    c.as_slice.ensures e)).valid

pub invariant_of-self-2 : goal.invariant_of-self-2
invariant_of-self-2 c =
    let s : Parts = record {
      unit = c.self.inside.unit;
      threads = c.self.inside.threads;
      tasks = c.self.inside.tasks;
      rules = c.self.inside.rules;
      path = c.self.inside.path;
    } in
    let m = c.in_ok-made.ensures in
    let from : slice_get c.self.inside.threads c.args.maker ≡ Some m.0 =
    subst (λ (xs : List Thread). slice_get xs c.args.maker ≡ Some m.0) c.as_slice.ensures m.1 in
    let room : length c.self.inside.threads < MAX_THREADS =
    omega (arith, c.len-count.ensures, c.if-count-ge-MAX_THREADS.false) in
    subst (λ (xs : List Thread). IsValid (with_threads xs s)
    × AreHeld xs s.tasks c.self.inside.held) (sym c.in_ok-push.ensures.ok) (
      spawned_valid s c.self.invariant.0 c.args.maker c.args.function _ _ c.in_ok-made.made room
          (slice_get_within c.self.inside.threads c.args.maker m.0 from) m.2 m.3 m.4,
      thread_more s.threads s.tasks c.in_ok-made.made c.self.inside.held c.self.invariant.1,
    )
