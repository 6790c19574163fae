use Rattle.std.proofs.Common.{◌<◌, List, length, subst, sym}
use Rattle.bds_code_frames.specs.declared.thread.Thread.{Thread}
use Rattle.bds_state.specs.Parts.{Parts, with_threads}
use Rattle.bds_state.specs.Valid.{IsThreadOf, IsValid}
use Rattle.bds_state.specs.Held.{AreHeld}
use Rattle.bds_state.proofs.HeldLaws.{thread_put}
use Rattle.bds_state.proofs.Kept.{stays_valid}
use Rattle.bds_engine_stages.proofs.threads.put.Goals as goal

pub invariant_of-state : goal.invariant_of-state
invariant_of-state c =
    let s : Parts = record {
      unit = c.state.inside.unit;
      threads = c.state.inside.threads;
      tasks = c.state.inside.tasks;
      rules = c.state.inside.rules;
      path = c.state.inside.path;
    } in
    subst (λ (ts : List Thread). IsValid (with_threads ts s) × AreHeld ts s.tasks c.note.new.self) (sym c.set.ensures) (
      (stays_valid s c.state.invariant.0).replaced c.args.k c.args.thread
          (subst (λ (p : Parts). IsThreadOf (length p.tasks) (length p.threads) p.unit c.args.k c.args.thread)
          (sym c.state.view_is) c.requires.valid),
      thread_put s.threads s.tasks c.args.k c.holder-by.result c.args.thread c.state.inside.held c.note.new.self
          (subst (λ (p : Parts). c.args.k < length p.threads) (sym c.state.view_is) c.requires.there) c.state.invariant.1
          c.note.ensures c.holder-by.ensures,
    )
