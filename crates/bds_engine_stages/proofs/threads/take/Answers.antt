use Rattle.std.proofs.Common.{◌∙◌, subst, sym}
use Rattle.std.proofs.lemmas.Option.{slice_get_within}
use Rattle.bds_code_frames.specs.declared.thread.Thread.{Thread}
use Rattle.bds_state.specs.Keeping.{with_thread}
use Rattle.bds_state.specs.Parts.{Parts}
use Rattle.bds_state.specs.Valid.{IsValid}
use Rattle.bds_state.proofs.HeldLaws.{thread_free}
use Rattle.bds_state.proofs.Kept.{stays_valid}
use Rattle.bds_engine_stages.proofs.threads.take.Goals as goal

pub invariant_of-state : goal.invariant_of-state
invariant_of-state c =
    let s : Parts = record {
      unit = c.state.inside.unit;
      threads = c.state.inside.threads;
      tasks = c.state.inside.tasks;
      rules = c.state.inside.rules;
      path = c.state.inside.path;
    } in (
      subst (λ (t : Thread). IsValid (with_thread c.args.k t s)) (sym (c.replace.ensures.after ∙ c.ended.ensures))
          ((stays_valid s c.state.invariant.0).changed c.args.k c.at_mut-thread.result.now
          c.at_mut-thread.ensures.value).ends,
      thread_free s.threads s.tasks c.args.k _ c.state.inside.held c.note.new.self
          (slice_get_within s.threads c.args.k c.at_mut-thread.result.now c.at_mut-thread.ensures.value) c.state.invariant.1
          c.note.ensures,
    )
