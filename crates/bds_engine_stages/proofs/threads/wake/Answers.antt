use Rattle.std.proofs.Common.{◌∙◌, ap, inl, subst, sym}
use Rattle.std.proofs.lemmas.Option.{slice_get_within}
use Rattle.bds_code_frames.specs.declared.thread.Thread.{Thread}
use Rattle.bds_state.specs.Keeping.{with_thread}
use Rattle.bds_state.specs.Parts.{Parts}
use Rattle.bds_state.specs.Valid.{IsValid}
use Rattle.bds_state.proofs.HeldLaws.{noted_again, thread_free, thread_put}
use Rattle.bds_engine_stages.proofs.Waking.{ends_valid, goes_on_valid}
use Rattle.bds_engine_stages.proofs.threads.wake.Goals as goal

-- the thread has ended
pub invariant_of-state : goal.invariant_of-state
invariant_of-state c =
    let s : Parts = record {
      unit = c.state.inside.unit;
      threads = c.state.inside.threads;
      tasks = c.state.inside.tasks;
      rules = c.state.inside.rules;
      path = c.state.inside.path;
    } in
    let there = c.at_mut-thread.ensures.value in
    let is = c.replace.ensures.after ∙ c.ended.ensures in
    let new = c.note-then-count-eq0.new.self in (
      subst (λ (t : Thread). IsValid (with_thread c.args.k t s)) (sym is)
          (ends_valid s c.args.k c.at_mut-thread.result.now there c.count.result c.count.ensures c.state.invariant.0),
      thread_put s.threads s.tasks c.args.k c.ended_holder.result c.replace.new.dest c.state.inside.held new
          (slice_get_within s.threads c.args.k c.at_mut-thread.result.now there) c.state.invariant.1
          (noted_again c.args.k 0 c.ended_holder.result c.state.inside.held c.note.new.self new c.note.ensures
          c.note-then-count-eq0.ensures)
          (λ some. inl (ap (λ (t : Thread). t.status) is)),
    )

-- it goes on
pub invariant_of-state-else-count-eq0 : goal.invariant_of-state-else-count-eq0
invariant_of-state-else-count-eq0 c =
    let s : Parts = record {
      unit = c.state.inside.unit;
      threads = c.state.inside.threads;
      tasks = c.state.inside.tasks;
      rules = c.state.inside.rules;
      path = c.state.inside.path;
    } in
    let there = c.at_mut-thread.ensures.value in (
      goes_on_valid s c.args.k c.at_mut-thread.result.now there c.count.result c.count.ensures c.state.invariant.0
          c.args.state.now c.state.view_is c.requires c.if-count-eq0.false,
      thread_free s.threads s.tasks c.args.k _ c.state.inside.held c.note.new.self
          (slice_get_within s.threads c.args.k c.at_mut-thread.result.now there) c.state.invariant.1 c.note.ensures,
    )
