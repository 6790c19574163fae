use Rattle.bds_rows_state.proofs.threads.accepted.Goals as goal

pub judge_thread-requires : goal.judge_thread-requires
judge_thread-requires c =
    c.valid_threads_may_be_written.ensures c.args.unit.now c.unit-code.ensures.verified c.args.thread.now c.requires.valid c.thread_fits.ensures c.requires.status
