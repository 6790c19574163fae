use Rattle.bds_state.proofs.Faults.{all_threads, first_bad_thread, more_threads}
use Rattle.bds_state.proofs.Places.{found_at, some_where}
use Rattle.std.proofs.Common.{length}
use Rattle.bds_state.proofs.judge.judge_threads.Goals as goal

pub returns-in-Err : goal.returns-in-Err
returns-in-Err c =
    first_bad_thread c.args.unit.now c.args.tasks c.args.threads.now c.loop-n.n c.index-threads-n.result c.in-Err.fault
    c.loop-n.invariant
    (found_at c.args.threads.now c.loop-n.n c.index-threads-n.result c.loop-n-test.true c.index-threads-n.is)
    c.in-Err.ensures

pub loop-n-preserved : goal.loop-n-preserved
loop-n-preserved c =
    more_threads c.args.unit.now c.args.tasks c.args.threads.now c.loop-n.n c.index-threads-n.result
    (found_at c.args.threads.now c.loop-n.n c.index-threads-n.result c.loop-n-test.true c.index-threads-n.is)
    c.in_default.ensures c.loop-n.invariant

pub returns : goal.returns
returns c =
    all_threads c.args.unit.now c.args.tasks c.args.threads.now c.loop-n.n
    (some_where (length c.args.threads.now) c.if-count-eq0.false) c.requires.count c.loop-n-test.false
    c.loop-n.invariant
