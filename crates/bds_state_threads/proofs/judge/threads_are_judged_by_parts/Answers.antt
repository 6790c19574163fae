use Rattle.bds_state_threads.proofs.Chains.{thread-own, thread-frames}
use Rattle.bds_state_threads.proofs.Unique.{valid-by-parts, fault-invalid}
use Rattle.bds_state_threads.proofs.judge.threads_are_judged_by_parts.Goals as goal

pub returns-clause-valid : goal.returns-clause-valid
returns-clause-valid c = valid-by-parts

pub returns-clause-own : goal.returns-clause-own
returns-clause-own c = thread-own

pub returns-clause-frames : goal.returns-clause-frames
returns-clause-frames c = thread-frames

pub returns-clause-fault : goal.returns-clause-fault
returns-clause-fault c = fault-invalid
