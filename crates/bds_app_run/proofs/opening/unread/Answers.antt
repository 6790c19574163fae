use Rattle.std.proofs.Common.{inl}
use Rattle.bds_app_run.proofs.opening.unread.Goals as goal

pub returns-in-Fault : goal.returns-in-Fault
returns-in-Fault c = λ path before after read. rw c.in-Fault.is at read

pub returns-in-NoMemory : goal.returns-in-NoMemory
returns-in-NoMemory c = λ path before after read. inl (rw c.in-NoMemory.is at read)
