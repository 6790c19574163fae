use Rattle.bds_farm.proofs.replying.reply_farm.Goals as goal

pub returns-in-Start : goal.returns-in-Start
returns-in-Start g c = rw c.in-Start.is (c.start_task.ensures c.args.poll.now)

pub returns-in-Next : goal.returns-in-Next
returns-in-Next g c =
    rw c.in-Next.is (rw (c.as_slice.ensures, c.as_slice-in-Next.ensures) at (c.next.ensures c.args.submit.now))

pub returns-in-Read : goal.returns-in-Read
returns-in-Read g c = c.pass.ensures c.args.submit.now c.args.poll.now

pub returns-in-Stamp : goal.returns-in-Stamp
returns-in-Stamp g c = c.pass-in-Stamp.ensures c.args.submit.now c.args.poll.now

pub returns-in-Write : goal.returns-in-Write
returns-in-Write g c = c.pass-in-Write.ensures c.args.submit.now c.args.poll.now

pub returns-in-Remove : goal.returns-in-Remove
returns-in-Remove g c = c.pass-in-Remove.ensures c.args.submit.now c.args.poll.now

pub returns-in-Out : goal.returns-in-Out
returns-in-Out g c = c.pass-in-Out.ensures c.args.submit.now c.args.poll.now

pub returns-in-Err : goal.returns-in-Err
returns-in-Err g c = c.pass-in-Err.ensures c.args.submit.now c.args.poll.now

pub returns-in-Sys : goal.returns-in-Sys
returns-in-Sys g c = c.pass-in-Sys.ensures c.args.submit.now c.args.poll.now

pub returns-in-Save : goal.returns-in-Save
returns-in-Save g c = c.pass-in-Save.ensures c.args.submit.now c.args.poll.now
