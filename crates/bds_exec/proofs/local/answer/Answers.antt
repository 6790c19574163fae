use Rattle.std.proofs.Common.{◌≡◌, arith, ap, ◌∙◌}
use Rattle.bds_host.proofs.Growing.{growing}
use Rattle.bds_exec.specs.Turns.{last_run}
use Rattle.bds_exec.proofs.LastRun.{last_run-append, run_or-stays}
use Rattle.bds_exec.proofs.local.answer.Goals as goal

pub returns-clause-answered : goal.returns-clause-answered
returns-clause-answered g c =
    let asked : c.last_ask-ask.result.now ≡ c.args.ask = c.last_ask-ask.ensures _ _ _ c.in_ok-record_ask.ensures.ok in
    let grown = c.record_reply.ensures _ _ _ c.in_ok-record_ask.ensures.ok in
    let served = rw asked at c.in_ok-reply.ensures.served in
    record { grown = rw c.in_ok-kept.ensures at grown; fitting = served.0; told = served.1 }

pub returns-clause-never_falls : goal.returns-clause-never_falls
returns-clause-never_falls g c =
    let grown = c.record_reply.ensures _ _ _ c.in_ok-record_ask.ensures.ok in
    grind (arith, growing)

pub returns-clause-stays : goal.returns-clause-stays
returns-clause-stays g c =
    let grown = rw c.in_ok-kept.ensures at (c.record_reply.ensures _ _ _ c.in_ok-record_ask.ensures.ok) in
    ap last_run grown ∙ (last_run-append c.args.trace.now c.args.ask c.in_ok-reply.reply ∙ run_or-stays (last_run c.args.trace.now) c.in_ok-reply.reply c.in_ok-reply.ensures.served.2)

pub returns-clause-strange : goal.returns-clause-strange
returns-clause-strange g c =
    let asked : c.last_ask-ask.result.now ≡ c.args.ask = c.last_ask-ask.ensures _ _ _ c.in_ok-record_ask.ensures.ok in
    rw asked at c.in_ok-reply.ensures.strange

pub returns-clause-told : goal.returns-clause-told
returns-clause-told g c =
    let asked : c.last_ask-ask.result.now ≡ c.args.ask = c.last_ask-ask.ensures _ _ _ c.in_ok-record_ask.ensures.ok in
    rw asked at c.in_ok-reply.ensures.told
