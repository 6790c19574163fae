use Rattle.bds_app_run.specs.Job.{job_of, set_by_words, size_with}
use Rattle.bds_app_run.proofs.Begins.{begun}
use Rattle.bds_app_run.proofs.Beginning.{loaded_reaches, was_short}
use Rattle.bds_app_run.proofs.Quiet.{quiet_twice}
use Rattle.bds_app_run.proofs.Saves.{loaded_saves, quiet_call, quiet_load}
use Rattle.bds_app_run.proofs.scripts.load_and_run.Goals as goal

pub run_loaded-requires-clause-short : goal.run_loaded-requires-clause-short
run_loaded-requires-clause-short g c = was_short c.args.call.now.path _ _ _ c.in-Ok.ensures.loads

pub returns-in-Ok-clause-reaches : goal.returns-in-Ok-clause-reaches
returns-in-Ok-clause-reaches g c =
    let call = c.args.call.now in
    loaded_reaches call _ _ _ _ c.run_loaded.result
    (begun (job_of call) (set_by_words call) size_with _ _ _ c.in-Ok.ensures.loads) c.run_loaded.ensures.reaches

pub returns-in-Err-clause-reaches : goal.returns-in-Err-clause-reaches
returns-in-Err-clause-reaches g c =
    let call = c.args.call.now in
    c.refuse_script.ensures.reaches call _ (begun (job_of call) (set_by_words call) size_with _ _ _
    c.in-Err.ensures.loads)

pub returns-in-Ok-clause-saves : goal.returns-in-Ok-clause-saves
returns-in-Ok-clause-saves g c =
    let log = g.H.Host.log in
    let call = c.args.call.now in
    loaded_saves call (log c.args.host.now) (log c.load.new.host) (log c.run_loaded.new.host) c.in-Ok.typed
    c.run_loaded.result c.in-Ok.ensures.loads
    (begun (job_of call) (set_by_words call) size_with _ _ _ c.in-Ok.ensures.loads)
    c.run_loaded.ensures.reaches c.run_loaded.ensures.saves

pub returns-in-Err-clause-saves : goal.returns-in-Err-clause-saves
returns-in-Err-clause-saves g c =
    let log = g.H.Host.log in
    quiet_call c.args.call.now (log c.args.host.now) (log c.refuse_script.new.host)
    (quiet_twice (log c.args.host.now) (log c.load.new.host) (log c.refuse_script.new.host)
    (quiet_load c.args.call.now.path _ _ _ c.in-Err.ensures.loads) c.refuse_script.ensures.quiet)
