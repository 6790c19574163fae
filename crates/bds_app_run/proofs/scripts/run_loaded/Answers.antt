use Rattle.std.proofs.Common.{Result, refl, sym, subst}
use Rattle.bds_host.specs.declared.faults.Fault.{Fault as AFault}
use Rattle.bds_meaning.specs.Begin.{opens_if}
use Rattle.bds_meaning.specs.Refusals.{Accepted}
use Rattle.bds_tree.specs.StmtView.{script_of}
use Rattle.bds_app_run.specs.Job.{accepted_with, job_of}
use Rattle.bds_app_run.specs.Ways.{Reaches, at_end}
use Rattle.bds_app_run.proofs.Beginning.{given_opens, refused_opens}
use Rattle.bds_app_run.proofs.Saves.{quiet_if_run, saves_if_run}
use Rattle.bds_app_run.proofs.scripts.run_loaded.Goals as goal

pub returns-in-Ok-clause-reaches : goal.returns-in-Ok-clause-reaches
returns-in-Ok-clause-reaches g c =
    let log = g.H.Host.log in
    let call = c.args.call.now in
    subst (λ (r : Result Accepted AFault). Reaches call (opens_if (job_of call) r) (log c.args.host.now) (log c.run_kept.new.host) at_end c.run_kept.result)
    (sym (given_opens call (script_of c.args.typed.script) c.args.typed c.in-Ok.typed refl c.in-Ok.ensures)) c.run_kept.ensures.reaches

pub returns-in-Err-clause-reaches : goal.returns-in-Err-clause-reaches
returns-in-Err-clause-reaches g c = c.refuse_words.ensures.reaches _ (refused_opens c.args.call.now (script_of c.args.typed.script) c.args.typed c.in-Err.fault c.in-Err.ensures)

pub returns-in-Ok-clause-saves : goal.returns-in-Ok-clause-saves
returns-in-Ok-clause-saves g c =
    let log = g.H.Host.log in
    let call = c.args.call.now in
    saves_if_run call (log c.args.host.now) (log c.run_kept.new.host) (script_of c.args.typed.script) (accepted_with c.in-Ok.typed) (given_opens call (script_of c.args.typed.script) c.args.typed c.in-Ok.typed refl c.in-Ok.ensures) c.run_kept.ensures.saves

pub returns-in-Err-clause-saves : goal.returns-in-Err-clause-saves
returns-in-Err-clause-saves g c =
    let log = g.H.Host.log in
    quiet_if_run c.args.call.now (log c.args.host.now) (log c.refuse_words.new.host) (script_of c.args.typed.script) c.refuse_words.ensures.quiet
