use Rattle.std.proofs.Common.{sym, subst}
use Rattle.bds_meaning.specs.Begin.{Stage}
use Rattle.bds_schedule.specs.Steps.{Leads, Halts}
use Rattle.bds_app_run.specs.Job.{accepted_with}
use Rattle.bds_app_run.specs.Ways.{Reaches, at_end}
use Rattle.bds_app_run.proofs.Quiet.{nothing_added}
use Rattle.bds_app_run.proofs.RunLaws.{fits_opens, fits_run, opens_on_way, too_large_refuses}
use Rattle.bds_app_run.proofs.Saves.{quiet_if_fits, saves_if_fits}
use Rattle.bds_app_run.proofs.running.run_if_fits.Goals as goal

pub returns-in-Ok-clause-reaches : goal.returns-in-Ok-clause-reaches
returns-in-Ok-clause-reaches g c =
    let log = g.H.Host.log in
    let P : Stage → Type 0 = λ x. Reaches c.args.call.now x (log c.args.host.now) (log c.run_unit.new.host) at_end c.run_unit.result in
    subst P (sym (fits_opens c.args.call.now c.args.typed.now c.in-Ok.ensures.1)) c.run_unit.ensures.reaches

pub returns-in-Err-TooBig-clause-reaches : goal.returns-in-Err-TooBig-clause-reaches
returns-in-Err-TooBig-clause-reaches g c =
    let log = g.H.Host.log in
    let P : Stage → Type 0 = λ x. Reaches c.args.call.now x (log c.args.host.now) (log c.refuse.new.host) at_end c.refuse.result in
    subst P (sym (too_large_refuses c.args.call.now c.args.typed.now (rw c.in-Err-TooBig.field-0-is at c.in-Err-TooBig.ensures)))
    (rw c.requires.path at c.refuse.ensures.reaches c.args.call.now)

pub returns-in-Err-NoMemory-clause-reaches : goal.returns-in-Err-NoMemory-clause-reaches
returns-in-Err-NoMemory-clause-reaches g c = Halts.halts_at _ (opens_on_way _ _) Leads.here

pub returns-in-Ok-clause-saves : goal.returns-in-Ok-clause-saves
returns-in-Ok-clause-saves g c =
    let log = g.H.Host.log in
    saves_if_fits c.args.call.now (log c.args.host.now) (log c.run_unit.new.host) (accepted_with c.args.typed.now) (fits_run c.args.call.now c.args.typed.now c.in-Ok.ensures.1) c.run_unit.ensures.saves

pub returns-in-Err-TooBig-clause-saves : goal.returns-in-Err-TooBig-clause-saves
returns-in-Err-TooBig-clause-saves g c =
    let log = g.H.Host.log in
    quiet_if_fits c.args.call.now (log c.args.host.now) (log c.refuse.new.host) (accepted_with c.args.typed.now)
    c.refuse.ensures.quiet

pub returns-in-Err-NoMemory-clause-saves : goal.returns-in-Err-NoMemory-clause-saves
returns-in-Err-NoMemory-clause-saves g c = quiet_if_fits c.args.call.now _ _ (accepted_with c.args.typed.now) (nothing_added _)
