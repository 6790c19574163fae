use Rattle.std.proofs.Common.{◌∙◌, Err, ap, sym, subst}
use Rattle.bds_meaning.specs.Begin.{opens_if}
use Rattle.bds_schedule.specs.Steps.{Leads, Halts}
use Rattle.bds_app_run.specs.Job.{job_of}
use Rattle.bds_app_run.specs.Ways.{Reaches, at_end}
use Rattle.bds_app_run.proofs.Quiet.{nothing_added}
use Rattle.bds_app_run.proofs.RunLaws.{opens_on_way}
use Rattle.bds_app_run.proofs.scripts.refuse_words.Goals as goal

pub returns-in-Ok-clause-reaches : goal.returns-in-Ok-clause-reaches
returns-in-Ok-clause-reaches g c = λ opened is.
    let log = g.H.Host.log in
    let e = is c.in-Ok.ensures.1 ∙ ap (λ f. Err f) (sym c.in-Ok.ensures.0) in
    subst (λ r. Reaches c.args.call.now (opens_if (job_of c.args.call.now) r) (log c.args.host.now) (log c.refuse.new.host) at_end c.refuse.result) (sym e) (c.refuse.ensures.reaches c.args.call.now)

pub returns-in-Err-clause-reaches : goal.returns-in-Err-clause-reaches
returns-in-Err-clause-reaches g c = λ opened is. Halts.halts_at (opens_if (job_of c.args.call.now) opened) (opens_on_way (job_of c.args.call.now) opened) Leads.here

pub returns-in-Ok-clause-quiet : goal.returns-in-Ok-clause-quiet
returns-in-Ok-clause-quiet g c = c.refuse.ensures.quiet

pub returns-in-Err-clause-quiet : goal.returns-in-Err-clause-quiet
returns-in-Err-clause-quiet g c = nothing_added _
