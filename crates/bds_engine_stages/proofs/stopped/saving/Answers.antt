use Rattle.std.proofs.Common.{ap, sym, inr, ◌∙◌}
use Rattle.bds_schedule.specs.Stages.{checkpoint_of}
use Rattle.bds_state.specs.Parts.{Parts}
use Rattle.bds_engine_stages.proofs.Joining.{halts_err}
use Rattle.bds_engine_stages.proofs.Stops.{save_halts, saves}
use Rattle.bds_engine_stages.proofs.stopped.saving.Goals as goal

pub returns-in_err-path : goal.returns-in_err-path
returns-in_err-path g c = λ cpus budget used d at.
    let log = g.H.Host.log in
    let s : Parts = c.args.state.now in
    halts_err s cpus budget d (log c.args.host.now) (log c.args.host.now) s used c.from_residual.result c.from_residual.ensures.1 (save_halts s cpus budget used d (log c.args.host.now) at)

pub returns-in_err-image : goal.returns-in_err-image
returns-in_err-image g c = λ cpus budget used d at.
    let log = g.H.Host.log in
    let s : Parts = c.args.state.now in
    halts_err s cpus budget d (log c.args.host.now) (log c.args.host.now) s used c.from_residual-in_err-image.result c.from_residual-in_err-image.ensures.1 (save_halts s cpus budget used d (log c.args.host.now) at)

pub returns : goal.returns
returns g c = λ cpus budget used d at.
    let log = g.H.Host.log in
    let s : Parts = c.args.state.now in
    saves s cpus budget used d at (log c.args.host.now) (log c.save.new.host) c.in_ok-path.path c.in_ok-image.image c.save.result (c.in_ok-path.ensures ∙ ap (λ (p : Parts). checkpoint_of p.path) c.state.view_is) c.in_ok-image.ensures (record { spelled = inr (sym c.in_ok-image.ensures); valid = c.is_valid.ensures; fits = c.numbers_fit.ensures }) c.save.ensures
