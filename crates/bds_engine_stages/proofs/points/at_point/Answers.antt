use Rattle.std.proofs.Common.{None, subst, sym, ◌≡◌, ◌∙◌}
use Rattle.bds_tasks.specs.Starts.{startable}
use Rattle.bds_state.specs.Parts.{Parts}
use Rattle.bds_engine_stages.specs.Steps.{CallLeadsTo}
use Rattle.bds_engine_stages.proofs.PointSteps.{point_is}
use Rattle.bds_engine_stages.proofs.points.at_point.Goals as goal

pub returns-in-Some : goal.returns-in-Some
returns-in-Some g c = λ budget used d at.
    let log = g.H.Host.log in
    let s : Parts = c.args.state.now in
    subst (λ z. CallLeadsTo s c.args.cpus budget z (log c.args.host.now) (log c.start.new.host) c.start.new.state used c.start.result) (point_is s c.args.cpus budget used d at) (c.start.ensures budget used)

pub returns-in-None : goal.returns-in-None
returns-in-None g c = λ budget used d at.
    let log = g.H.Host.log in
    let s : Parts = c.args.state.now in
    subst (λ z. CallLeadsTo s c.args.cpus budget z (log c.args.host.now) (log c.choose.new.host) c.choose.new.state used c.choose.result) (point_is s c.args.cpus budget used d at)
    (c.choose.ensures c.args.cpus budget used (subst (λ (p : Parts). startable c.args.cpus p.tasks ≡ None) c.state.view_is (sym c.startable.ensures ∙ c.in-None.is)))
