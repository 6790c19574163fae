use Rattle.std.proofs.Common.{◌≡◌, ◌∙◌, [], ◌∷◌, List, ap, arith, slice_index_or}
use Rattle.bds_code_frames.specs.declared.thread.Thread.{Thread}
use Rattle.bds_tasks.specs.Tasks.{running}
use Rattle.bds_state.specs.Ready.{ready}
use Rattle.bds_engine_parts.specs.Look.{all_ended}
use Rattle.bds_schedule.specs.Configuration.{at_point}
use Rattle.bds_state.specs.Parts.{Parts}
use Rattle.bds_engine_parts.specs.Seen.{seen}
use Rattle.bds_engine_stages.specs.Steps.{rest_of}
use Rattle.bds_engine_stages.proofs.Joining.{halts_err}
use Rattle.bds_engine_stages.proofs.PointSteps.{goes_alone, halts, none_of, one_of, rests}
use Rattle.bds_engine_stages.proofs.points.choose.Goals as goal

pub returns-in_err-ready : goal.returns-in_err-ready
returns-in_err-ready g c = λ cpus budget used none.
    let log = g.H.Host.log in
    let s : Parts = c.args.state.now in
    halts_err s cpus budget (seen s cpus budget used at_point) (log c.args.host.now) (log c.args.host.now) s used
    c.from_residual.result c.from_residual.ensures.1 (halts s cpus budget used (log c.args.host.now))

pub returns-in_err-running : goal.returns-in_err-running
returns-in_err-running g c = λ cpus budget used none.
    let log = g.H.Host.log in
    let s : Parts = c.args.state.now in
    halts_err s cpus budget (seen s cpus budget used at_point) (log c.args.host.now) (log c.args.host.now) s used
    c.from_residual-in_err-running.result c.from_residual-in_err-running.ensures.1
    (halts s cpus budget used (log c.args.host.now))

pub returns-in-empty : goal.returns-in-empty
returns-in-empty g c = λ cpus budget used none.
    let log = g.H.Host.log in
    let s : Parts = c.args.state.now in
    let now : c.in_ok-running.running ≡ running s.tasks =
    c.in_ok-running.ensures ∙ ap running (ap (λ (p : Parts). p.tasks) c.state.view_is) in
    let idle : [] ≡ running s.tasks =
    none_of c.in_ok-running.running (running s.tasks) (omega (arith, c.len.ensures, c.if-len-gt0.false)) now in
    let nothing : [] ≡ ready s.threads s.tasks = none_of c.as_slice.result.now (ready s.threads s.tasks)
    (omega (arith, c.in-empty.len_below)) (c.as_slice.ensures ∙ c.in_ok-ready.ensures) in
    rests s cpus budget used c.is_valid.ensures none (log c.args.host.now) nothing idle c.at_rest.result
    (c.at_rest.ensures
    ∙ ap (λ (ts : List Thread). rest_of (all_ended ts)) (c.as_slice-in-empty.ensures
    ∙ ap (λ (p : Parts). p.threads) c.state.view_is))

pub returns-in-len1 : goal.returns-in-len1
returns-in-len1 g c = λ cpus budget used none.
    let log = g.H.Host.log in
    let s : Parts = c.args.state.now in
    let now : c.in_ok-running.running ≡ running s.tasks =
    c.in_ok-running.ensures ∙ ap running (ap (λ (p : Parts). p.tasks) c.state.view_is) in
    let idle : [] ≡ running s.tasks =
    none_of c.in_ok-running.running (running s.tasks) (omega (arith, c.len.ensures, c.if-len-gt0.false)) now in
    let alone : slice_index_or c.as_slice.result.now 0 0 ∷ [] ≡ ready s.threads s.tasks = one_of c.as_slice.result.now
    (ready s.threads s.tasks) c.in-len1.len_at_least c.in-len1.len_below (c.as_slice.ensures
    ∙ c.in_ok-ready.ensures) in
    goes_alone s cpus budget used c.is_valid.ensures none (log c.args.host.now)
    (slice_index_or c.as_slice.result.now 0 0) alone idle
