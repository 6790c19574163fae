use Rattle.std.proofs.Common.{◌≡◌, ◌<◌, ◌≤◌, ◌^◌, ◌∙◌, ℕ, List, Some, length, slice_get, refl, sym, ap, subst, arith}
use Rattle.std.proofs.lemmas.Option.{slice_get_within}
use Rattle.bds_value.specs.declared.TheConstants.{MAX_TEXT, MAX_THREADS}
use Rattle.bds_value.specs.declared.value.Value.TheVariants as value
use Rattle.bds_code.specs.declared.unit.Function.{Function}
use Rattle.bds_machine.specs.declared.point.Point.TheVariants as point
use Rattle.bds_machine.proofs.AnswerFits.{fits-Text}
use Rattle.bds_schedule.specs.Ids.{thread_id}
use Rattle.bds_state.specs.Parts.{Parts}
use Rattle.bds_verify.specs.Threads.{Typed}
use Rattle.bds_engine_stages.specs.declared.stage.Stage.TheVariants as stage
use Rattle.bds_engine.proofs.Beginning.{back_lives, begins_thread, err_back, many_threads}
use Rattle.bds_engine.proofs.Contacting.{halts_so}
use Rattle.bds_engine.proofs.Fitting.{short_thread}
use Rattle.bds_engine.proofs.requests.spawn.Goals as goal

pub returns-then-n-ge-MAX_THREADS : goal.returns-then-n-ge-MAX_THREADS
returns-then-n-ge-MAX_THREADS c = λ log.
    let s = c.args.state.now in
    let count : c.len-n.result ≡ length s.threads = c.len-n.ensures ∙ ap (λ (p : Parts). length p.threads) c.state.view_is in
    let full : MAX_THREADS ≤ length s.threads = omega (arith, count, c.if-n-ge-MAX_THREADS.true) in
    many_threads s c.args.k c.args.thread c.args.function c.args.args c.requires full s c.breaks.result (refl, c.breaks.ensures) log

pub returns-in_err-id : goal.returns-in_err-id
returns-in_err-id c = λ log. halts_so c.args.state.now c.args.state.now c.args.k c.args.thread (point.Spawn c.args.function c.args.args) log c.from_residual.result c.from_residual.ensures.1

pub hand-requires : goal.hand-requires
hand-requires c =
    let low : c.len-n.result < 2 ^ 32 = omega (arith, c.if-n-ge-MAX_THREADS.false) in
    let short : length c.in_ok-id.id ≤ MAX_TEXT = subst (λ (x : List ℕ). length x ≤ MAX_TEXT) (sym c.in_ok-id.ensures) (short_thread c.len-n.result low) in
    (point.Spawn c.args.function c.args.args, c.requires, fits-Text (point.Spawn c.args.function c.args.args) c.in_ok-id.id short refl)

pub begin-requires-clause-maker : goal.begin-requires-clause-maker
begin-requires-clause-maker c = back_lives c.args.state.now c.hand.new.state c.args.k c.args.thread (Some (value.Text c.in_ok-id.id)) c.requires.place c.requires.ready c.in-Ok.ensures.1

pub begin-requires-clause-function : goal.begin-requires-clause-function
begin-requires-clause-function c =
    let s = c.args.state.now in
    let carries = c.points_carry_what_fits.ensures s.unit (point.Spawn c.args.function c.args.args) c.args.thread c.requires.left in
    subst (λ (p : Parts). c.args.function < length p.unit.functions) (sym c.in-Ok.ensures.1.parts) (slice_get_within s.unit.functions c.args.function carries.0 carries.1)

pub begin-requires-clause-args : goal.begin-requires-clause-args
begin-requires-clause-args c = λ f there.
    let s = c.args.state.now in
    let carries = c.points_carry_what_fits.ensures s.unit (point.Spawn c.args.function c.args.args) c.args.thread c.requires.left in
    let now : slice_get s.unit.functions c.args.function ≡ Some f = subst (λ (p : Parts). slice_get p.unit.functions c.args.function ≡ Some f) c.in-Ok.ensures.1.parts there in
    let q : Some carries.0 ≡ Some f = sym carries.1 ∙ now in
    let same : carries.0 ≡ f = cc q in
    subst (λ (x : Function). Typed c.args.args x.params) same carries.2

pub returns-in-Ok : goal.returns-in-Ok
returns-in-Ok c = λ log.
    let s = c.args.state.now in
    let count : c.len-n.result ≡ length s.threads = c.len-n.ensures ∙ ap (λ (p : Parts). length p.threads) c.state.view_is in
    let room : length s.threads < MAX_THREADS = omega (arith, count, c.if-n-ge-MAX_THREADS.false) in
    begins_thread s c.args.k c.args.thread c.args.function c.args.args c.requires c.in_ok-id.id (c.in_ok-id.ensures ∙ ap thread_id count) room c.hand.new.state c.in-Ok.ensures.1 c.begin.new.state c.begin.result c.begin.ensures log

pub returns-in-Err : goal.returns-in-Err
returns-in-Err c = λ log.
    err_back c.args.state.now c.hand.new.state c.hand.new.state c.args.k c.args.thread (point.Spawn c.args.function c.args.args) (Some (value.Text c.in_ok-id.id)) stage.Point c.in-Err.halt c.in-Err.ensures log
