use Rattle.std.proofs.Common.{◌≡◌, ◌≤◌, ◌∙◌, ℕ, List, Ok, Err, Some, length, slice_get, refl, sym, ap, subst, arith}
use Rattle.bds_value.specs.declared.TheConstants.{MAX_ITEMS}
use Rattle.bds_value.specs.declared.faults.RunFault.TheVariants as run
use Rattle.bds_machine.specs.declared.point.Point.TheVariants as point
use Rattle.bds_state.specs.Parts.{Parts}
use Rattle.bds_engine_parts.specs.Look.{AreNamed}
use Rattle.bds_engine_parts.specs.declared.ids.IdFault.TheVariants.{NoId}
use Rattle.bds_engine.proofs.Contacting.{halts_here, halts_so}
use Rattle.bds_engine.proofs.Requesting.{waits_for, waits_none}
use Rattle.bds_engine.proofs.requests.wait_for.Goals as goal

pub wait_behind-requires-clause-few : goal.wait_behind-requires-clause-few
wait_behind-requires-clause-few c =
    let carries = c.points_carry_what_fits.ensures c.args.state.now.unit (point.Wait c.args.texts) c.args.thread c.requires.left in
    let most : length c.args.texts ≤ MAX_ITEMS = carries.count in
    let few : length c.in-Ok.ids ≤ length c.as_slice.result.now = c.in-Ok.ensures.2 in
    let same : length c.as_slice.result.now ≡ length c.args.texts = ap length c.as_slice.ensures in
    omega (arith, most, few, same)

pub returns-in-Ok : goal.returns-in-Ok
returns-in-Ok c = λ log.
    let s = c.args.state.now in
    let tasks : c.count-tasks.result ≡ length s.tasks = c.count-tasks.ensures ∙ ap (λ (p : Parts). length p.tasks) c.state.view_is in
    let threads : c.len.result ≡ length s.threads = c.len.ensures ∙ ap (λ (p : Parts). length p.threads) c.state.view_is in
    let named = subst (λ n. AreNamed n (length s.threads) c.args.texts (Ok c.in-Ok.ids)) tasks (subst (λ n. AreNamed c.count-tasks.result n c.args.texts (Ok c.in-Ok.ids)) threads
    (subst (λ (xs : List (List ℕ)). AreNamed c.count-tasks.result c.len.result xs (Ok c.in-Ok.ids)) c.as_slice.ensures c.in-Ok.ensures)) in
    waits_for s c.args.k c.args.thread c.args.texts c.requires c.in-Ok.ids named c.wait_behind.new.state c.wait_behind.result c.wait_behind.ensures log

pub returns-in_err-text-in-Err-NoId : goal.returns-in_err-text-in-Err-NoId
returns-in_err-text-in-Err-NoId c = λ log. halts_so c.args.state.now c.args.state.now c.args.k c.args.thread (point.Wait c.args.texts) log c.from_residual.result c.from_residual.ensures.1

pub returns-in-Err-NoId : goal.returns-in-Err-NoId
returns-in-Err-NoId c = λ log.
    let s = c.args.state.now in
    let tasks : c.count-tasks.result ≡ length s.tasks = c.count-tasks.ensures ∙ ap (λ (p : Parts). length p.tasks) c.state.view_is in
    let threads : c.len.result ≡ length s.threads = c.len.ensures ∙ ap (λ (p : Parts). length p.threads) c.state.view_is in
    let clause = rw c.in-Err-NoId.field-0-is at c.in-Err-NoId.ensures in
    let named = subst (λ n. AreNamed n (length s.threads) c.args.texts (Err (NoId c.in-Err-NoId.i))) tasks (subst (λ n. AreNamed c.count-tasks.result n c.args.texts (Err (NoId c.in-Err-NoId.i))) threads
    (subst (λ (xs : List (List ℕ)). AreNamed c.count-tasks.result c.len.result xs (Err (NoId c.in-Err-NoId.i))) c.as_slice.ensures clause)) in
    let read : slice_get c.args.texts c.in-Err-NoId.i ≡ Some c.in_ok-text-in-Err-NoId.text = subst (λ (xs : List (List ℕ)). slice_get xs c.in-Err-NoId.i ≡ Some c.in_ok-text-in-Err-NoId.text) c.as_slice-in-Err-NoId.ensures c.in_ok-text-in-Err-NoId.ensures in
    let both : Some named.0 ≡ Some c.in_ok-text-in-Err-NoId.text = sym named.1 ∙ read in
    let same : named.0 ≡ c.in_ok-text-in-Err-NoId.text = cc both in
    waits_none s c.args.k c.args.thread c.args.texts c.requires (run.NoId c.in_ok-text-in-Err-NoId.text) (named.2 ∙ ap (λ x. Err (run.NoId x)) same) s c.breaks.result (refl, c.breaks.ensures) log

pub returns : goal.returns
returns c = λ log. halts_here c.args.state.now c.args.state.now c.args.k c.args.thread (point.Wait c.args.texts) log
