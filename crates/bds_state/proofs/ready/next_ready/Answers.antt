use Rattle.std.proofs.Common.{◌≡◌, ◌+◌, ◌∙◌, sym, ap, subst, drop, filter, ℕ, Option}
use Rattle.bds_code_frames.specs.declared.thread.Thread.{Thread}
use Rattle.bds_tasks.specs.Starts.{first}
use Rattle.bds_state.specs.Ready.{is_above, is_ready, numbers_from, ready}
use Rattle.bds_state.proofs.ReadyLaws.{ready_above}
use Rattle.bds_state.proofs.ready.next_ready.Goals as goal

pub returns-in-Some : goal.returns-in-Some
returns-in-Some c =
    let test = λ (t : Thread). is_ready c.args.threads.now c.args.tasks.now t.status in
    let n = c.in-Some.n in
    let same = subst (λ (o : Option ℕ). filter (is_above o) (ready c.args.threads.now c.args.tasks.now) ≡ numbers_from
    (n + 1) test (drop (n + 1) c.args.threads.now)) (sym c.in-Some.is)
    (ready_above test n c.args.threads.now) in
    c.ready_from-in-Some.ensures ∙ ap first (sym same)
