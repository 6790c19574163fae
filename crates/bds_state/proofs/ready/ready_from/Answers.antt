use Rattle.std.proofs.Common.{◌<◌, ◌∙◌, ap, length, rules, sym}
use Rattle.bds_code_frames.specs.declared.thread.Thread.{Thread}
use Rattle.bds_state.specs.Ready.{is_ready}
use Rattle.bds_state.proofs.Places.{found_at}
use Rattle.bds_state.proofs.ReadyLaws.{first_next, first_passed}
use Rattle.bds_state.proofs.ready.ready_from.Goals as goal

pub loop-n-init : goal.loop-n-init
loop-n-init c = first_passed c.args.threads.now c.args.tasks.now c.args.held.now c.args.start c.asked-n.result
    c.requires.held c.asked-n.ensures

pub loop-n-preserved : goal.loop-n-preserved
loop-n-preserved c =
    let threads = c.args.threads.now in
    let n = c.loop-n.n in
    let within : n < length threads = search rules in
    let waits = ap (λ (t : Thread). is_ready threads c.args.tasks.now t.status) c.index-threads-n.is
    ∙ (sym c.is_ready.ensures ∙ c.if-is_ready.false) in
    first_next threads c.args.tasks.now c.args.held.now n c.asked-n-in-loop-n.result c.index-threads-n.result
    (found_at threads n c.index-threads-n.result within c.index-threads-n.is) waits c.requires.held
    c.asked-n-in-loop-n.ensures ∙ c.loop-n.invariant
