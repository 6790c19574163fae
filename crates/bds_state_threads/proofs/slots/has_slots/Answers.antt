use Rattle.std.proofs.Common.{◌≡◌, List, length, arith, ◌∙◌, subst, ◌++◌}
use Rattle.std.specs.Bool.{Decides}
use Rattle.std.proofs.lemmas.Result.{IfOk-weaker}
use Rattle.bds_value.specs.declared.value.Ty.{Ty}
use Rattle.bds_verify.specs.Threads.{Typed}
use Rattle.bds_state_threads.proofs.Resting.{slots-few, slots-first, slots-both}
use Rattle.bds_state_threads.proofs.slots.has_slots.Goals as goal

pub returns-then-slots-count : goal.returns-then-slots-count
returns-then-slots-count c = slots-few c.args.slots.now c.args.function.now.params c.args.function.now.locals (omega (arith, c.if-slots-count.true, c.len-count.ensures))

pub returns-then-not-branch : goal.returns-then-not-branch
returns-then-not-branch c =
    let f = c.args.function.now in
    let slots = c.args.slots.now in
    let first = c.split_at.result.0.now in
    let rest = c.split_at.result.1.now in
    let count : length first ≡ length f.params = c.split_at.ensures.front_len ∙ c.len-count.ensures in
    slots-first slots first rest f.params f.locals c.split_at.ensures.by_index.0 count c.in_ok-are_of.field-0
    (subst (λ (ts : List Ty). Decides c.in_ok-are_of.field-0 (Typed first ts)) c.as_slice.ensures c.in_ok-are_of.ensures) c.if-not-branch.true

pub returns : goal.returns
returns c =
    let f = c.args.function.now in
    let slots = c.args.slots.now in
    let first = c.split_at.result.0.now in
    let rest = c.split_at.result.1.now in
    let count : length first ≡ length f.params = c.split_at.ensures.front_len ∙ c.len-count.ensures in
    let a = subst (λ (ts : List Ty). Decides c.in_ok-are_of.field-0 (Typed first ts)) c.as_slice.ensures c.in_ok-are_of.ensures in
    IfOk-weaker c.are_of-2.result (λ b. Decides b (Typed rest c.as_slice-2.result.now)) (λ b. Decides b (Typed slots (f.params ++ f.locals)))
    (λ b d. slots-both slots first rest f.params f.locals c.split_at.ensures.by_index.0 count c.in_ok-are_of.field-0 b a c.if-not-branch.false (subst (λ (ts : List Ty). Decides b (Typed rest ts)) c.as_slice-2.ensures d)) c.are_of-2.ensures
