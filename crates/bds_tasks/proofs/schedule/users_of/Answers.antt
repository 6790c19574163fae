use Rattle.std.proofs.Common.{◌<◌, ◌+◌, ◌∙◌, List, ℕ, ap, length, rules, subst, sym}
use Rattle.bds_tasks.specs.Kept.{AreUsersBelow, with_users}
use Rattle.bds_tasks.proofs.ReadLaws.{needs_read}
use Rattle.bds_tasks.proofs.UserLaws.{users_end, users_more, users_start}
use Rattle.bds_tasks.proofs.schedule.users_of.Goals as goal

pub loop-i-init : goal.loop-i-init
loop-i-init c =
    subst (λ (us : List (List ℕ)). AreUsersBelow c.args.tasks.now us 0) (search rules) (users_start c.args.tasks.now)

pub loop-i-preserved : goal.loop-i-preserved
loop-i-preserved c =
    let tasks = c.args.tasks.now in
    let i = c.loop-i.i in
    let users : List (List ℕ) = c.loop-i.users in
    let within : i < length tasks = search rules in
    let needs = c.as_slice.ensures ∙ sym (needs_read tasks i c.index-tasks-i.result within c.index-tasks-i.is) in
    let put = c.in_ok-put_users.ensures ∙ ap (λ (ns : List ℕ). with_users (i + 1) ns users) needs in
    subst (λ (us : List (List ℕ)). AreUsersBelow tasks us (i + 1)) (sym put)
    (users_more tasks c.requires users i c.loop-i.invariant)

pub returns : goal.returns
returns c = users_end c.args.tasks.now c.loop-i.users (search rules)
