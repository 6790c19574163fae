use Rattle.std.proofs.Common.{◌<◌, ◌+◌, ◌∙◌, List, ℕ, None, rules, subst, sym}
use Rattle.bds_tasks.specs.declared.task.Task.{Task}
use Rattle.bds_tasks.specs.Kept.{Cancelling, all_cancelled, list_at}
use Rattle.bds_tasks.proofs.BadLaws.{bad_done, bad_more, bad_starts, less_left, place_zero, waiting, zeros}
use Rattle.bds_tasks.proofs.ends.cancel_users.Goals as goal

pub loop-at-init : goal.loop-at-init
loop-at-init c =
    let starts =
    bad_starts c.args.n c.args.tasks.now.items c.requires.ended c.requires.bad c.args.keys.now c.requires.keys in
    search rules

pub follow-requires-clause-there : goal.follow-requires-clause-there
follow-requires-clause-there c =
    let at = (place_zero c.loop-at.keys c.in-Some.at (sym c.place.ensures ∙ c.in-Some.is)).0 in
    subst (λ l. c.in-Some.at < l) (c.loop-at.invariant.wide ∙ sym c.requires.users.long) at

pub follow-requires-clause-within : goal.follow-requires-clause-within
follow-requires-clause-within c = (place_zero c.loop-at.keys c.in-Some.at (sym c.place.ensures ∙ c.in-Some.is)).0

pub loop-at-preserved : goal.loop-at-preserved
loop-at-preserved c =
    let n = c.args.n in
    let old : List Task = c.args.tasks.now.items in
    let now : List Task = c.loop-at.tasks.items in
    let ks : List ℕ = c.loop-at.keys in
    let at = c.in-Some.at in
    let users : List ℕ = list_at c.args.needed_by.now at in
    let more = bad_more n old c.requires.ended c.requires.bad c.args.needed_by.now c.requires.users now ks at
    c.loop-at.invariant (sym c.place.ensures ∙ c.in-Some.is) in
    subst (λ (ts : List Task). Cancelling n old ts c.follow.new.keys None) (sym c.follow.ensures.tasks)
    (subst (λ (xs : List ℕ). Cancelling n old (all_cancelled n users now) xs None) (sym c.follow.ensures.keys) more)

pub loop-at-smaller : goal.loop-at-smaller
loop-at-smaller c =
    let n = c.args.n in
    let now : List Task = c.loop-at.tasks.items in
    let ks : List ℕ = c.loop-at.keys in
    let at = c.in-Some.at in
    let users : List ℕ = list_at c.args.needed_by.now at in
    let less = less_left n users now ks at (sym c.place.ensures ∙ c.in-Some.is) in
    subst (λ (ts : List Task). waiting ts + zeros c.follow.new.keys < waiting now + zeros ks)
    (sym c.follow.ensures.tasks) (subst (λ (xs : List ℕ). waiting (all_cancelled n users now) + zeros xs < waiting
    now + zeros ks) (sym c.follow.ensures.keys) less)

pub returns-clause-tasks : goal.returns-clause-tasks
returns-clause-tasks c = (bad_done c.args.n c.args.tasks.now.items c.requires.ended c.requires.bad c.loop-at.tasks.items
    c.loop-at.keys c.loop-at.invariant (search rules)).0

pub returns-clause-keys : goal.returns-clause-keys
returns-clause-keys c = (bad_done c.args.n c.args.tasks.now.items c.requires.ended c.requires.bad c.loop-at.tasks.items
    c.loop-at.keys c.loop-at.invariant (search rules)).1
