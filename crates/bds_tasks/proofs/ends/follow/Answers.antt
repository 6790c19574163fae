use Rattle.std.proofs.Common.{◌<◌, ◌∙◌, ℕ, List, ap, length, slice_set, subst, sym}
use Rattle.bds_levels.specs.Least.{NEVER}
use Rattle.bds_tasks.specs.Kept.{all_cancelled, all_marked}
use Rattle.bds_tasks.proofs.ReadLaws.{list_read, marked_long}
use Rattle.bds_tasks.proofs.ends.follow.Goals as goal

pub put-requires : goal.put-requires
put-requires c =
    let ks : List ℕ = c.args.keys.now in
    let long = ap (λ (xs : List ℕ). length xs) c.cancel_each.ensures.keys
    ∙ marked_long c.args.n c.as_slice.result.now c.args.tasks.now.items ks in
    subst (λ l. c.args.at < l) (sym long) c.requires.within

pub returns-clause-tasks : goal.returns-clause-tasks
returns-clause-tasks c =
    let users = c.as_slice.ensures
    ∙ list_read c.args.needed_by.now c.args.at c.index-needed_by-at.result c.requires.there c.index-needed_by-at.is
    in
    c.cancel_each.ensures.tasks ∙ ap (λ (ms : List ℕ). all_cancelled c.args.n ms c.args.tasks.now.items) users

pub returns-clause-keys : goal.returns-clause-keys
returns-clause-keys c =
    let ks : List ℕ = c.args.keys.now in
    let users = c.as_slice.ensures
    ∙ list_read c.args.needed_by.now c.args.at c.index-needed_by-at.result c.requires.there c.index-needed_by-at.is
    in
    c.put.ensures
    ∙ ap (λ (xs : List ℕ). slice_set xs c.args.at NEVER) (c.cancel_each.ensures.keys
    ∙ ap (λ (ms : List ℕ). all_marked c.args.n ms c.args.tasks.now.items ks) users)
