use Rattle.std.proofs.Common.{◌≡◌, ◌++◌, ◌∙◌, List, ℕ, None, ap, subst}
use Rattle.std.proofs.lemmas.Result.{IfOk-weaker}
use Rattle.std.specs.List.Sorted.{IsPermutation}
use Rattle.bds_tasks.specs.Makers.{pending_makers, unrepeated}
use Rattle.bds_tasks.specs.Tasks.{is_needed, numbers_of}
use Rattle.bds_tasks.proofs.MakerLaws.{needs_found}
use Rattle.bds_tasks.proofs.needs.needs_by_index.Goals as goal

pub returns : goal.returns
returns c =
    let tasks = c.args.tasks.now in
    let makers = c.args.makers.now.entries in
    let new = c.args.new.now in
    let sorted = c.sort.new.numbers.items in
    let found : c.put_makers-2.new.out.items ≡ pending_makers tasks makers new.ins ++ pending_makers tasks makers new.outs =
    c.in_ok-put_makers-2.ensures
    ∙ ap (λ (ns : List ℕ). ns ++ pending_makers tasks makers c.as_slice-2.result.now) (c.in_ok-put_makers.ensures ∙ ap (λ (ns : List ℕ). ns ++ pending_makers tasks makers c.as_slice.result.now) c.new-found.ensures.items ∙ ap (pending_makers tasks makers) c.as_slice.ensures)
    ∙ ap (λ (fs : List (List ℕ)). pending_makers tasks makers new.ins ++ pending_makers tasks makers fs) c.as_slice-2.ensures in
    let moved = subst (λ (ns : List ℕ). IsPermutation ns sorted) found c.sort.ensures.moved in
    IfOk-weaker c.unrepeated.result (λ out. out ≡ unrepeated None c.deref.result.now) (λ needs. needs ≡ numbers_of (is_needed new) tasks)
    (λ out e. e ∙ ap (unrepeated None) c.deref.ensures.value ∙ needs_found tasks makers new sorted c.requires moved c.sort.ensures.sorted)
    c.unrepeated.ensures
