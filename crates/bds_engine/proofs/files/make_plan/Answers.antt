use Rattle.std.proofs.Common.{◌≡◌, ◌≤◌, ◌+◌, ◌∙◌, ℕ, List, length, sym, ap, subst, arith}
use Rattle.std.specs.List.{AllByRecursion}
use Rattle.bds_value.specs.declared.TheConstants.{MAX_ITEMS, MAX_TASKS, MAX_TEXT}
use Rattle.bds_machine.proofs.AnswerFits.{fits-Texts}
use Rattle.bds_state.specs.Parts.{Parts}
use Rattle.bds_engine_stages.specs.Held.{IsOut}
use Rattle.bds_engine.specs.Given.{with_planned}
use Rattle.bds_engine.proofs.Contacting.{out_tasks}
use Rattle.bds_engine.proofs.Fitting.{count_ids, short_ids}
use Rattle.bds_engine.proofs.files.make_plan.Goals as goal

pub hand-requires : goal.hand-requires
hand-requires c =
    let s = c.args.state.now in
    let a = c.requires.awaits in
    let same : length c.state.inside.tasks ≡ length s.tasks = ap (λ (p : Parts). length p.tasks) c.state.view_is in
    let room : length s.tasks + length c.args.planned.now ≤ MAX_TASKS = omega (arith, same, c.count.ensures, c.if-planned-count.false, c.are_tasks.ensures.count) in
    let ids = c.in_ok-ids.ensures.1 in
    let count : length c.in_ok-ids.ids ≡ length c.args.planned.now = ap length ids ∙ count_ids (length s.tasks + 1) c.args.planned.now in
    let few : length c.in_ok-ids.ids ≤ MAX_ITEMS = omega (arith, count, room) in
    let short : AllByRecursion (λ t. length t ≤ MAX_TEXT) c.in_ok-ids.ids = subst (λ (xs : List (List ℕ)). AllByRecursion (λ t. length t ≤ MAX_TEXT) xs) (sym ids) (short_ids (length s.tasks + 1) c.args.planned.now (omega (arith, room))) in
    let out : IsOut c.add_tasks.new.state c.args.k a.point c.args.thread =
    subst (λ (x : Parts). IsOut x c.args.k a.point c.args.thread) (sym c.in_ok-ids.ensures.0) (out_tasks s c.args.k a.point c.args.thread (with_planned c.args.k s.rules s.tasks c.args.planned.now) a.out) in
    (a.point, out, fits-Texts a.point c.in_ok-ids.ids few short a.told)
