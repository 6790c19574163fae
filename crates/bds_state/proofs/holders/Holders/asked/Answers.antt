use Rattle.std.proofs.Common.{◌≡◌, List, ℕ, Some, rules, subst}
use Rattle.bds_levels.specs.Least.{place_from}
use Rattle.bds_state.specs.Holding.{ArePassed}
use Rattle.bds_state.proofs.HolderLaws.{passed}
use Rattle.bds_state.proofs.holders.Holders.asked.Goals as goal

pub returns-in-Some : goal.returns-in-Some
returns-in-Some c =
    let found : Some c.in-Some.k ≡ place_from c.args.start 0 c.self.inside.tasks = search rules in
    subst (λ (ns : List ℕ). ArePassed c.args.start c.in-Some.k ns) c.self.view_is
    (passed c.args.start c.in-Some.k c.self.inside.tasks found)
