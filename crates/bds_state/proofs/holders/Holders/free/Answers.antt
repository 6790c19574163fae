use Rattle.std.proofs.Common.{List, ℕ, subst}
use Rattle.bds_state.specs.Holding.{HoldsNone, IsFreed}
use Rattle.bds_state.proofs.HolderLaws.{freed}
use Rattle.bds_state.proofs.holders.Holders.free.Goals as goal

pub returns : goal.returns
returns c =
    let none = subst (λ (ts : List ℕ). HoldsNone c.args.task ts c.let_all_go.new.tasks) c.as_slice.ensures
    c.let_all_go.ensures.none in
    subst (λ (ns : List ℕ). IsFreed c.args.task ns c.let_all_go.new.tasks) c.self.view_is
    (freed c.args.task c.self.inside.tasks c.let_all_go.new.tasks c.self.inside.lists c.take_list-threads.new.lists
    c.take_list-threads.result c.requires c.self.invariant.1 c.take_list-threads.ensures c.let_all_go.ensures.less
    none).0
