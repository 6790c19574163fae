use Rattle.std.specs.Prelude.{◌≡◌, Some, true}
use Rattle.bds_gen_flow.proofs.ExprFlow.{expr_runs}
use Rattle.bds_gen_flow.proofs.laws.expressions_run.Goals as goal

pub returns : goal.returns
returns c = λ u f labels ticks sc names fits e asked p s v w k. expr_runs u f (λ q t. labels q ≡ Some t) (λ q. ticks q ≡ true) sc names fits e asked p s v w k
