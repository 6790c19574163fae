use Rattle.std.proofs.Common.{refl, subst}
use Rattle.std.specs.List.{All}
use Rattle.std.proofs.lemmas.List.{take_all}
use Rattle.std.proofs.lemmas.List.Elements.{All-more}
use Rattle.bds_state.specs.Valid.{IsThere}
use Rattle.bds_state.proofs.judge.all_there.Goals as goal

pub loop-i-preserved : goal.loop-i-preserved
loop-i-preserved c =
    All-more (IsThere c.args.tasks c.args.threads) c.args.ids.now c.loop-i.i _ c.loop-i-test.true c.loop-i.invariant
    (c.is_there-there.ensures.0 c.if-not-there.false)

pub returns : goal.returns
returns c = (
  λ e. subst (All (IsThere c.args.tasks c.args.threads))
      (take_all c.loop-i.i c.args.ids.now c.loop-i-test.false) c.loop-i.invariant,
  λ a. refl,
)
