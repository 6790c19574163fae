use Rattle.std.proofs.Common.{◌∙◌}
use Rattle.std.proofs.lemmas.Result.{IfOk-weaker}
use Rattle.bds_tree.specs.StmtView.{script_of}
use Rattle.bds_app_trials.proofs.TooBig.{base_again, of_test}
use Rattle.bds_app_trials.proofs.sizes.is_test_too_big.Goals as goal

pub is_too_big-big-requires : goal.is_too_big-big-requires
is_too_big-big-requires c =
    let is = c.in_ok-test.ensures c.requires.base.0 c.requires.base.1 in (is.settings, is.args)

pub returns : goal.returns
returns c =
    IfOk-weaker c.is_too_big-big.result _ _ (λ big is t h.
    let test = c.in_ok-test.ensures t h in (
      base_again t (script_of c.args.base.now) (script_of c.give_back.new.base) h
          (c.give_back.ensures t c.args.index test),
      λ f there. is ∙ of_test t c.in_ok-test.test c.args.index f test there,
    )) c.is_too_big-big.ensures
