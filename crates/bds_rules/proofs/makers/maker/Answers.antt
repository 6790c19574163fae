use Rattle.std.proofs.Common.{◌≡◌, ◌∙◌, Some, sym}
use Rattle.bds_rules.specs.Makers.{maker}
use Rattle.bds_rules.proofs.IndexLaws.{maker_few}
use Rattle.bds_rules.proofs.makers.maker.Goals as goal

pub number-requires-clause-there : goal.number-requires-clause-there
number-requires-clause-there c =
    let some : maker c.args.rules.now c.args.file.now ≡ Some c.in-Some.n.now = sym (c.requires.known c.args.file.now) ∙ sym c.in-Some.ensures.value in
    maker_few c.args.rules.now c.args.file.now c.in-Some.n.now some
