use Rattle.std.proofs.Common.{refl}
use Rattle.bds_farm.proofs.Halves.{byte_done, line_done}
use Rattle.bds_farm.proofs.learning.learn_ended.Goals as goal

pub returns-in_ok-learn_line : goal.returns-in_ok-learn_line
returns-in_ok-learn_line c =
    λ last from h. line_done from c.args.text.now c.args.start c.args.i _ _ _ refl c.requires.inside
    c.if-text-i-eq10.true h
    (c.in_ok-learn_line.ensures last)

pub returns-else-text-i-eq10 : goal.returns-else-text-i-eq10
returns-else-text-i-eq10 c =
    λ last from h. byte_done from c.args.text.now c.args.start c.args.i _ c.requires.within c.requires.inside
    c.if-text-i-eq10.false h
