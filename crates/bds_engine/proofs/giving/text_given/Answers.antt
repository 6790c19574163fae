use Rattle.std.proofs.Common.{◌≤◌, length, arith}
use Rattle.bds_value.specs.declared.TheConstants.{MAX_TEXT}
use Rattle.bds_machine.proofs.AnswerFits.{fits-Text}
use Rattle.bds_engine.proofs.giving.text_given.Goals as goal

pub hand-requires : goal.hand-requires
hand-requires c =
    let short : length c.args.text ≤ MAX_TEXT = omega arith in
    (c.requires.point, c.requires.out, fits-Text c.requires.point c.args.text short c.requires.told)
