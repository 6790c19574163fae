use Rattle.std.proofs.Common.{None}
use Rattle.std.specs.Option.{option_copied}
use Rattle.bds_verify.specs.Pass.{shape_of}
use Rattle.bds_verify.proofs.NumberedLaws.{front_none}
use Rattle.bds_verify.proofs.numbers.begin.Goals as goal

pub returns-else-number-gt0 : goal.returns-else-number-gt0
returns-else-number-gt0 c = λ labels at known. (
  front_none c.args.numbers.now.lists.nodes
      (shape_of (option_copied c.args.declared) None),
  known,
)

pub returns-in_default : goal.returns-in_default
returns-in_default c = λ labels at known. (
  front_none c.args.numbers.now.lists.nodes
      (shape_of (option_copied c.args.declared) None),
  known,
)
