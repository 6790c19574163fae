use Rattle.std.specs.Option.{option_or}
use Rattle.bds_rules.specs.Indexes.{number_if, number_in}
use Rattle.bds_rules.proofs.IndexLaws.{files_on, kept_on}
use Rattle.bds_rules.proofs.indexes.put_each.Goals as goal

pub loop-file-preserved : goal.loop-file-preserved
loop-file-preserved c = (
  (λ x.
      files_on c.args.files.now c.loop-file.file-index c.args.n c.file-item.result c.as_slice.result.now x
      (number_in c.loop-file.index.entries x) (number_in c.put_one.new.index.entries x) (option_or (number_in c.args.index.now.entries x) (number_if c.args.files.now c.args.n x))
      c.loop-file-test.true c.file-item.is c.as_slice.ensures (c.in_ok-put_one.ensures.ok x) (c.loop-file.invariant.0 x)),
  kept_on c.args.index.now.entries c.loop-file.index.entries c.put_one.new.index.entries c.loop-file.invariant.1 c.put_one.ensures.kept,
)
