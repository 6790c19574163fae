use Rattle.bds_rules.specs.Indexes.{are_new}
use Rattle.bds_rules.proofs.IndexLaws.{new_on, new_stops}
use Rattle.bds_rules.proofs.indexes.are_new.Goals as goal

pub returns-then-contains_key : goal.returns-then-contains_key
returns-then-contains_key c =
    new_stops c.args.index.now.entries c.args.files.now c.loop-file.file-index c.file-item.result c.as_slice.result.now c.contains_key.result (are_new c.args.index.now.entries c.args.files.now)
    c.loop-file-test.true c.file-item.is c.as_slice.ensures c.contains_key.ensures c.if-contains_key.true c.loop-file.invariant

pub loop-file-preserved : goal.loop-file-preserved
loop-file-preserved c =
    new_on c.args.index.now.entries c.args.files.now c.loop-file.file-index c.file-item.result c.as_slice.result.now c.contains_key.result (are_new c.args.index.now.entries c.args.files.now)
    c.loop-file-test.true c.file-item.is c.as_slice.ensures c.contains_key.ensures c.if-contains_key.false c.loop-file.invariant
