use Rattle.bds_lib.specs.Change.{change_of}
use Rattle.bds_lib.proofs.ChangeLaws.{change_formed, left_formed}
use Rattle.bds_lib.proofs.TypedLaws.{change_takes}
use Rattle.bds_lib.proofs.changes.change.Goals as goal

pub returns-clause-typed : goal.returns-clause-typed
returns-clause-typed c = λ row formed all.
    left_formed (change_of c.args.what c.args.place.now c.args.args) c.args.place.now c.change_place.new.place c.change_place.result c.change_place.ensures formed
    (change_formed c.args.what c.args.place.now c.args.args formed all (change_takes c.args.what c.args.args c.args.place.now row))
