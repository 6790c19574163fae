use Rattle.bds_lib.proofs.SearchLaws.{first_is, first_inside}
use Rattle.bds_lib.proofs.searching.first_place.Goals as goal

pub returns-clause-value : goal.returns-clause-value
returns-clause-value c = first_is c.args.text.now c.args.part.now c.find.result c.find.ensures

pub returns-clause-inside : goal.returns-clause-inside
returns-clause-inside c = first_inside c.args.text.now c.args.part.now c.find.result c.find.ensures
