use Rattle.bds_lib.proofs.SearchLaws.{last_is, last_inside}
use Rattle.bds_lib.proofs.searching.last_place.Goals as goal

pub returns-clause-value : goal.returns-clause-value
returns-clause-value c = last_is c.args.text.now c.args.part.now c.rfind.result c.rfind.ensures

pub returns-clause-inside : goal.returns-clause-inside
returns-clause-inside c = last_inside c.args.text.now c.args.part.now c.rfind.result c.rfind.ensures
