use Rattle.std.proofs.Common.{map}
use Rattle.bds_tree.specs.StmtView.{part_of}
use Rattle.bds_check_typing.specs.GivenValues.{set_by}
use Rattle.bds_gen_size.proofs.ScriptSums.{parts-sum}
use Rattle.bds_gen_size.proofs.script.parts_size.Goals as goal

pub returns : goal.returns
returns c =
    parts-sum (set_by c.args.settings.now) (map part_of c.args.parts.now) c.in_ok-scope.scope c.tops_size.new.scope c.in_ok-tops.tops c.in_ok-functions.functions c.saturating_add.result c.in_ok-scope.ensures c.in_ok-tops.ensures.size
    c.in_ok-tops.ensures.names c.in_ok-functions.ensures c.saturating_add.ensures
