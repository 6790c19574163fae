use Rattle.bds_tree.specs.StmtView.{script_of}
use Rattle.bds_check_typing.specs.GivenValues.{set_by}
use Rattle.bds_gen_unit.proofs.unit.unit_is_verified.Goals as goal

pub returns : goal.returns
returns c =
    let t = c.args.typed.now in
    c.units_are_verified.ensures (set_by t.settings) t.args (script_of t.script) c.is_typed.ensures c.requires
