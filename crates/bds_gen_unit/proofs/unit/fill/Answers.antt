use Rattle.std.proofs.Common.{◌++◌, ◌∙◌, ap, map, refl}
use Rattle.std.proofs.lemmas.Result.{IfOk-weaker}
use Rattle.bds_tree.specs.StmtView.{part_of}
use Rattle.bds_check_typing.specs.GivenValues.{set_by}
use Rattle.bds_gen_unit.specs.Begun.{unit_with}
use Rattle.bds_gen_unit.proofs.UnitLaws.{unit_done}
use Rattle.bds_gen_unit.proofs.unit.fill.Goals as goal

pub returns : goal.returns
returns c =
    IfOk-weaker c.global_types.result _ _
    (λ ts e files. unit_done (set_by c.args.settings.now) c.args.args.now (record { at = c.args.at; files = files; parts = map part_of c.args.parts.now })
    c.args.unit.now c.write_code.new.unit c.push_top.new.unit c.write_functions.new.unit c.args.functions.now c.push_top.new.functions c.write_functions.new.functions c.as_slice.result.now (unit_with files ts c.append.new.functions)
    c.requires.begun c.in_ok-write_code.ensures c.requires.none c.in_ok-push_top.ensures.functions c.in_ok-push_top.ensures.others c.in_ok-write_functions.ensures refl c.as_slice.ensures e (c.in_ok-append.ensures ∙ ap (λ fs. c.write_functions.new.functions ++ fs) c.replace-finished.ensures.value))
    c.global_types.ensures
