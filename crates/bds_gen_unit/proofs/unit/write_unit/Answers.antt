use Rattle.std.proofs.Common.{◌≡◌, ◌∙◌, map}
use Rattle.std.proofs.lemmas.Result.{IfOk-weaker}
use Rattle.bds_tree.specs.StmtView.{part_of}
use Rattle.bds_check_typing.specs.GivenValues.{set_by}
use Rattle.bds_gen_stmt.specs.UnitCode.{unit_of}
use Rattle.bds_gen_unit.specs.Generated.{unit_for}
use Rattle.bds_gen_unit.proofs.UnitLaws.{unit_same}
use Rattle.bds_gen_unit.proofs.unit.write_unit.Goals as goal

pub returns : goal.returns
returns c =
    let t = c.args.typed.now in
    let s = c.script-script.result.now in
    let fs = c.as_slice-files.result.now in
    let ps = c.as_slice-parts.result.now in
    let gs = c.as_slice-settings.result.now in
    let words = c.as_slice-args.result.now in
    IfOk-weaker c.write_parts.result (λ u. u ≡ unit_of (set_by gs) words (record { at = s.at; files = fs; parts = map part_of ps })) (λ u. u ≡ unit_for t)
    (λ u e. unit_same u t s fs ps gs words e c.script-script.ensures.same c.as_slice-files.ensures c.as_slice-parts.ensures (c.as_slice-settings.ensures ∙ c.settings.ensures.same) (c.as_slice-args.ensures ∙ c.args-2.ensures.same))
    c.write_parts.ensures
