use Rattle.std.proofs.Common.{◌∙◌, ap, sym}
use Rattle.std.proofs.lemmas.Result.{on_ok_weaker}
use Rattle.std.specs.Option.{option_copied}
use Rattle.bds_tree.specs.StmtView.{stmt_of}
use Rattle.bds_check_typing.specs.GivenValues.{set_by}
use Rattle.bds_gen_unit.proofs.SetLaws.{set-names, top-plain, top-set}
use Rattle.bds_gen_unit.proofs.top.write_top.Goals as goal

pub write_set-requires-clause-names : goal.write_set-requires-clause-names
write_set-requires-clause-names c = set-names (set_by c.args.settings.now) (stmt_of c.args.stmt.now) c.in-Some.value.now (sym c.value_in.ensures ∙ ap option_copied c.in-Some.is)

pub returns-in-Some : goal.returns-in-Some
returns-in-Some c =
    on_ok_weaker c.write_set.result
    (top-set (set_by c.args.settings.now) (stmt_of c.args.stmt.now) c.in-Some.value.now c.args.unit.now c.write_set.new.unit c.requires.high (sym c.value_in.ensures ∙ ap option_copied c.in-Some.is))
    c.write_set.ensures

pub returns-in-None : goal.returns-in-None
returns-in-None c =
    on_ok_weaker c.gen_stmt.result
    (top-plain (set_by c.args.settings.now) (stmt_of c.args.stmt.now) c.args.unit.now c.gen_stmt.new.unit (sym c.value_in.ensures ∙ ap option_copied c.in-None.is))
    c.gen_stmt.ensures
