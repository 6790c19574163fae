use Rattle.std.proofs.Common.{◌≡◌, sym, subst}
use Rattle.std.specs.Result.{OnOk}
use Rattle.std.specs.Option.{option_map}
use Rattle.bds_tree.specs.StmtView.{settings_of}
use Rattle.bds_check_size.specs.StmtSize.{maybe_settings}
use Rattle.bds_gen_stmt_code.specs.GenTasks.{gen_task}
use Rattle.bds_gen_stmt_code.proofs.lines.write_maybe_task.Goals as goal

pub returns-in-None : goal.returns-in-None
returns-in-None c =
    subst (λ x. OnOk c.write_task.result (c.write_task.new.function ≡ gen_task (maybe_settings (option_map settings_of x)) c.args.commands.now c.args.at c.args.scope.now c.args.first c.args.shape.now c.args.function.now))
    (sym c.in-None.is) c.write_task.ensures
