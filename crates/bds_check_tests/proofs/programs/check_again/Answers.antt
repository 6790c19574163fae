use Rattle.std.proofs.Common.{◌∙◌}
use Rattle.bds_tree.specs.StmtView.{script_of}
use Rattle.bds_check_tests.proofs.TestPrograms.{not_broken}
use Rattle.bds_check_tests.proofs.programs.check_again.Goals as goal

pub check-requires : goal.check-requires
check-requires c = record { program = c.requires.program }

pub returns-in-Ok : goal.returns-in-Ok
returns-in-Ok c =
    let law = c.typed_scripts_are_checked.ensures (script_of c.args.script) c.requires in
    (c.in-Ok.ensures.1.0 ∙ law.1, c.in-Ok.ensures.1.1, c.in-Ok.ensures.1.2)

pub unreachable-requires : goal.unreachable-requires
unreachable-requires c =
    let law = c.typed_scripts_are_checked.ensures (script_of c.args.script) c.requires in
    not_broken _ _ law.0 (rw c.in-Err-Broken.field-0-is at c.in-Err-Broken.ensures)
