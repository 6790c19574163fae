use Rattle.std.proofs.Common.{◌≡◌, sym, subst, refl, Some, Ok}
use Rattle.bds_tree.specs.StmtTree.{ScriptTree}
use Rattle.bds_check_typing.specs.Answers.{broken_at}
use Rattle.bds_check_typing.specs.Program.{first_broken}
use Rattle.bds_check_typing.specs.Proper.{IsProgram}
use Rattle.bds_check_laws.proofs.BrokenFiles.{broken-in-file}
use Rattle.bds_front.specs.Joining.{Checks, program_of}
use Rattle.bds_front.proofs.Whole.{breaks-checks, checks-none}
use Rattle.bds_front.proofs.loading.check_program.Goals as goal

pub check-requires : goal.check-requires
check-requires c = record { program = subst IsProgram (sym c.in_ok-program.ensures) c.requires }

pub returns-in_err-program : goal.returns-in_err-program
returns-in_err-program c = checks-none (program_of c.args.at c.args.paths.now c.args.parts) c.from_residual.result c.from_residual.ensures.1

pub returns-in-Ok : goal.returns-in-Ok
returns-in-Ok c =
    let P : ScriptTree → Type 0 = λ s. Checks s (Ok c.in-Ok.typed) in
    subst P c.in_ok-program.ensures (c.in-Ok.ensures.0, c.in-Ok.ensures.1.0, c.in-Ok.ensures.1.1, c.in-Ok.ensures.1.2)

pub broken_fault-requires : goal.broken_fault-requires
broken_fault-requires c =
    let program = program_of c.args.at c.args.paths.now c.args.parts in
    let b = broken_at c.in-Err-Broken.rule c.in-Err-Broken.at in
    let Q : ScriptTree → Type 0 = λ t. first_broken t ≡ Some b in
    broken-in-file program b c.requires (subst Q c.in_ok-program.ensures (rw c.in-Err-Broken.field-0-is at c.in-Err-Broken.ensures))

pub returns-in-Err-Broken : goal.returns-in-Err-Broken
returns-in-Err-Broken c =
    let program = program_of c.args.at c.args.paths.now c.args.parts in
    let b = broken_at c.in-Err-Broken.rule c.in-Err-Broken.at in
    let Q : ScriptTree → Type 0 = λ t. first_broken t ≡ Some b in
    breaks-checks program c.args.paths.now c.in-Err-Broken.rule c.in-Err-Broken.at c.broken_fault.result refl (subst Q c.in_ok-program.ensures (rw c.in-Err-Broken.field-0-is at c.in-Err-Broken.ensures)) c.broken_fault.ensures
