use Rattle.std.proofs.Common.{Result}
use Rattle.bds_check.specs.declared.checking.TypedScript.{TypedScript}
use Rattle.bds_front.specs.declared.front_fault.FrontFault.{FrontFault}
use Rattle.bds_front.specs.Joining.{ChecksAll, program_of}
use Rattle.bds_front.proofs.Errors.{by-err}
use Rattle.bds_front.proofs.Whole.{checks-stopped, checks-unless}
use Rattle.bds_front.proofs.loading.check_joined.Goals as goal

pub returns-in_err-typed : goal.returns-in_err-typed
returns-in_err-typed c =
    let program = program_of c.args.at c.args.joined.paths c.args.joined.parts in
    by-err (λ (r : Result TypedScript FrontFault). ChecksAll program c.args.joined.beyond r) c.from_residual.result _ c.from_residual.ensures.1 (checks-stopped program c.args.joined.beyond _ c.in_err-typed.ensures)

pub returns : goal.returns
returns c = checks-unless (program_of c.args.at c.args.joined.paths c.args.joined.parts) c.args.joined.beyond _ _ c.in_ok-typed.ensures c.unless_beyond.ensures
