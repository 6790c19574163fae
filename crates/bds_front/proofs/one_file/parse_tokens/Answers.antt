use Rattle.std.proofs.Common.{◌∙◌, ℕ, List, Result, ap, sym, subst}
use Rattle.bds_tree.specs.declared.stmt.Script.{Script}
use Rattle.bds_front.specs.declared.front_fault.FrontFault.{FrontFault}
use Rattle.bds_front.specs.declared.front_fault.FrontFault.TheVariants as front
use Rattle.bds_front.specs.OneFile.{parse_fault_of, FailsText, ParsesText}
use Rattle.bds_front.proofs.Errors.{by-err}
use Rattle.bds_front.proofs.Texts.{unspelled-fails}
use Rattle.bds_front.proofs.one_file.parse_tokens.Goals as goal

pub returns-in-Ok : goal.returns-in-Ok
returns-in-Ok c = λ text short lexed. (c.args.found.now, record { within = short; lexed = lexed; legal = c.in-Ok.ensures.legal; spelled = c.in-Ok.ensures.spelled })

pub returns-in_ok-copy_text-in-Err : goal.returns-in_ok-copy_text-in-Err
returns-in_ok-copy_text-in-Err c = λ text short lexed.
    let told = c.parse_fault.ensures ∙ ap (λ (p : List ℕ). parse_fault_of p c.in-Err.fault) c.in_ok-copy_text-in-Err.ensures in
    subst (λ (f : FrontFault). FailsText c.args.path.now text f) (sym told)
    (unspelled-fails c.args.path.now text c.args.found.now c.in-Err.fault short lexed c.in-Err.ensures.only c.in-Err.ensures.line)

pub returns-in_err-copy_text-in-Err : goal.returns-in_err-copy_text-in-Err
returns-in_err-copy_text-in-Err c = λ text short lexed. by-err (λ (r : Result Script FrontFault). ParsesText c.args.path.now text r) c.from_residual.result front.NoMemory c.from_residual.ensures.1 FailsText.no_memory
