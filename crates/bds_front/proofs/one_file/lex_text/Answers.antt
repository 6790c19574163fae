use Rattle.std.proofs.Common.{◌<◌, ℕ, List, Result, sym, subst, length, arith}
use Rattle.bds_value.specs.declared.TheConstants.{MAX_TEXT}
use Rattle.bds_tree.specs.declared.token.Token.{Token}
use Rattle.bds_tree.specs.ScriptTexts.{HasFlaw}
use Rattle.bds_front.specs.declared.front_fault.FrontFault.{FrontFault}
use Rattle.bds_front.specs.declared.front_fault.FrontFault.TheVariants as front
use Rattle.bds_front.specs.OneFile.{FailsText, LexesText}
use Rattle.bds_front.proofs.Errors.{by-err}
use Rattle.bds_front.proofs.one_file.lex_text.Goals as goal

pub returns-in_err-copy_text : goal.returns-in_err-copy_text
returns-in_err-copy_text c = by-err (λ (r : Result (List Token) FrontFault). LexesText c.args.path.now c.args.text.now r) c.from_residual.result front.NoMemory c.from_residual.ensures.1 FailsText.no_memory

pub returns-then-len-gt-MAX_TEXT : goal.returns-then-len-gt-MAX_TEXT
returns-then-len-gt-MAX_TEXT c =
    let long : MAX_TEXT < length c.args.text.now = omega (arith, c.if-len-gt-MAX_TEXT.true, c.len.ensures) in
    subst (λ (p : List ℕ). FailsText c.args.path.now c.args.text.now (front.TooLong p)) (sym c.in_ok-copy_text.ensures) (FailsText.long (HasFlaw.longer long))

pub returns-in_err-copy_text-in-Err : goal.returns-in_err-copy_text-in-Err
returns-in_err-copy_text-in-Err c = by-err (λ (r : Result (List Token) FrontFault). LexesText c.args.path.now c.args.text.now r) c.from_residual-in_err-copy_text-in-Err.result front.NoMemory c.from_residual-in_err-copy_text-in-Err.ensures.1 FailsText.no_memory
