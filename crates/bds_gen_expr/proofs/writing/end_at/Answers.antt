use Rattle.std.proofs.Common.{sym, subst, arith}
use Rattle.bds_code.specs.declared.instr.Instr.TheVariants.{Jump}
use Rattle.bds_gen_expr.specs.Grown.{Turned}
use Rattle.bds_gen_expr.proofs.Growing.{grown_self, grown_turned, turned_patched}
use Rattle.bds_gen_expr.proofs.writing.end_at.Goals as goal

pub returns-in_err-end-clause-kept : goal.returns-in_err-end-clause-kept
returns-in_err-end-clause-kept c = grown_turned c.args.function.now c.args.function.now c.args.jump (omega (arith, c.requires)) (grown_self c.args.function.now)

pub returns-in_err-mark_with-clause-kept : goal.returns-in_err-mark_with-clause-kept
returns-in_err-mark_with-clause-kept c = grown_turned c.args.function.now c.mark_with.new.function c.args.jump (omega (arith, c.requires)) c.mark_with.ensures.kept

pub returns-clause-kept : goal.returns-clause-kept
returns-clause-kept c =
    let f = c.args.function.now in
    subst (λ x. Turned c.args.jump f x) (sym c.patch.ensures.code) (turned_patched f c.mark_with.new.function c.args.jump (Jump c.in_ok-end.end) (omega (arith, c.requires)) c.mark_with.ensures.kept)
