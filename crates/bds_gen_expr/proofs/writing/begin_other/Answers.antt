use Rattle.std.proofs.Common.{sym, subst, arith}
use Rattle.bds_code.specs.declared.instr.Instr.TheVariants.{JumpUnless}
use Rattle.bds_gen_expr.specs.Grown.{Turned}
use Rattle.bds_gen_expr.proofs.Growing.{grown_self, grown_on, grown_turned, turned_patched}
use Rattle.bds_gen_expr.proofs.writing.begin_other.Goals as goal

pub returns-in_err-other-clause-kept : goal.returns-in_err-other-clause-kept
returns-in_err-other-clause-kept c = grown_turned c.args.function.now c.args.function.now c.args.test (omega (arith, c.requires)) (grown_self c.args.function.now)

pub returns-in_err-act-clause-kept : goal.returns-in_err-act-clause-kept
returns-in_err-act-clause-kept c = grown_turned c.args.function.now c.act.new.function c.args.test (omega (arith, c.requires)) c.act.ensures.kept

pub returns-in_err-mark-clause-kept : goal.returns-in_err-mark-clause-kept
returns-in_err-mark-clause-kept c =
    grown_turned c.args.function.now c.mark.new.function c.args.test (omega (arith, c.requires)) (grown_on c.args.function.now c.act.new.function c.mark.new.function c.act.ensures.kept c.mark.ensures.kept)

pub returns-clause-kept : goal.returns-clause-kept
returns-clause-kept c =
    let f = c.args.function.now in
    subst (λ x. Turned c.args.test f x) (sym c.patch.ensures.code)
    (turned_patched f c.mark.new.function c.args.test (JumpUnless c.in_ok-other.other) (omega (arith, c.requires)) (grown_on f c.act.new.function c.mark.new.function c.act.ensures.kept c.mark.ensures.kept))
