use Rattle.std.proofs.Common.{◌++◌, ◌∷◌, [], ap, ◌∙◌, arith, length, true, false}
use Rattle.bds_value.specs.declared.value.Ty.{Ty}
use Rattle.bds_value.specs.declared.value.Ty.TheVariants as ty
use Rattle.bds_tree.specs.View.{tree_of, trees_of, pairs_of}
use Rattle.bds_code.specs.declared.instr.Instr.TheVariants.{PushBool, JumpUnless}
use Rattle.bds_code.specs.declared.unit.Function.{Function}
use Rattle.bds_gen_expr.specs.Gen.{act, begin_other, end_at, gen, gen_all, gen_pairs}
use Rattle.bds_gen_expr.proofs.Growing.{grown_on, two_passed, two_ended}
use Rattle.std.proofs.lemmas.Result.{on_ok_weaker}
use Rattle.bds_gen_expr.proofs.Maps.{map-code}
use Rattle.bds_gen_expr.proofs.Operands.{all-next, pairs-next, take-longer, two-ways}
use Rattle.bds_gen_expr.proofs.+code.Goals as goal

pub exprs::write_all-loop-expr-preserved : goal.exprs::write_all-loop-expr-preserved
exprs::write_all-loop-expr-preserved t c =
    let xs = c.args.exprs.now in
    let sc = c.args.scope.now in
    let before = c.args.shape.now in
    record {
      code = all-next xs c.loop-expr.expr-index c.expr-item.result sc c.loop-expr.shape c.write_expr.new.shape c.push_ty.new.shape c.loop-expr.function c.write_expr.new.function (gen_all (trees_of xs) sc before c.args.function.now)
          (omega arith) c.expr-item.is c.in_ok-write_expr.ensures.code c.in_ok-write_expr.ensures.shape c.in_ok-push_ty.ensures c.loop-expr.invariant.code;
      shape = take-longer before c.loop-expr.shape (c.expr-item.result.ty ∷ []) c.push_ty.new.shape (c.in_ok-push_ty.ensures ∙ ap (λ s. s ++ c.expr-item.result.ty ∷ []) c.in_ok-write_expr.ensures.shape) c.loop-expr.invariant.shape;
      kept = grown_on c.args.function.now c.loop-expr.function c.write_expr.new.function c.loop-expr.invariant.kept c.write_expr.ensures.kept;
    }

pub exprs::write_pairs-loop-pair-preserved : goal.exprs::write_pairs-loop-pair-preserved
exprs::write_pairs-loop-pair-preserved t c =
    let ps = c.args.pairs.now in
    let sc = c.args.scope.now in
    let before = c.args.shape.now in
    let p = c.pair-item.result in
    let s1 = c.write_expr.new.shape in
    let s2 = c.push_ty.new.shape in
    let s3 = c.write_expr-in-loop-pair.new.shape in
    let s4 = c.push_ty-in-loop-pair.new.shape in
    let f1 = c.write_expr.new.function in
    let f2 = c.write_expr-in-loop-pair.new.function in
    record {
      code = pairs-next ps c.loop-pair.pair-index p sc c.loop-pair.shape s1 s2 s3 s4 c.loop-pair.function f1 f2 (gen_pairs (pairs_of ps) sc before c.args.function.now)
          (omega arith) c.pair-item.is c.in_ok-write_expr.ensures.code c.in_ok-write_expr.ensures.shape c.in_ok-push_ty.ensures c.in_ok-write_expr-2.ensures.code c.in_ok-write_expr-2.ensures.shape c.in_ok-push_ty-2.ensures c.loop-pair.invariant.code;
      shape = take-longer before s2 (p.1.ty ∷ []) s4 (c.in_ok-push_ty-2.ensures ∙ ap (λ s. s ++ p.1.ty ∷ []) c.in_ok-write_expr-2.ensures.shape)
          (take-longer before c.loop-pair.shape (ty.Text ∷ []) s2 (c.in_ok-push_ty.ensures ∙ ap (λ s. s ++ ty.Text ∷ []) c.in_ok-write_expr.ensures.shape) c.loop-pair.invariant.shape);
      kept = grown_on c.args.function.now f1 f2 (grown_on c.args.function.now c.loop-pair.function f1 c.loop-pair.invariant.kept c.write_expr.ensures.kept) c.write_expr-in-loop-pair.ensures.kept;
    }

pub operators::write_and-returns-in_err-begin_other-clause-kept : goal.operators::write_and-returns-in_err-begin_other-clause-kept
operators::write_and-returns-in_err-begin_other-clause-kept t c = two_passed c.args.function.now c.write_expr.new.function c.act.new.function c.write_expr-2.new.function c.begin_other.new.function c.len-test.result c.write_expr.ensures.kept c.len-test.ensures c.act.ensures.kept c.write_expr-2.ensures.kept c.begin_other.ensures.kept

pub operators::write_and-returns-in_err-act-2-clause-kept : goal.operators::write_and-returns-in_err-act-2-clause-kept
operators::write_and-returns-in_err-act-2-clause-kept t c =
    grown_on c.args.function.now c.begin_other.new.function c.act-2.new.function (two_passed c.args.function.now c.write_expr.new.function c.act.new.function c.write_expr-2.new.function c.begin_other.new.function c.len-test.result c.write_expr.ensures.kept c.len-test.ensures c.act.ensures.kept c.write_expr-2.ensures.kept c.begin_other.ensures.kept) c.act-2.ensures.kept

pub operators::write_and-returns-in_err-end_at-clause-kept : goal.operators::write_and-returns-in_err-end_at-clause-kept
operators::write_and-returns-in_err-end_at-clause-kept t c =
    two_ended c.args.function.now c.write_expr.new.function c.act.new.function c.write_expr-2.new.function c.begin_other.new.function c.act-2.new.function c.end_at.new.function c.len-test.result c.len-jump.result
    c.write_expr.ensures.kept c.len-test.ensures c.act.ensures.kept c.write_expr-2.ensures.kept c.len-jump.ensures c.begin_other.ensures.kept c.act-2.ensures.kept c.end_at.ensures.kept

pub operators::write_and-returns-clause-kept : goal.operators::write_and-returns-clause-kept
operators::write_and-returns-clause-kept t c =
    two_ended c.args.function.now c.write_expr.new.function c.act.new.function c.write_expr-2.new.function c.begin_other.new.function c.act-2.new.function c.end_at.new.function c.len-test.result c.len-jump.result
    c.write_expr.ensures.kept c.len-test.ensures c.act.ensures.kept c.write_expr-2.ensures.kept c.len-jump.ensures c.begin_other.ensures.kept c.act-2.ensures.kept c.end_at.ensures.kept

pub operators::write_or-returns-in_err-begin_other-clause-kept : goal.operators::write_or-returns-in_err-begin_other-clause-kept
operators::write_or-returns-in_err-begin_other-clause-kept t c = two_passed c.args.function.now c.write_expr.new.function c.act.new.function c.act-2.new.function c.begin_other.new.function c.len-test.result c.write_expr.ensures.kept c.len-test.ensures c.act.ensures.kept c.act-2.ensures.kept c.begin_other.ensures.kept

pub operators::write_or-returns-in_err-write_expr-2-clause-kept : goal.operators::write_or-returns-in_err-write_expr-2-clause-kept
operators::write_or-returns-in_err-write_expr-2-clause-kept t c =
    grown_on c.args.function.now c.begin_other.new.function c.write_expr-2.new.function (two_passed c.args.function.now c.write_expr.new.function c.act.new.function c.act-2.new.function c.begin_other.new.function c.len-test.result c.write_expr.ensures.kept c.len-test.ensures c.act.ensures.kept c.act-2.ensures.kept c.begin_other.ensures.kept) c.write_expr-2.ensures.kept

pub operators::write_or-returns-in_err-end_at-clause-kept : goal.operators::write_or-returns-in_err-end_at-clause-kept
operators::write_or-returns-in_err-end_at-clause-kept t c =
    two_ended c.args.function.now c.write_expr.new.function c.act.new.function c.act-2.new.function c.begin_other.new.function c.write_expr-2.new.function c.end_at.new.function c.len-test.result c.len-jump.result
    c.write_expr.ensures.kept c.len-test.ensures c.act.ensures.kept c.act-2.ensures.kept c.len-jump.ensures c.begin_other.ensures.kept c.write_expr-2.ensures.kept c.end_at.ensures.kept

pub operators::write_or-returns-clause-kept : goal.operators::write_or-returns-clause-kept
operators::write_or-returns-clause-kept t c =
    two_ended c.args.function.now c.write_expr.new.function c.act.new.function c.act-2.new.function c.begin_other.new.function c.write_expr-2.new.function c.end_at.new.function c.len-test.result c.len-jump.result
    c.write_expr.ensures.kept c.len-test.ensures c.act.ensures.kept c.act-2.ensures.kept c.len-jump.ensures c.begin_other.ensures.kept c.write_expr-2.ensures.kept c.end_at.ensures.kept

pub operators::write_choice-returns-in_err-begin_other-clause-kept : goal.operators::write_choice-returns-in_err-begin_other-clause-kept
operators::write_choice-returns-in_err-begin_other-clause-kept t c = two_passed c.args.function.now c.write_expr.new.function c.act.new.function c.write_expr-2.new.function c.begin_other.new.function c.len-test.result c.write_expr.ensures.kept c.len-test.ensures c.act.ensures.kept c.write_expr-2.ensures.kept c.begin_other.ensures.kept

pub operators::write_choice-returns-in_err-write_expr-3-clause-kept : goal.operators::write_choice-returns-in_err-write_expr-3-clause-kept
operators::write_choice-returns-in_err-write_expr-3-clause-kept t c =
    grown_on c.args.function.now c.begin_other.new.function c.write_expr-3.new.function (two_passed c.args.function.now c.write_expr.new.function c.act.new.function c.write_expr-2.new.function c.begin_other.new.function c.len-test.result c.write_expr.ensures.kept c.len-test.ensures c.act.ensures.kept c.write_expr-2.ensures.kept c.begin_other.ensures.kept) c.write_expr-3.ensures.kept

pub operators::write_choice-returns-in_err-end_at-clause-kept : goal.operators::write_choice-returns-in_err-end_at-clause-kept
operators::write_choice-returns-in_err-end_at-clause-kept t c =
    two_ended c.args.function.now c.write_expr.new.function c.act.new.function c.write_expr-2.new.function c.begin_other.new.function c.write_expr-3.new.function c.end_at.new.function c.len-test.result c.len-jump.result
    c.write_expr.ensures.kept c.len-test.ensures c.act.ensures.kept c.write_expr-2.ensures.kept c.len-jump.ensures c.begin_other.ensures.kept c.write_expr-3.ensures.kept c.end_at.ensures.kept

pub operators::write_choice-returns-clause-kept : goal.operators::write_choice-returns-clause-kept
operators::write_choice-returns-clause-kept t c =
    two_ended c.args.function.now c.write_expr.new.function c.act.new.function c.write_expr-2.new.function c.begin_other.new.function c.write_expr-3.new.function c.end_at.new.function c.len-test.result c.len-jump.result
    c.write_expr.ensures.kept c.len-test.ensures c.act.ensures.kept c.write_expr-2.ensures.kept c.len-jump.ensures c.begin_other.ensures.kept c.write_expr-3.ensures.kept c.end_at.ensures.kept

pub operators::write_and-returns-clause-code : goal.operators::write_and-returns-clause-code
operators::write_and-returns-clause-code t c =
    let a = tree_of c.args.left.now in
    let b = tree_of c.args.right.now in
    let sc = c.args.scope.now in
    let s = c.args.shape.now in
    let at = c.args.at in
    let P : Function → Function = gen b sc s in
    let Q : Function → Function = λ f. act f at (PushBool false) in
    let same = c.in_ok-write_expr-2.ensures.shape ∙ c.in_ok-write_expr.ensures.shape in
    c.in_ok-end_at.ensures.code ∙ ap (λ w. end_at c.act-2.new.function c.len-jump.result (w ++ ty.Bool ∷ [])) same
    ∙ two-ways c.write_expr.new.function c.act.new.function c.write_expr-2.new.function c.begin_other.new.function c.act-2.new.function c.len-test.result c.len-jump.result at s ty.Bool P Q
    c.len-test.ensures c.in_ok-act.ensures.code (c.in_ok-write_expr-2.ensures.code ∙ ap (λ w. gen b sc w c.act.new.function) c.in_ok-write_expr.ensures.shape) c.len-jump.ensures
    (c.in_ok-begin_other.ensures.code ∙ ap (λ w. begin_other c.write_expr-2.new.function c.len-test.result at w) same) c.in_ok-act-2.ensures.code
    ∙ ap (λ (f : Function). end_at (Q (begin_other (P (act f at (JumpUnless 0))) (length f.code) at s)) (length (P (act f at (JumpUnless 0))).code) (s ++ ty.Bool ∷ [])) c.in_ok-write_expr.ensures.code

pub operators::write_or-returns-clause-code : goal.operators::write_or-returns-clause-code
operators::write_or-returns-clause-code t c =
    let b = tree_of c.args.right.now in
    let sc = c.args.scope.now in
    let s = c.args.shape.now in
    let at = c.args.at in
    let P : Function → Function = λ f. act f at (PushBool true) in
    let Q : Function → Function = gen b sc s in
    let same = c.in_ok-write_expr-2.ensures.shape ∙ c.in_ok-write_expr.ensures.shape in
    c.in_ok-end_at.ensures.code ∙ ap (λ w. end_at c.write_expr-2.new.function c.len-jump.result (w ++ ty.Bool ∷ [])) same
    ∙ two-ways c.write_expr.new.function c.act.new.function c.act-2.new.function c.begin_other.new.function c.write_expr-2.new.function c.len-test.result c.len-jump.result at s ty.Bool P Q
    c.len-test.ensures c.in_ok-act.ensures.code c.in_ok-act-2.ensures.code c.len-jump.ensures
    (c.in_ok-begin_other.ensures.code ∙ ap (λ w. begin_other c.act-2.new.function c.len-test.result at w) c.in_ok-write_expr.ensures.shape)
    (c.in_ok-write_expr-2.ensures.code ∙ ap (λ w. gen b sc w c.begin_other.new.function) c.in_ok-write_expr.ensures.shape)
    ∙ ap (λ (f : Function). end_at (Q (begin_other (P (act f at (JumpUnless 0))) (length f.code) at s)) (length (P (act f at (JumpUnless 0))).code) (s ++ ty.Bool ∷ [])) c.in_ok-write_expr.ensures.code

pub operators::write_choice-returns-clause-code : goal.operators::write_choice-returns-clause-code
operators::write_choice-returns-clause-code t c =
    let a = tree_of c.args.yes.now in
    let b = tree_of c.args.no.now in
    let sc = c.args.scope.now in
    let s = c.args.shape.now in
    let at = c.args.whole.now.at in
    let kind : Ty = c.args.whole.now.ty in
    let P : Function → Function = gen a sc s in
    let Q : Function → Function = gen b sc s in
    let first = c.in_ok-write_expr.ensures.shape in
    let second = c.in_ok-write_expr-2.ensures.shape ∙ first in
    let third = c.in_ok-write_expr-3.ensures.shape ∙ second in
    c.in_ok-end_at.ensures.code ∙ ap (λ w. end_at c.write_expr-3.new.function c.len-jump.result (w ++ kind ∷ [])) third
    ∙ two-ways c.write_expr.new.function c.act.new.function c.write_expr-2.new.function c.begin_other.new.function c.write_expr-3.new.function c.len-test.result c.len-jump.result at s kind P Q
    c.len-test.ensures c.in_ok-act.ensures.code (c.in_ok-write_expr-2.ensures.code ∙ ap (λ w. gen a sc w c.act.new.function) first) c.len-jump.ensures
    (c.in_ok-begin_other.ensures.code ∙ ap (λ w. begin_other c.write_expr-2.new.function c.len-test.result at w) second)
    (c.in_ok-write_expr-3.ensures.code ∙ ap (λ w. gen b sc w c.begin_other.new.function) second)
    ∙ ap (λ (f : Function). end_at (Q (begin_other (P (act f at (JumpUnless 0))) (length f.code) at s)) (length (P (act f at (JumpUnless 0))).code) (s ++ kind ∷ [])) c.in_ok-write_expr.ensures.code

pub exprs::write_expr-returns-in_ok-write_pairs-in-Map-clause-code : goal.exprs::write_expr-returns-in_ok-write_pairs-in-Map-clause-code
exprs::write_expr-returns-in_ok-write_pairs-in-Map-clause-code t c =
    on_ok_weaker c.make_map.result
    (λ e. map-code c.args.expr.now c.in-Map.pairs c.as_slice-in-Map.result.now c.as_slice-in-Map-2.result.now c.args.scope.now c.args.shape.now c.args.function.now c.write_pairs.new.function c.make_map.new.function c.in-Map.is c.as_slice-in-Map.ensures
    c.as_slice-in-Map-2.ensures c.in_ok-write_pairs-in-Map.ensures.code e)
    c.make_map.ensures.code
