use Rattle.std.proofs.Common.{length, reverse, refl, ap, ◌∙◌}
use Rattle.bds_tree.specs.View.{tree_of}
use Rattle.bds_gen_expr.specs.Gen.{gen}
use Rattle.bds_gen_expr.specs.Scope.{scope_of}
use Rattle.bds_gen_expr.proofs.GenLaws.{gen-is}
use Rattle.bds_gen_expr.proofs.names.gen_expr.Goals as goal

pub returns-clause-code : goal.returns-clause-code
returns-clause-code c =
    let e = tree_of c.args.expr.now in
    let f = c.args.function.now in
    let shape = c.args.shape.now in
    let sc = scope_of c.args.names.now f in
    c.in_ok-write_expr.ensures.code ∙ ap (λ s. gen e s c.in_ok-operands.operands f) c.in_ok-scope.ensures
    ∙ ap (λ s. gen e sc s f) (c.in_ok-operands.ensures ∙ c.as_slice.ensures)
    ∙ gen-is e sc shape f (length f.code) (reverse shape) refl refl
