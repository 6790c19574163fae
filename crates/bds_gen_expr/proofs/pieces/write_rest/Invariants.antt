use Rattle.std.proofs.Common.{◌≡◌, drop}
use Rattle.bds_check_size.specs.Parts.{parts_of}
use Rattle.bds_gen_expr.specs.ExprCode.{joined_code}
use Rattle.bds_gen_expr.specs.Grown.{Grown}
use Rattle.bds_gen_expr.specs.Marks.{written}
use Rattle.bds_gen_expr.specs.Scope.{types_in}
use Rattle.bds_gen_expr.proofs.pieces.write_rest.Given as goal

abbrev pub invariant-loop-piece : goal.invariant-loop-piece
invariant-loop-piece l = record {
  code : written l.function (joined_code l.scope l.at (parts_of (types_in l.scope) (drop l.piece-index l.pieces))) ≡ written l.fn.function (joined_code l.scope l.at (parts_of (types_in l.scope) l.pieces));
  kept : Grown l.fn.function l.function;
}
