use Rattle.std.proofs.Common.{◌≡◌, ◌+◌, ◌≤◌, drop}
use Rattle.bds_check_size.specs.Parts.{joined_size, parts_of}
use Rattle.bds_gen_expr.specs.Scope.{types_in}
use Rattle.bds_gen_size.specs.Capped.{capped}
use Rattle.bds_gen_size.proofs.pieces.joined_size.Given as goal

abbrev pub invariant-loop-piece : goal.invariant-loop-piece
invariant-loop-piece l = record {
  most : l.sum ≤ 18446744073709551615;
  so_far : capped (l.sum + joined_size (parts_of (types_in l.scope) (drop l.piece-index l.pieces))) ≡ capped (joined_size (parts_of (types_in l.scope) l.pieces));
}
