use Rattle.std.proofs.Common.{◌≤◌, ◌+◌, length}
use Rattle.bds_lex.specs.PartSizes.{writer_size}
use Rattle.bds_lex.specs.Writing.{tokens_with}
use Rattle.bds_lex.proofs.LexSteps.{IsRead}
use Rattle.bds_lex.proofs.lexer.tokens_in.Given as goal

abbrev pub invariant-loop-rest : goal.invariant-loop-rest
invariant-loop-rest l = record { read : IsRead l.bytes (tokens_with l.writer) l.new_line l.line l.rest; fits : writer_size l.writer + length l.rest ≤ length l.bytes }

abbrev pub decreases-loop-rest : goal.decreases-loop-rest
decreases-loop-rest l = length l.rest
