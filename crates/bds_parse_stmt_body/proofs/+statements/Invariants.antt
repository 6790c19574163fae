use Rattle.std.proofs.Common.{◌≤◌, [], length, map, ◌+◌, ◌*◌}
use Rattle.bds_tree.specs.StmtView.{stmt_of, case_of}
use Rattle.bds_parse_stmt_parts.specs.Reading.{next_stmt, next_case, statement, many_onto}
use Rattle.bds_parse_stmt_parts.proofs.Many.{Loops}
use Rattle.bds_parse_stmt_body.proofs.+statements.Given as goal

abbrev pub decreases-stmts::statement : goal.decreases-stmts::statement
decreases-stmts::statement l = 20 * l.most

abbrev pub decreases-stmts::boxed_statement : goal.decreases-stmts::boxed_statement
decreases-stmts::boxed_statement l = 20 * l.most + 1

abbrev pub decreases-stmts::statement_below : goal.decreases-stmts::statement_below
decreases-stmts::statement_below l = 20 * l.most + 19

abbrev pub decreases-stmts::statement_of_kind : goal.decreases-stmts::statement_of_kind
decreases-stmts::statement_of_kind l = 20 * l.most + 18

abbrev pub decreases-control::if_else : goal.decreases-control::if_else
decreases-control::if_else l = 20 * l.most + 8

abbrev pub decreases-control::else_part : goal.decreases-control::else_part
decreases-control::else_part l = 20 * l.most + 7

abbrev pub decreases-control::while_loop : goal.decreases-control::while_loop
decreases-control::while_loop l = 20 * l.most + 8

abbrev pub decreases-control::for_loop : goal.decreases-control::for_loop
decreases-control::for_loop l = 20 * l.most + 8

abbrev pub decreases-control::each_rest : goal.decreases-control::each_rest
decreases-control::each_rest l = 20 * l.most + 7

abbrev pub decreases-control::for_rest : goal.decreases-control::for_rest
decreases-control::for_rest l = 20 * l.most + 7

abbrev pub decreases-switches::switch : goal.decreases-switches::switch
decreases-switches::switch l = 20 * l.most + 8

abbrev pub decreases-switches::braced_cases : goal.decreases-switches::braced_cases
decreases-switches::braced_cases l = 20 * l.most + 7

abbrev pub decreases-switches::cases : goal.decreases-switches::cases
decreases-switches::cases l = 20 * l.most + 6

abbrev pub decreases-switches::next_case : goal.decreases-switches::next_case
decreases-switches::next_case l = 20 * l.most + 5

abbrev pub decreases-switches::case : goal.decreases-switches::case
decreases-switches::case l = 20 * l.most + 4

abbrev pub decreases-lines::line : goal.decreases-lines::line
decreases-lines::line l = 20 * l.most + 10

abbrev pub decreases-lines::line_of_kind : goal.decreases-lines::line_of_kind
decreases-lines::line_of_kind l = 20 * l.most + 9

abbrev pub decreases-lines::line_by_head : goal.decreases-lines::line_by_head
decreases-lines::line_by_head l = 20 * l.most + 8

abbrev pub decreases-lines::start_right : goal.decreases-lines::start_right
decreases-lines::start_right l = 20 * l.most + 7

abbrev pub decreases-lines::maybe_right : goal.decreases-lines::maybe_right
decreases-lines::maybe_right l = 20 * l.most + 7

abbrev pub decreases-lines::right : goal.decreases-lines::right
decreases-lines::right l = 20 * l.most + 6

abbrev pub decreases-lines::act : goal.decreases-lines::act
decreases-lines::act l = 20 * l.most + 5

abbrev pub decreases-lines::act_of_word : goal.decreases-lines::act_of_word
decreases-lines::act_of_word l = 20 * l.most + 4

abbrev pub decreases-lines::par : goal.decreases-lines::par
decreases-lines::par l = 20 * l.most + 3

abbrev pub decreases-stmts::block : goal.decreases-stmts::block
decreases-stmts::block l = 20 * l.most + 2

abbrev pub decreases-stmts::block_below : goal.decreases-stmts::block_below
decreases-stmts::block_below l = 20 * l.most + 9

abbrev pub decreases-stmts::stmts : goal.decreases-stmts::stmts
decreases-stmts::stmts l = 20 * l.most + 2

abbrev pub decreases-stmts::next_stmt : goal.decreases-stmts::next_stmt
decreases-stmts::next_stmt l = 20 * l.most + 1

abbrev pub invariant-stmts::stmts-loop-items : goal.invariant-stmts::stmts-loop-items
invariant-stmts::stmts-loop-items l = record {
  shorter : length l.rest ≤ length l.tokens;
  same : Loops (next_stmt (statement l.most)) (map stmt_of l.items) l.rest (many_onto (next_stmt (statement l.most)) [] l.tokens);
}

abbrev pub decreases-stmts::stmts-loop-items : goal.decreases-stmts::stmts-loop-items
decreases-stmts::stmts-loop-items l = length l.rest

abbrev pub invariant-switches::cases-loop-items : goal.invariant-switches::cases-loop-items
invariant-switches::cases-loop-items l = record {
  shorter : length l.rest ≤ length l.tokens;
  same : Loops (next_case l.most (statement l.most)) (map case_of l.items) l.rest (many_onto (next_case l.most (statement l.most)) [] l.tokens);
}

abbrev pub decreases-switches::cases-loop-items : goal.decreases-switches::cases-loop-items
decreases-switches::cases-loop-items l = length l.rest
