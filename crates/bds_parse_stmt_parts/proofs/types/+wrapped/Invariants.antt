use Rattle.bds_parse_stmt_parts.proofs.types.+wrapped.Given as goal

abbrev pub decreases-wrapped : goal.decreases-wrapped
decreases-wrapped l = l.room
