-- For private contracts alone: what stands before a statement within another.
use Rattle.std.specs.Prelude.{ℕ, List, Option, Some, None, if◌then◌else◌}
use Rattle.bds_value.specs.Options.{◌>>=◌}
use Rattle.bds_tree.specs.declared.token.Token.{Token}
use Rattle.bds_tree.specs.Tree.{Tree}
use Rattle.bds_tree.specs.StmtTree.{StmtTree, SmallTree}
use Rattle.bds_tree.specs.StmtShape.{is_empty_stmt}
use Rattle.bds_parse_expr.specs.Reading.{Read, behind, expression}
use Rattle.bds_parse_stmt_parts.specs.declared.words.Sign.{Sign}
use Rattle.bds_parse_stmt_parts.specs.declared.words.Sign.TheVariants as s
use Rattle.bds_parse_stmt_parts.specs.Words.{is_sign}
use Rattle.bds_parse_stmt_parts.specs.Reading.{maybe_expr, maybe_small}

-- an expression with a sign behind it
abbrev pub ended : Sign → ℕ → List Token → Read Tree
ended sign most ts = expression most 1 ts >>= λ e. behind (is_sign sign) e.1 >>= λ rest. Some (e.0, rest)

abbrev pub behind_else : StmtTree → List Token → Option (List Token)
behind_else x ts = if is_empty_stmt x then None else behind (is_sign s.Else) ts

-- the parts of the head of a `for` behind its first `;`, and behind its second
abbrev pub last_part : ℕ → Option SmallTree → Option Tree → List Token → Read (Option SmallTree × Option Tree × Option SmallTree)
last_part most f c ts = maybe_small most ts >>= λ n. behind (is_sign s.CloseRound) n.1 >>= λ rest. Some ((f, c, n.0), rest)

abbrev pub later_parts : ℕ → Option SmallTree → List Token → Read (Option SmallTree × Option Tree × Option SmallTree)
later_parts most f ts = maybe_expr most ts >>= λ c. behind (is_sign s.Semicolon) c.1 >>= λ b. last_part most f c.0 b
