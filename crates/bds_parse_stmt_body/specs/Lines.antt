-- For private contracts alone: what of lines and acts holds no statement, and the end of a line.
use Rattle.std.specs.Prelude.{ℕ, List, Option, Some}
use Rattle.bds_value.specs.Options.{◌>>=◌}
use Rattle.bds_tree.specs.declared.token.Token.{Token}
use Rattle.bds_tree.specs.Tree.{Tree}
use Rattle.bds_tree.specs.StmtTree.{StmtTree, LineTree, RightTree, ActTree, stmt, line, right_expr, print, println, error, exit, wait, checkpoint, act, dep, goal, par_call}
use Rattle.bds_tree.specs.StmtSpelling.{line_ends_in_brace}
use Rattle.bds_parse_expr.specs.Reading.{Read, behind, name_at, members, is_close_round, expression}
use Rattle.bds_parse_stmt_parts.specs.declared.words.Sign.TheVariants as s
use Rattle.bds_parse_stmt_parts.specs.Words.{is_sign, line_end}
use Rattle.bds_parse_stmt_parts.specs.Reading.{here, maybe_expr, settings, body}
use Rattle.bds_parse_stmt_body.specs.declared.plain.OneLine.{OneLine}
use Rattle.bds_parse_stmt_body.specs.declared.plain.OneLine.TheVariants as one
use Rattle.bds_parse_stmt_body.specs.declared.plain.MaybeLine.{MaybeLine}
use Rattle.bds_parse_stmt_body.specs.declared.plain.MaybeLine.TheVariants as maybe

abbrev pub one_line : OneLine → Tree → LineTree
one_line one.Print e = print e
one_line one.Error e = error e
one_line one.Exit e = exit e

abbrev pub maybe_line : MaybeLine → Option Tree → LineTree
maybe_line maybe.Println e = println e
maybe_line maybe.Wait e = wait e
maybe_line maybe.Checkpoint e = checkpoint e

module _ (most : ℕ) (ts : List Token) where
  abbrev pub one_form : OneLine → Read LineTree
  one_form kind = expression most 1 ts >>= λ e. Some (one_line kind e.0, e.1)

  abbrev pub maybe_form : MaybeLine → Read LineTree
  maybe_form kind = maybe_expr most ts >>= λ e. Some (maybe_line kind e.0, e.1)

  abbrev pub value_form : Read RightTree
  value_form = expression most 1 ts >>= λ e. Some (right_expr e.0, e.1)

module _ (most l : ℕ) (ts : List Token) where
  abbrev pub dep_form : Read ActTree
  dep_form = settings most ts >>= λ os. body os.1 >>= λ b. Some (act (here l) (dep os.0 b.0), b.1)

  abbrev pub goal_form : Read ActTree
  goal_form = expression most 1 ts >>= λ e. Some (act (here l) (goal e.0), e.1)

  abbrev pub call_form : Read ActTree
  call_form = name_at ts >>= λ n. behind (is_sign s.OpenRound) n.1 >>= λ a. members is_close_round (expression most) a >>= λ es. Some (act (here l) (par_call n.0 es.0), es.1)

-- a line as a statement, with its end behind it
abbrev pub with_end : ℕ → LineTree → List Token → Read StmtTree
with_end l x ts = line_end (line_ends_in_brace x) ts >>= λ rest. Some (stmt (here l) (line x), rest)
