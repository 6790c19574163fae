use Rattle.std.proofs.Common.{subst}
use Rattle.bds_tree.specs.StmtView.{script_of}
use Rattle.bds_parse_expr.specs.Gives.{Gives}
use Rattle.bds_parse_expr.specs.Longest.{HasLine}
use Rattle.bds_parse_stmt.specs.Parts.{script_at}
use Rattle.bds_parse_stmt.proofs.Theorem.{legal_given, spelled_given, only_given}
use Rattle.bds_parse_stmt.proofs.whole.script.Goals as goal

pub returns-clause-legal : goal.returns-clause-legal
returns-clause-legal c = legal_given c.told.result c.args.tokens.now (subst (λ u. Gives script_of c.told.result (script_at u)) c.as_slice-all.ensures (c.told.ensures.kept (script_at c.as_slice-all.result.now) c.read.ensures))

pub returns-clause-spelled : goal.returns-clause-spelled
returns-clause-spelled c = spelled_given c.told.result c.args.tokens.now (subst (λ u. Gives script_of c.told.result (script_at u)) c.as_slice-all.ensures (c.told.ensures.kept (script_at c.as_slice-all.result.now) c.read.ensures))

pub returns-clause-only : goal.returns-clause-only
returns-clause-only c = only_given c.told.result c.args.tokens.now (subst (λ u. Gives script_of c.told.result (script_at u)) c.as_slice-all.ensures (c.told.ensures.kept (script_at c.as_slice-all.result.now) c.read.ensures))

pub returns-clause-line : goal.returns-clause-line
returns-clause-line c = subst (λ u. HasLine u c.told.result) c.as_slice-all.ensures c.told.ensures.line
