-- proofs/breaks/method_call_rule/Answers.antt
use Rattle.std.proofs.Common.{sym}
use Rattle.bds_check_rules.proofs.Counting.{count_trees, type_of_tree}
use Rattle.bds_check_rules.proofs.breaks.method_call_rule.Goals as goal

pub returns : goal.returns
returns c = rw (count_trees c.args.arguments.now) (rw (type_of_tree c.args.receiver.now) (rw (sym c.in_ok-row.ensures) c.method_rule.ensures))
