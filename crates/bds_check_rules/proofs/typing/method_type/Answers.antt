-- proofs/typing/method_type/Answers.antt
use Rattle.std.proofs.Common.{sym, ap, ◌∙◌}
use Rattle.bds_check_rules.specs.Typing as typing
use Rattle.bds_check_rules.proofs.Counting.{count_trees, type_of_tree}
use Rattle.bds_check_rules.proofs.typing.method_type.Goals as goal

pub returns-in-Some : goal.returns-in-Some
returns-in-Some c = rw (count_trees c.args.arguments.now) (rw (type_of_tree c.args.receiver.now) (ap typing.given_by (sym c.in-Some.is ∙ c.in_ok-row.ensures)))

pub returns-in-None : goal.returns-in-None
returns-in-None c = rw (count_trees c.args.arguments.now) (rw (type_of_tree c.args.receiver.now) (ap typing.given_by (sym c.in-None.is ∙ c.in_ok-row.ensures)))
