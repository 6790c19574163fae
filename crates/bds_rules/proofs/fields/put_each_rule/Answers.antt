use Rattle.bds_rules.specs.RuleFields.{rule_field}
use Rattle.bds_value.proofs.Growing.{put_more}
use Rattle.bds_rules.proofs.fields.put_each_rule.Goals as goal

pub loop-rule-preserved : goal.loop-rule-preserved
loop-rule-preserved c = put_more rule_field c.args.rules.now c.loop-rule.rule-index c.rule-item.result c.args.out.now.items c.loop-rule.out.items c.put_rule.new.out.items c.loop-rule-test.true c.rule-item.is c.loop-rule.invariant c.in_ok-put_rule.ensures
