-- proofs/setting_rules/setting_rule/Answers.antt
use Rattle.bds_check_rules.proofs.setting_rules.setting_rule.Goals as goal

pub returns-in-Named : goal.returns-in-Named
returns-in-Named c = rw c.in-Named.is c.named_rule.ensures
