use Rattle.std.proofs.Common.{◌≡◌, ◌<◌, None, length, subst, sym, rules}
use Rattle.bds_value.specs.declared.TheConstants.{MAX_RULES}
use Rattle.bds_rules.specs.Makers.{made_already}
use Rattle.bds_rules.specs.Own.{AreRules}
use Rattle.bds_rules.proofs.OwnLaws.{declares_own}
use Rattle.bds_rules.proofs.table.RuleTable.declare.Goals as goal
use Rattle.bds_rules.proofs.table.RuleTable.declare.Goals.{in-Ok, in-Err}

pub invariant_of-self : goal.invariant_of-self
invariant_of-self c =
    let room : length c.self.inside.rules.items < MAX_RULES = search rules in
    let none : made_already c.self.inside.rules.items c.args.rule.outs ≡ None = search rules in
    let are : AreRules c.put.new.rules.items = elim c.match-put.branch [
      | in-Ok w ↦ subst AreRules (sym w.in-Ok.ensures.ok) (declares_own c.self.inside.rules.items c.args.rule c.self.invariant.0 room none c.requires)
      | in-Err w ↦ subst AreRules (sym w.in-Err.ensures.err) c.self.invariant.0
    ] in
    (are, c.put.ensures.known)
