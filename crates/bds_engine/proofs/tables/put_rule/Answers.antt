use Rattle.bds_state.specs.Parts.{Parts}
use Rattle.bds_engine.proofs.Plans.{keeps_rules}
use Rattle.bds_engine.proofs.tables.put_rule.Goals as goal

pub invariant_of-state : goal.invariant_of-state
invariant_of-state c =
    let s : Parts = record { unit = c.state.inside.unit; threads = c.state.inside.threads; tasks = c.state.inside.tasks; rules = c.state.inside.rules; path = c.state.inside.path } in
    (keeps_rules s c.state.invariant.0 c.args.rule _ c.declare.result c.requires c.declare.ensures, c.state.invariant.1)
