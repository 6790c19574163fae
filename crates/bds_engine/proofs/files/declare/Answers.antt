use Rattle.std.proofs.Common.{◌++◌, ◌∷◌, [], None, refl, sym, subst}
use Rattle.bds_value.specs.declared.faults.RunFault.TheVariants as run
use Rattle.bds_machine.specs.declared.point.Point.TheVariants as point
use Rattle.bds_machine.proofs.AnswerFits.{fits-Nothing}
use Rattle.bds_state.specs.Parts.{Parts}
use Rattle.bds_engine_stages.specs.declared.stage.Stage.TheVariants as stage
use Rattle.bds_engine_stages.specs.Held.{GoesBack, IsOut}
use Rattle.bds_engine.proofs.Contacting.{breaks_same, halts_here, out_rules}
use Rattle.bds_engine.proofs.Making.{declares, many_rules, two_rules}
use Rattle.bds_engine.proofs.files.declare.Goals as goal

pub put_rule-requires : goal.put_rule-requires
put_rule-requires c = (c.points_carry_what_fits.ensures c.args.state.now.unit (point.Declare c.args.rule) c.args.thread c.requires.left).legal

pub hand-requires : goal.hand-requires
hand-requires c =
    let s = c.args.state.now in
    let out : IsOut c.put_rule.new.state c.args.k (point.Declare c.args.rule) c.args.thread =
    subst (λ (x : Parts). IsOut x c.args.k (point.Declare c.args.rule) c.args.thread) (sym c.in-Ok.ensures.2) (out_rules s c.args.k (point.Declare c.args.rule) c.args.thread (s.rules ++ c.args.rule ∷ []) c.requires) in
    (point.Declare c.args.rule, out, fits-Nothing (point.Declare c.args.rule) refl)

pub returns-in-Ok : goal.returns-in-Ok
returns-in-Ok c = λ log.
    let s = c.args.state.now in
    declares s c.args.k c.args.thread c.args.rule c.requires c.in-Ok.ensures.0 c.in-Ok.ensures.1 c.hand.new.state c.hand.result
    (subst (λ (x : Parts). GoesBack c.args.k None c.args.thread x c.hand.new.state (stage.Turn c.args.k) c.hand.result) c.in-Ok.ensures.2 c.hand.ensures) log

pub returns-in-Err-TwoRules : goal.returns-in-Err-TwoRules
returns-in-Err-TwoRules c = λ log.
    let s = c.args.state.now in
    let clause = rw c.in-Err-TwoRules.field-0-is at c.in-Err-TwoRules.ensures in
    two_rules s c.args.k c.args.thread c.args.rule c.requires c.in-Err-TwoRules.file c.in-Err-TwoRules.n clause.0 c.put_rule.new.state c.breaks.result
    (breaks_same s c.put_rule.new.state c.args.thread (run.TwoRules c.in-Err-TwoRules.file c.in-Err-TwoRules.n) c.breaks.result clause.1 c.breaks.ensures) log

pub returns-in-Err-TooMany : goal.returns-in-Err-TooMany
returns-in-Err-TooMany c = λ log.
    let s = c.args.state.now in
    let clause = rw c.in-Err-TooMany.field-0-is at c.in-Err-TooMany.ensures in
    many_rules s c.args.k c.args.thread c.args.rule c.requires clause.0 clause.1 c.put_rule.new.state c.breaks-in-Err-TooMany.result
    (breaks_same s c.put_rule.new.state c.args.thread run.TooManyRules c.breaks-in-Err-TooMany.result clause.2 c.breaks-in-Err-TooMany.ensures) log

pub returns : goal.returns
returns c = λ log. halts_here c.args.state.now c.put_rule.new.state c.args.k c.args.thread (point.Declare c.args.rule) log
