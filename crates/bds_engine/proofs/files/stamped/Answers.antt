use Rattle.std.proofs.Common.{◌∙◌, ℕ, List, Option, Result, Ok, length, refl, ap, subst}
use Rattle.bds_value.specs.declared.value.Stamp.{Stamp}
use Rattle.bds_machine.specs.declared.point.Point.TheVariants as point
use Rattle.bds_engine_stages.specs.declared.stage.Stage.{Stage}
use Rattle.bds_engine_stages.specs.declared.stop.Halt.{Halt}
use Rattle.bds_engine_stages.specs.declared.stop.Halt.TheVariants as halt
use Rattle.bds_engine_stages.specs.Held.{FromRow}
use Rattle.bds_engine.specs.Stamping.{AreStamped, StampHalts}
use Rattle.bds_engine.proofs.Comparing.{goal_fails, goal_goes_on, goal_halts}
use Rattle.bds_engine.proofs.Contacting.{err_is}
use Rattle.bds_engine.proofs.GoalsAgree.{files_are, no_cycle_is}
use Rattle.bds_engine.proofs.StampLaws.{same_count}
use Rattle.bds_engine.proofs.files.stamped.Goals as goal

pub returns-in_err-stamps : goal.returns-in_err-stamps
returns-in_err-stamps g c =
    let log = g.H.Host.log in
    let s = c.args.state.now in
    err_is (λ (r : Result Stage Halt). FromRow s c.args.k c.args.thread (point.Goal c.args.targets.now) (log c.args.host.now) (log c.stamps_of.new.host) s r) c.from_residual.result halt.NoMemory c.from_residual.ensures.1
    (goal_halts s c.args.k c.args.thread c.args.targets.now c.requires.out (no_cycle_is s.rules c.args.targets.now c.requires.reached.1) c.args.reached.now (files_are s.rules c.args.targets.now c.args.reached.now c.requires.reached)
    (log c.args.host.now) (log c.stamps_of.new.host) s (subst (λ (xs : List (List ℕ)). StampHalts xs (log c.args.host.now) (log c.stamps_of.new.host)) c.as_slice.ensures c.in_err-stamps.ensures))

pub planned-requires-clause-none : goal.planned-requires-clause-none
planned-requires-clause-none g c = no_cycle_is c.args.state.now.rules c.args.targets.now c.requires.reached.1

pub planned-requires-clause-all : goal.planned-requires-clause-all
planned-requires-clause-all g c =
    let log = g.H.Host.log in
    let s = c.args.state.now in
    let st = subst (λ (o : Option (List Stamp)). AreStamped c.args.reached.now (log c.args.host.now) (log c.stamps_of.new.host) (Ok o)) c.in-Some.is
    (subst (λ (xs : List (List ℕ)). AreStamped xs (log c.args.host.now) (log c.stamps_of.new.host) (Ok c.in_ok-stamps.field-0)) c.as_slice.ensures c.in_ok-stamps.ensures) in
    same_count (log c.args.host.now) (log c.stamps_of.new.host) c.args.reached.now c.in-Some.stamps st ∙ ap length (files_are s.rules c.args.targets.now c.args.reached.now c.requires.reached)

pub returns-in-Some : goal.returns-in-Some
returns-in-Some g c =
    let log = g.H.Host.log in
    let s = c.args.state.now in
    let st = subst (λ (o : Option (List Stamp)). AreStamped c.args.reached.now (log c.args.host.now) (log c.stamps_of.new.host) (Ok o)) c.in-Some.is
    (subst (λ (xs : List (List ℕ)). AreStamped xs (log c.args.host.now) (log c.stamps_of.new.host) (Ok c.in_ok-stamps.field-0)) c.as_slice.ensures c.in_ok-stamps.ensures) in
    goal_goes_on s c.args.k c.args.thread c.args.targets.now c.requires.out (no_cycle_is s.rules c.args.targets.now c.requires.reached.1) c.args.reached.now (files_are s.rules c.args.targets.now c.args.reached.now c.requires.reached)
    (log c.args.host.now) (log c.stamps_of.new.host) c.in-Some.stamps st c.planned.new.state c.planned.result c.planned.ensures

pub returns-in-None : goal.returns-in-None
returns-in-None g c =
    let log = g.H.Host.log in
    let s = c.args.state.now in
    goal_fails s c.args.k c.args.thread c.args.targets.now c.requires.out (no_cycle_is s.rules c.args.targets.now c.requires.reached.1) c.args.reached.now (files_are s.rules c.args.targets.now c.args.reached.now c.requires.reached)
    (log c.args.host.now) (log c.stamps_of.new.host) s refl
    (subst (λ (o : Option (List Stamp)). AreStamped c.args.reached.now (log c.args.host.now) (log c.stamps_of.new.host) (Ok o)) c.in-None.is
    (subst (λ (xs : List (List ℕ)). AreStamped xs (log c.args.host.now) (log c.stamps_of.new.host) (Ok c.in_ok-stamps.field-0)) c.as_slice.ensures c.in_ok-stamps.ensures))
