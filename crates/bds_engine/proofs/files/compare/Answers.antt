use Rattle.std.proofs.Common.{◌++◌, ◌∙◌, ℕ, List, Option, Result, Ok, refl, ap, subst}
use Rattle.std.specs.List.{list_any}
use Rattle.bds_value.specs.declared.value.Stamp.{Stamp}
use Rattle.bds_rules.specs.OutOfDate.{out_of_date}
use Rattle.bds_tasks.specs.Tasks.{pending_makes}
use Rattle.bds_machine.specs.declared.point.Point.TheVariants as point
use Rattle.bds_machine.proofs.AnswerFits.{fits-Bool}
use Rattle.bds_state.specs.Parts.{Parts}
use Rattle.bds_engine_stages.specs.declared.stage.Stage.{Stage}
use Rattle.bds_engine_stages.specs.declared.stop.Halt.{Halt}
use Rattle.bds_engine_stages.specs.declared.stop.Halt.TheVariants as halt
use Rattle.bds_engine_stages.specs.Held.{FromRow}
use Rattle.bds_engine.specs.Stamping.{AreStamped, StampHalts}
use Rattle.bds_engine.proofs.Comparing.{compares, left_fails, left_halts, right_fails, right_halts}
use Rattle.bds_engine.proofs.Contacting.{err_is}
use Rattle.bds_engine.proofs.StampLaws.{fails_stamps}
use Rattle.bds_engine.proofs.files.compare.Goals as goal

pub returns-in_err-left : goal.returns-in_err-left
returns-in_err-left g c =
    let log = g.H.Host.log in
    let s = c.args.state.now in
    err_is (λ (r : Result Stage Halt). FromRow s c.args.k c.args.thread (point.Old c.args.outs c.args.ins) (log c.args.host.now) (log c.stamps_of.new.host) s r) c.from_residual.result halt.NoMemory c.from_residual.ensures.1
    (left_halts s c.args.k c.args.thread c.args.outs c.args.ins c.requires (log c.args.host.now) (log c.stamps_of.new.host) s
    (subst (λ (xs : List (List ℕ)). StampHalts xs (log c.args.host.now) (log c.stamps_of.new.host)) c.as_slice.ensures c.in_err-left.ensures))

pub returns-in_default : goal.returns-in_default
returns-in_default g c =
    let log = g.H.Host.log in
    let s = c.args.state.now in
    left_fails s c.args.k c.args.thread c.args.outs c.args.ins c.requires (log c.args.host.now) (log c.stamps_of.new.host) s refl
    (fails_stamps c.args.outs (log c.args.host.now) (log c.stamps_of.new.host) c.in_ok-left.field-0 c.in_default.not-Some
    (subst (λ (xs : List (List ℕ)). AreStamped xs (log c.args.host.now) (log c.stamps_of.new.host) (Ok c.in_ok-left.field-0)) c.as_slice.ensures c.in_ok-left.ensures))

pub returns-in_err-right : goal.returns-in_err-right
returns-in_err-right g c =
    let log = g.H.Host.log in
    let s = c.args.state.now in
    let first = subst (λ (o : Option (List Stamp)). AreStamped c.args.outs (log c.args.host.now) (log c.stamps_of.new.host) (Ok o)) c.in-Some.is
    (subst (λ (xs : List (List ℕ)). AreStamped xs (log c.args.host.now) (log c.stamps_of.new.host) (Ok c.in_ok-left.field-0)) c.as_slice.ensures c.in_ok-left.ensures) in
    err_is (λ (r : Result Stage Halt). FromRow s c.args.k c.args.thread (point.Old c.args.outs c.args.ins) (log c.args.host.now) (log c.stamps_of-2.new.host) s r) c.from_residual-in_err-right.result halt.NoMemory c.from_residual-in_err-right.ensures.1
    (right_halts s c.args.k c.args.thread c.args.outs c.args.ins c.requires (log c.args.host.now) (log c.stamps_of.new.host) (log c.stamps_of-2.new.host) c.in-Some.left first s
    (subst (λ (xs : List (List ℕ)). StampHalts xs (log c.stamps_of.new.host) (log c.stamps_of-2.new.host)) c.as_slice-2.ensures c.in_err-right.ensures))

pub returns-in_default-2 : goal.returns-in_default-2
returns-in_default-2 g c =
    let log = g.H.Host.log in
    let s = c.args.state.now in
    let first = subst (λ (o : Option (List Stamp)). AreStamped c.args.outs (log c.args.host.now) (log c.stamps_of.new.host) (Ok o)) c.in-Some.is
    (subst (λ (xs : List (List ℕ)). AreStamped xs (log c.args.host.now) (log c.stamps_of.new.host) (Ok c.in_ok-left.field-0)) c.as_slice.ensures c.in_ok-left.ensures) in
    right_fails s c.args.k c.args.thread c.args.outs c.args.ins c.requires (log c.args.host.now) (log c.stamps_of.new.host) (log c.stamps_of-2.new.host) c.in-Some.left first s refl
    (fails_stamps c.args.ins (log c.stamps_of.new.host) (log c.stamps_of-2.new.host) c.in_ok-right.field-0 c.in_default-2.not-Some
    (subst (λ (xs : List (List ℕ)). AreStamped xs (log c.stamps_of.new.host) (log c.stamps_of-2.new.host) (Ok c.in_ok-right.field-0)) c.as_slice-2.ensures c.in_ok-right.ensures))

pub hand-requires : goal.hand-requires
hand-requires g c = (point.Old c.args.outs c.args.ins, c.requires, fits-Bool (point.Old c.args.outs c.args.ins) c.is_old-old.result refl)

pub returns : goal.returns
returns g c =
    let log = g.H.Host.log in
    let s = c.args.state.now in
    let first = subst (λ (o : Option (List Stamp)). AreStamped c.args.outs (log c.args.host.now) (log c.stamps_of.new.host) (Ok o)) c.in-Some.is
    (subst (λ (xs : List (List ℕ)). AreStamped xs (log c.args.host.now) (log c.stamps_of.new.host) (Ok c.in_ok-left.field-0)) c.as_slice.ensures c.in_ok-left.ensures) in
    let second = subst (λ (o : Option (List Stamp)). AreStamped c.args.ins (log c.stamps_of.new.host) (log c.stamps_of-2.new.host) (Ok o)) c.in-Some-2.is
    (subst (λ (xs : List (List ℕ)). AreStamped xs (log c.stamps_of.new.host) (log c.stamps_of-2.new.host) (Ok c.in_ok-right.field-0)) c.as_slice-2.ensures c.in_ok-right.ensures) in
    compares s c.args.k c.args.thread c.args.outs c.args.ins c.requires (log c.args.host.now) (log c.stamps_of.new.host) (log c.stamps_of-2.new.host) c.in-Some.left first c.in-Some-2.right second c.is_old-old.result
    (c.is_old-old.ensures ∙ ap (λ (p : Parts). out_of_date c.in-Some.left c.in-Some-2.right (list_any (pending_makes p.tasks) (c.args.outs ++ c.args.ins))) c.state.view_is) c.hand.new.state c.hand.result c.hand.ensures
