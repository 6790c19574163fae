use Rattle.std.proofs.Common.{◌<◌, ◌+◌, List, [], Option, Ok, length, take, sym, subst, arith}
use Rattle.bds_value.specs.declared.value.Stamp.{Stamp}
use Rattle.bds_engine.specs.Stamping.{Stamped, Tells}
use Rattle.bds_engine.proofs.StampLaws.{stamped_fails, stamped_halts, stamped_more, stamped_stops, stops_stamps}
use Rattle.bds_engine.proofs.stamps.stamps_of.Goals as goal

pub loop-i-init : goal.loop-i-init
loop-i-init g c = subst (λ (xs : List Stamp). Stamped (g.H.Host.log c.args.host.now) [] xs (g.H.Host.log c.args.host.now)) (sym c.new-stamps.ensures) Stamped.none

pub returns-in_err-stamp : goal.returns-in_err-stamp
returns-in_err-stamp g c =
    let log = g.H.Host.log in
    let low : c.loop-i.i < length c.args.files.now = omega arith in
    stops_stamps c.args.files.now (log c.args.host.now) (log c.stamp_of.new.host) c.from_residual.result c.from_residual.ensures.0
    (stamped_halts (log c.args.host.now) c.args.files.now c.loop-i.i c.index-files-i.result low c.index-files-i.is (log c.loop-i.host) (log c.stamp_of.new.host) c.loop-i.stamps c.loop-i.invariant c.in_err-stamp.ensures)

pub returns-in_err-push-in-Some : goal.returns-in_err-push-in-Some
returns-in_err-push-in-Some g c =
    let log = g.H.Host.log in
    let low : c.loop-i.i < length c.args.files.now = omega arith in
    let told = subst (λ (o : Option Stamp). Tells c.index-files-i.result (log c.loop-i.host) (log c.stamp_of.new.host) (Ok o)) c.in-Some.is c.in_ok-stamp.ensures in
    stops_stamps c.args.files.now (log c.args.host.now) (log c.stamp_of.new.host) c.from_residual-in_err-push-in-Some.result c.from_residual-in_err-push-in-Some.ensures.0
    (stamped_stops (log c.args.host.now) c.args.files.now c.loop-i.i c.index-files-i.result low c.index-files-i.is (log c.loop-i.host) (log c.stamp_of.new.host) c.loop-i.stamps c.in-Some.stamp c.loop-i.invariant told)

pub returns-in-None : goal.returns-in-None
returns-in-None g c =
    let log = g.H.Host.log in
    let low : c.loop-i.i < length c.args.files.now = omega arith in
    stamped_fails (log c.args.host.now) c.args.files.now c.loop-i.i c.index-files-i.result low c.index-files-i.is (log c.loop-i.host) (log c.stamp_of.new.host) c.loop-i.stamps c.loop-i.invariant
    (subst (λ (o : Option Stamp). Tells c.index-files-i.result (log c.loop-i.host) (log c.stamp_of.new.host) (Ok o)) c.in-None.is c.in_ok-stamp.ensures)

pub loop-i-preserved : goal.loop-i-preserved
loop-i-preserved g c =
    let log = g.H.Host.log in
    let low : c.loop-i.i < length c.args.files.now = omega arith in
    let told = subst (λ (o : Option Stamp). Tells c.index-files-i.result (log c.loop-i.host) (log c.stamp_of.new.host) (Ok o)) c.in-Some.is c.in_ok-stamp.ensures in
    subst (λ (xs : List Stamp). Stamped (log c.args.host.now) (take (c.loop-i.i + 1) c.args.files.now) xs (log c.stamp_of.new.host)) (sym c.in_ok-push-in-Some.ensures.ok)
    (stamped_more (log c.args.host.now) c.args.files.now c.loop-i.i c.index-files-i.result low c.index-files-i.is (log c.loop-i.host) (log c.stamp_of.new.host) c.loop-i.stamps c.in-Some.stamp c.loop-i.invariant told)
