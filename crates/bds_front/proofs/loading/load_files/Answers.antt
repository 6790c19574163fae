use Rattle.std.proofs.Common.{ℕ, List, [], Result, subst}
use Rattle.bds_check.specs.declared.checking.TypedScript.{TypedScript}
use Rattle.bds_front.specs.declared.front_fault.FrontFault.{FrontFault}
use Rattle.bds_front.specs.declared.front_fault.FrontFault.TheVariants as front
use Rattle.bds_front.specs.Loading.{Reads, Stops, Loads}
use Rattle.bds_front.proofs.Errors.{by-err}
use Rattle.bds_front.proofs.Whole.{loads, whole-program}
use Rattle.bds_front.proofs.loading.load_files.Goals as goal

pub check_joined-requires : goal.check_joined-requires
check_joined-requires g c = whole-program _ _ _ _ _ c.in_ok-at.ensures

pub returns-in_err-copy_text : goal.returns-in_err-copy_text
returns-in_err-copy_text g c =
    let log = g.H.Host.log in
    by-err (λ (r : Result TypedScript FrontFault). Loads c.args.path.now (log c.args.host.now) (log c.args.host.now) r) c.from_residual.result front.NoMemory c.from_residual.ensures.1 (Loads.stopped front.NoMemory (Stops.no_memory [] Reads.nothing))

pub returns-in_err-at : goal.returns-in_err-at
returns-in_err-at g c =
    let log = g.H.Host.log in
    let P : List ℕ → Type 0 = λ p. Stops p [] (log c.args.host.now) (log c.join_all.new.host) c.in_err-at.field-0.0 in
    by-err (λ (r : Result TypedScript FrontFault). Loads c.args.path.now (log c.args.host.now) (log c.join_all.new.host) r) c.from_residual-in_err-at.result _ c.from_residual-in_err-at.ensures.1
    (Loads.stopped _ (subst P c.in_ok-copy_text.ensures c.in_err-at.ensures))

pub returns : goal.returns
returns g c =
    let log = g.H.Host.log in
    let P : List ℕ → Type 0 = λ p. Loads p (log c.args.host.now) (log c.join_all.new.host) c.check_joined.result in
    subst P c.in_ok-copy_text.ensures (loads _ _ _ _ _ c.in_ok-at.ensures _ c.check_joined.ensures)
