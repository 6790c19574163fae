-- The causes of the ends of a run.
use Rattle.std.proofs.Common.{◌≡◌, ◌≢◌, ℕ, ◌+◌, ap, ◌∙◌, arith}
use Rattle.bds_host.specs.Host.{Log, faults}
use Rattle.bds_host.proofs.Growing.{faults-append}
use Rattle.bds_schedule.specs.Moves.{move}
use Rattle.bds_schedule.specs.Stages.{End, DeviceFault}
use Rattle.bds_sim.specs.MachineRun as machine
use Rattle.bds_sim.specs.Row.{row_step}
use Rattle.bds_state.specs.Parts.{Parts}
use Rattle.bds_engine_parts.specs.Image.{image}
use Rattle.bds_engine_parts.specs.Run.{Causes, ComesTo, FaultIsTold}
use Rattle.bds_engine_parts.specs.Seen.{opening}
use Rattle.bds_engine_parts.proofs.OneEnd.{one_end}
use Rattle.bds_engine_parts.proofs.Told.{IsClean, device_told, others_clean}
use Rattle.bds_engine_parts.proofs.WholeRuns.{ends_plainly}

same_faults : (before after : Log) → IsClean before after → faults after ≡ faults before
same_faults before after h =
    ap (λ x. faults x) h.grown ∙ faults-append before h.pairs ∙ ap (λ n. faults before + n) h.clean ∙ (let q : faults before + 0 ≡ faults before = omega arith in q)

module _ (s : Parts) (cpus budget : ℕ) (before after : Log) where
  abbrev Comes : End → Type 0
  Comes e = machine.ComesTo s.unit s.unit.files (image s.unit) (opening s cpus budget) before after e

  plainly : (e : End) → ComesTo s cpus budget before after e → Comes e
  plainly e x = ends_plainly s.unit (opening s cpus budget) before after e x

  one_so : (e e' : End) → Comes e → Comes e' → e ≡ e'
  one_so e e' x y = one_end (λ d. move s.unit.files (image s.unit) (row_step s.unit) d) (opening s cpus budget) before after x.0 y.0 e e' x.1 x.2 y.1 y.2

  told_so : Comes DeviceFault → FaultIsTold before after
  told_so x = device_told s.unit.files (image s.unit) (row_step s.unit) (opening s cpus budget) tt before x.0 after x.1 x.2

  clean_so : (e : End) → Comes e → e ≢ DeviceFault → faults after ≡ faults before
  clean_so e x other = same_faults before after (others_clean s.unit.files (image s.unit) (row_step s.unit) (opening s cpus budget) tt before x.0 after e x.1 x.2 other)

  pub causes : Causes s cpus budget before after
  causes = record { one = λ e e' x y. one_so e e' (plainly e x) (plainly e' y); told = λ x. told_so (plainly DeviceFault x); clean = λ e x other. clean_so e (plainly e x) other }
