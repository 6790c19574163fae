-- A fault of the outside is in the log exactly where the answer tells it.
use Rattle.std.proofs.Common.{◌≡◌, ◌∙◌, ℕ, ◌<◌, List, [], ◌∷◌, ◌++◌, Result, Ok, Err, ap, refl, arith}
use Rattle.bds_host.specs.declared.asks.Ask.{Ask}
use Rattle.bds_host.specs.declared.asks.Ask.TheVariants.{Read}
use Rattle.bds_host.specs.declared.asks.Reply.{Reply}
use Rattle.bds_host.specs.declared.asks.Reply.TheVariants.{Bytes, Missing, Fault, NoRoom}
use Rattle.bds_host.specs.Host.{Log, faults}
use Rattle.bds_host.proofs.Growing.{faults-append}
use Rattle.bds_check.specs.declared.checking.TypedScript.{TypedScript}
use Rattle.bds_meaning.specs.Files.{Files}
use Rattle.bds_front.specs.declared.front_fault.FrontFault.{FrontFault}
use Rattle.bds_front.specs.declared.front_fault.FrontFault.TheVariants as front
use Rattle.bds_front.specs.Loading.{Reads, Stops, Loads}

-- one more pair without a fault
one-more : (log after : Log) (ask : Ask) (reply : Reply) → faults ((ask, reply) ∷ []) ≡ 0 → after ≡ log ++ (ask, reply) ∷ [] → faults after ≡ faults log
one-more log after ask reply none grown = let sum = ap faults grown ∙ faults-append log ((ask, reply) ∷ []) in omega arith

module _ (path : List ℕ) where
  reads-none : (files : Files) (before : Log) (all : Files) (after : Log) → Reads path files before all after → faults after ≡ faults before
  reads-none files before all after Reads.nothing = refl
  reads-none files before all after (Reads.one_more more log _ next text there is short answered) =
      one-more log after (Read next) (Bytes text) refl answered.grown ∙ reads-none files before more log there

  stops-device : (files : Files) (before after : Log) (f : FrontFault) → Stops path files before after f → faults before < faults after → f ≡ front.Device
  stops-device files before after f (Stops.missing all log next there is short answered) rose =
      let same = one-more log after (Read next) Missing refl answered.grown ∙ reads-none files before all log there in absurd (omega arith)
  stops-device files before after f (Stops.device all log next there is short answered) rose = refl
  stops-device files before after f (Stops.long_path all next there is long) rose = let same = reads-none files before all after there in absurd (omega arith)
  stops-device files before after f (Stops.long_text all p text there flaw) rose = let same = reads-none files before _ after there in absurd (omega arith)
  stops-device files before after f (Stops.unlexed all p text g there flaw some) rose = let same = reads-none files before _ after there in absurd (omega arith)
  stops-device files before after f (Stops.unspelled all p text line there flaw) rose = let same = reads-none files before _ after there in absurd (omega arith)
  stops-device files before after f (Stops.no_memory all there) rose = let same = reads-none files before all after there in absurd (omega arith)
  stops-device files before after f (Stops.no_room all log next there is short e) rose =
      let same = one-more log after (Read next) NoRoom refl e ∙ reads-none files before all log there in absurd (omega arith)

  pub loads-device : (before after : Log) (r : Result TypedScript FrontFault) → Loads path before after r → faults before < faults after → r ≡ Err front.Device
  loads-device before after r (Loads.loaded files program t m _ _ _ _) rose = let same = reads-none [] before files after m.read in absurd (omega arith)
  loads-device before after r (Loads.stopped f s) rose = ap Err (stops-device [] before after f s rose)
  loads-device before after r (Loads.broken files program beyond b p m _ _) rose = let same = reads-none [] before files after m.read in absurd (omega arith)
  loads-device before after r (Loads.too_deep files program p beyond m _) rose = let same = reads-none [] before files after m.read in absurd (omega arith)

  stops-faulted : (files : Files) (before after : Log) (f : FrontFault) → Stops path files before after f → f ≡ front.Device → faults before < faults after
  stops-faulted files before after f (Stops.missing all log next there is short answered) e = absurd cc
  stops-faulted files before after f (Stops.device all log next there is short answered) e =
      let same = reads-none files before all log there in
      let sum = ap faults answered.grown ∙ faults-append log ((Read next, Fault) ∷ []) in omega arith
  stops-faulted files before after f (Stops.long_path all next there is long) e = absurd cc
  stops-faulted files before after f (Stops.long_text all p text there flaw) e = absurd cc
  stops-faulted files before after f (Stops.unlexed all p text g there flaw some) e = absurd cc
  stops-faulted files before after f (Stops.unspelled all p text line there flaw) e = absurd cc
  stops-faulted files before after f (Stops.no_memory all there) e = absurd cc
  stops-faulted files before after f (Stops.no_room all log next there is short same) e = absurd cc

  abbrev fault-or : Result TypedScript FrontFault → FrontFault → FrontFault
  fault-or (Ok t) f = f
  fault-or (Err f) g = f

  pub loads-faulted : (before after : Log) (r : Result TypedScript FrontFault) → Loads path before after r → r ≡ Err front.Device → faults before < faults after
  loads-faulted before after r (Loads.loaded files program t m _ _ _ _) e = absurd cc
  loads-faulted before after r (Loads.stopped f s) e = stops-faulted [] before after f s (ap (λ x. fault-or x f) e)
  loads-faulted before after r (Loads.broken files program beyond b p m _ _) e = absurd cc
  loads-faulted before after r (Loads.too_deep files program p beyond m _) e = absurd cc
