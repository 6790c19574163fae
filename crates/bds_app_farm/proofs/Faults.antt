-- A fault of the host is one of the farm.
use Rattle.std.proofs.Common.{◌≡◌, ◌∙◌, ◌++◌, ◌⊎◌, ◌<◌, ◌≤◌, ◌+◌, ℕ, List, [], ◌∷◌, inr, Bool, true, false, refl, ap}
use Rattle.std.proofs.Common.{append-nil, arith}
use Rattle.std.proofs.lemmas.List.{map-append}
use Rattle.std.proofs.lemmas.List.Concat.{flat_map-append}
use Rattle.bds_host.specs.declared.asks.Ask.{Ask}
use Rattle.bds_host.specs.declared.asks.Ask.TheVariants.{Sys}
use Rattle.bds_host.specs.declared.asks.Reply.{Reply}
use Rattle.bds_host.specs.declared.asks.Reply.TheVariants as reply
use Rattle.bds_host.specs.Host.{Log, faults}
use Rattle.bds_host.proofs.Growing.{faults-append}
use Rattle.bds_farm.specs.Farm.{FarmRun, FarmTurn, Polls, Queue, Turn}
use Rattle.bds_farm.specs.Farming.{insides_of, pairs_of}
use Rattle.bds_farm.specs.Ends.{Turns}
use Rattle.bds_replay.specs.declared.log.Job.{Job}
use Rattle.bds_app_run.specs.declared.outcome.Outcome.{Outcome}
use Rattle.bds_app_run.specs.declared.outcome.Outcome.TheVariants.{Device, NoMemory}
use Rattle.bds_app_run.specs.Complete.{TellsFaults}
use Rattle.bds_app_farm.specs.Farmed.{FarmsJob, IsFarmed}
use Rattle.bds_app_farm.specs.Told.{IsDeterminedAs, JobIsDetermined}
use Rattle.bds_app_farm.proofs.Farms.{lacked_answer, room_of}

polls_clean : (poll running : List ℕ) (from now : Queue) (inside : Log) → Polls poll running from inside now
    → faults inside ≡ 0
polls_clean poll running from _ _ Polls.not_yet = refl
polls_clean poll running from _ _ (Polls.once_more inside q after out polls others learns) =
    let before : faults inside ≡ 0 = polls_clean poll running from q inside polls in
    let answer : Log = (Sys poll, reply.SysDone 0 out) ∷ [] in
    let more : faults (inside ++ answer) ≡ faults inside + faults answer = faults-append inside answer in
    let none : faults answer ≡ 0 = refl in
    omega (arith, before, more, none)

none_first : (n m : ℕ) → n ≡ 0 → n ≤ m
none_first n m e = omega (arith, e)

one_each : (n m : ℕ) → n ≡ 1 → m ≡ 1 → n ≤ m
one_each n m e e' = omega (arith, e, e')

same_each : (n : ℕ) → n ≤ n
same_each n = omega arith

module _ (submit poll : List ℕ) where
  abbrev T : Type 0
  T = Turn submit poll

  -- a question that was answered by a fault, or by another code
  last_poll : (inside : Log) (r : Reply) → faults inside ≡ 0 → faults ((Sys poll, r) ∷ []) ≤ 1
      → faults (inside ++ (Sys poll, r) ∷ []) ≤ 1
  last_poll inside r clean one =
      let more : faults (inside ++ (Sys poll, r) ∷ []) ≡ faults inside + faults ((Sys poll, r) ∷ []) =
      faults-append inside ((Sys poll, r) ∷ []) in
      omega (arith, clean, one, more)

  turn_faults : (q q' : Queue) (a : Ask) (r : Reply) (inside : Log) → FarmTurn submit poll q a r inside q'
      → faults inside ≤ faults ((a, r) ∷ [])
  turn_faults q _ a r _ (FarmTurn.passes _ _ other) = same_each _
  turn_faults q _ _ _ _ (FarmTurn.submits task attempt cmd out) = none_first _ _ refl
  turn_faults q _ _ _ _ (FarmTurn.unwritten task attempt cmd) = one_each _ _ refl refl
  turn_faults q _ _ _ _ (FarmTurn.unasked task attempt cmd) = one_each _ _ refl refl
  turn_faults q _ _ _ _ (FarmTurn.refused task attempt code cmd out failed) = none_first _ _ refl
  turn_faults q _ _ _ _ (FarmTurn.turns ready running k chosen) = none_first _ _ refl
  turn_faults q _ _ _ _ (FarmTurn.ended running inside now after task code polls few gives) =
      none_first _ _ (polls_clean poll running q now inside polls)
  turn_faults q _ _ _ _ FarmTurn.nothing_runs = none_first _ _ refl
  turn_faults q _ _ _ _ (FarmTurn.poll_faults running inside after none few) =
      last_poll inside reply.Fault (polls_clean poll running q after inside none.polls) (one_each _ _ refl refl)
  turn_faults q _ _ _ _ (FarmTurn.poll_fails running inside after code out none few failed) =
      let clean = polls_clean poll running q after inside none.polls in
      last_poll inside (reply.SysDone code out) clean (none_first _ _ refl)
  turn_faults q _ _ _ _ (FarmTurn.too_often running inside after none many) =
      none_first _ _ (polls_clean poll running q after inside none.polls)

  run_faults : (ts : Turns submit poll) (q : Queue) → FarmRun submit poll ts q
      → faults (insides_of submit poll ts) ≤ faults (pairs_of submit poll ts)
  run_faults _ _ FarmRun.begins = none_first _ _ refl
  run_faults _ _ (FarmRun.goes_on ts q after t run turn) =
      let own : Log = pairs_of submit poll ts in
      let inner : Log = insides_of submit poll ts in
      let earlier : faults inner ≤ faults own = run_faults ts q run in
      let now : faults t.inside ≤ faults ((t.ask, t.reply) ∷ []) =
      turn_faults q after t.ask t.reply t.inside turn in
      let own_more : faults (pairs_of submit poll (ts ++ t ∷ [])) ≡ faults own + faults ((t.ask, t.reply) ∷ []) =
      ap faults (map-append (λ (u : T). (u.ask, u.reply)) ts (t ∷ []))
      ∙ faults-append own ((t.ask, t.reply) ∷ []) in
      let inner_more : faults (insides_of submit poll (ts ++ t ∷ [])) ≡ faults inner + faults t.inside =
      ap faults (flat_map-append (λ (u : T). u.inside) ts (t ∷ []) ∙ ap (λ l. inner ++ l) (append-nil t.inside))
      ∙ faults-append inner t.inside in
      omega (arith, earlier, now, own_more, inner_more)

  risen : (before after log : Log) (ts : Turns submit poll) (q : Queue) → FarmRun submit poll ts q
      → log ≡ pairs_of submit poll ts → after ≡ before ++ insides_of submit poll ts → faults before < faults after
      → faults [] < faults log
  risen before after log ts q run is inside rose =
      let some : faults (insides_of submit poll ts) ≤ faults (pairs_of submit poll ts) = run_faults ts q run in
      let same : faults log ≡ faults (pairs_of submit poll ts) = ap faults is in
      let grown : faults after ≡ faults before + faults (insides_of submit poll ts) =
      ap faults inside ∙ faults-append before (insides_of submit poll ts) in
      let nothing : faults [] ≡ 0 = refl in
      omega (arith, some, same, grown, nothing, rose)

device_as : (resume : Bool) (j : Job) (before after : Log) (o : Outcome) → IsDeterminedAs resume j before after o
    → TellsFaults before after o
device_as true j before after o d = d.device
device_as false j before after o d = d.device

-- a fault of the host has no other answer than `Device`, but for want of memory
pub faults_told : (j : Job) (submit poll : List ℕ) (before after : Log) (o : Outcome)
    (h : FarmsJob j submit poll before after o) → JobIsDetermined j [] h.log o → TellsFaults before after o
faults_told j submit poll before after o h d rose = by h.farmed
  where
    by : IsFarmed submit poll before after h.log → (o ≡ Device) ⊎ (o ≡ NoMemory)
    by (IsFarmed.whole ts q run is inside) =
        device_as j.resume j [] h.log o d (risen submit poll before after h.log ts q run is inside rose)
    by (IsFarmed.lacked ts q ask more run begun is inside) =
        inr (lacked_answer h.log (pairs_of submit poll ts) [] ask is o (room_of j [] h.log o d))
