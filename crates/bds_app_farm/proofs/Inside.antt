-- What stands in the log of the host for an ask of the farm.
use Rattle.std.proofs.Common.{◌≡◌, ◌∙◌, ◌++◌, ℕ, List, [], ◌∷◌, Bool, true, false, refl, sym, ap, subst}
use Rattle.std.proofs.Common.{append_assoc, append-nil}
use Rattle.std.proofs.lemmas.List.{map-append}
use Rattle.std.proofs.lemmas.List.Concat.{flat_map-append}
use Rattle.bds_host.specs.declared.asks.Ask.{Ask}
use Rattle.bds_host.specs.declared.asks.Ask.TheVariants.{Next, Err as Tells}
use Rattle.bds_host.specs.declared.asks.Reply.{Reply}
use Rattle.bds_host.specs.declared.asks.Reply.TheVariants as reply
use Rattle.bds_host.specs.declared.faults.Fault.TheVariants as fault
use Rattle.bds_host.specs.Host.{Log}
use Rattle.bds_host.specs.Message.{message_of}
use Rattle.bds_farm.specs.Farm.{FarmRun, FarmTurn, Queue, Turn}
use Rattle.bds_farm.specs.Farming.{insides_of, pairs_of}
use Rattle.bds_farm.specs.Ends.{EndsAreLearnt, Turns}
use Rattle.bds_farm.proofs.Splits.{Last, split_last}
use Rattle.bds_replay.specs.declared.log.Job.{Job}
use Rattle.bds_engine_parts.specs.Run.{FaultIsTold}
use Rattle.bds_app_run.specs.declared.call.Call.{Call}
use Rattle.bds_app_run.specs.declared.outcome.Outcome.{Outcome}
use Rattle.bds_app_run.specs.declared.outcome.Outcome.TheVariants.{Device}
use Rattle.bds_app_run.specs.Causes.{FileCause, ScriptCause}
use Rattle.bds_app_farm.specs.Farmed.{FarmsJob, IsFarmed}
use Rattle.bds_app_farm.specs.Told.{DeviceIsTold, EndIsTold, EndsAreTold, IsDeterminedAs, JobIsDetermined}
use Rattle.bds_app_farm.proofs.Lists.{Made, made_at, none_there, same_last}

module _ (submit poll : List ℕ) where
  abbrev T : Type 0
  T = Turn submit poll

  abbrev pair_of : T → Ask × Reply
  pair_of t = (t.ask, t.reply)

  abbrev pairs : Turns submit poll → Log
  pairs ts = pairs_of submit poll ts

  abbrev insides : Turns submit poll → Log
  insides ts = insides_of submit poll ts

  insides_split : (ts front back : Turns submit poll) (t : T) → ts ≡ front ++ t ∷ back
      → insides ts ≡ insides front ++ (t.inside ++ insides back)
  insides_split ts front back t e =
      ap (λ l. insides l) e ∙ flat_map-append (λ (u : T). u.inside) front (t ∷ back)

  -- Ends

  told_in : EndsAreLearnt submit poll → (ts : Turns submit poll) (q : Queue) → FarmRun submit poll ts q
      → (before after more earlier : Log) (ready running : List ℕ) (task code : ℕ)
      → after ≡ before ++ (insides ts ++ more) → Made pair_of ts earlier (Next ready running, reply.Ended task code)
      → EndIsTold submit poll ready running task code earlier before after
  told_in law ts q run before after more earlier ready running task code is m =
      let known = subst (λ l. FarmRun submit poll l q) m.is run in
      let ask : m.item.ask ≡ Next ready running = ap (λ (p : Ask × Reply). p.0) m.item_is in
      let ended : m.item.reply ≡ reply.Ended task code = ap (λ (p : Ask × Reply). p.1) m.item_is in
      record {
        turns = m.before;
        turn = m.item;
        later = m.after;
        known = q;
        run = known;
        are = sym m.front_is;
        ask = ask;
        reply = ended;
        learnt = law m.before m.after m.item q task code known ended ready running ask;
        more = more;
        inside = is ∙ ap (λ l. before ++ (insides l ++ more)) m.is;
      }

  -- an end isn't want of memory
  before_it : (ts : Turns submit poll) (ask : Ask) (earlier rest : Log) (a : Ask) (task code : ℕ)
      → Last (pairs ts) (ask, reply.NoRoom) earlier (a, reply.Ended task code) rest
      → (more : Log) × (pairs ts ≡ earlier ++ (a, reply.Ended task code) ∷ more)
  before_it ts ask earlier rest a task code (Last.at_end same here) =
      let no : reply.NoRoom ≡ reply.Ended task code = ap (λ (p : Ask × Reply). p.1) here in
      absurd (cc no)
  before_it ts ask earlier rest a task code (Last.before_end more same) = (more, same)

  pub ends_told : EndsAreLearnt submit poll → (before after : Log) → EndsAreTold submit poll before after
  ends_told law before after log earlier rest ready running task code (IsFarmed.whole ts q run is inside) e =
      told_in law ts q run before after [] earlier ready running task code
      (inside ∙ ap (λ l. before ++ l) (sym (append-nil (insides ts))))
      (made_at pair_of ts earlier rest (Next ready running, reply.Ended task code) (sym is ∙ e))
  ends_told law before after log earlier rest ready running task code
      (IsFarmed.lacked ts q ask more run begun is inside) e =
      let p : Ask × Reply = (Next ready running, reply.Ended task code) in
      let there = before_it ts ask earlier rest (Next ready running) task code
      (split_last (pairs ts) earlier rest (ask, reply.NoRoom) p (sym is ∙ e)) in
      told_in law ts q run before after more earlier ready running task code inside
      (made_at pair_of ts earlier there.0 p there.1)

  -- What is told for errors

  tells_inside : (text : List ℕ) (q q' : Queue) (a : Ask) (r : Reply) (inside : Log)
      → FarmTurn submit poll q a r inside q' → a ≡ Tells text → inside ≡ (a, r) ∷ []
  tells_inside text q _ a r _ (FarmTurn.passes _ _ other) is = refl
  tells_inside text q _ _ _ _ (FarmTurn.submits task attempt cmd out) is = absurd (cc is)
  tells_inside text q _ _ _ _ (FarmTurn.unwritten task attempt cmd) is = absurd (cc is)
  tells_inside text q _ _ _ _ (FarmTurn.unasked task attempt cmd) is = absurd (cc is)
  tells_inside text q _ _ _ _ (FarmTurn.refused task attempt code cmd out failed) is = absurd (cc is)
  tells_inside text q _ _ _ _ (FarmTurn.turns ready running k chosen) is = absurd (cc is)
  tells_inside text q _ _ _ _ (FarmTurn.ended running inside now after task code polls few gives) is = absurd (cc is)
  tells_inside text q _ _ _ _ FarmTurn.nothing_runs is = absurd (cc is)
  tells_inside text q _ _ _ _ (FarmTurn.poll_faults running inside after none few) is = absurd (cc is)
  tells_inside text q _ _ _ _ (FarmTurn.poll_fails running inside after code out none few failed) is = absurd (cc is)
  tells_inside text q _ _ _ _ (FarmTurn.too_often running inside after none many) is = absurd (cc is)

  abbrev EndsSo : List ℕ → Reply → Turns submit poll → Type 0
  EndsSo text r ts = (front : Log) × (insides ts ≡ front ++ (Tells text, r) ∷ [])

  last_told : (ts : Turns submit poll) (q : Queue) → FarmRun submit poll ts q → (front : Log) (text : List ℕ)
      (r : Reply) → pairs ts ≡ front ++ (Tells text, r) ∷ [] → EndsSo text r ts
  last_told _ _ FarmRun.begins front text r e = absurd (none_there front [] (Tells text, r) e)
  last_told _ _ (FarmRun.goes_on ts q after t run turn) front text r e =
      let grown : pairs (ts ++ t ∷ []) ≡ pairs ts ++ pair_of t ∷ [] = map-append pair_of ts (t ∷ []) in
      let same : pair_of t ≡ (Tells text, r) = same_last (pairs ts) front (pair_of t) (Tells text, r) (sym grown ∙ e) in
      let tells : t.ask ≡ Tells text = ap (λ (p : Ask × Reply). p.0) same in
      let one : t.inside ≡ pair_of t ∷ [] = tells_inside text q after t.ask t.reply t.inside turn tells in (
        insides ts,
        insides_split (ts ++ t ∷ []) ts [] t refl
            ∙ ap (λ l. insides ts ++ l) (append-nil t.inside ∙ one ∙ ap (λ (p : Ask × Reply). p ∷ []) same),
      )

  device_inside : (before after log : Log) → IsFarmed submit poll before after log → FaultIsTold [] log
      → DeviceIsTold before after
  device_inside before after log (IsFarmed.whole ts q run is inside) h =
      let one : Log = (h.ask, reply.Fault) ∷ [] in
      let told : Log = (Tells (message_of fault.Device), h.reply) ∷ [] in
      let e : pairs ts ≡ (h.pairs ++ one) ++ told = sym is ∙ h.grown ∙ sym (append_assoc h.pairs one told) in
      let ends = last_told ts q run (h.pairs ++ one) (message_of fault.Device) h.reply e in
      record { pairs = ends.0; reply = h.reply; is = inside ∙ ap (λ l. before ++ l) ends.1; room = h.room }
  device_inside before after log (IsFarmed.lacked ts q ask more run begun is inside) h =
      let one : Log = (h.ask, reply.Fault) ∷ [] in
      let told : Log = (Tells (message_of fault.Device), h.reply) ∷ [] in
      let e : pairs ts ++ (ask, reply.NoRoom) ∷ [] ≡ (h.pairs ++ one) ++ told =
      sym is ∙ h.grown ∙ sym (append_assoc h.pairs one told) in
      let tells : Ask = Tells (message_of fault.Device) in
      let same = same_last (pairs ts) (h.pairs ++ one) (ask, reply.NoRoom) (tells, h.reply) e in
      absurd (h.room (sym (ap (λ (p : Ask × Reply). p.1) same)))

script_device : (c : Call) (before after : Log) (o : Outcome) → o ≡ Device → ScriptCause c before after o
    → FaultIsTold before after
script_device c before after _ is (ScriptCause.ended program at status l m) = absurd (cc is)
script_device c before after _ is (ScriptCause.spent program at l m) = absurd (cc is)
script_device c before after _ is (ScriptCause.refused f log l g) = absurd (cc is)
script_device c before after _ is (ScriptCause.device h) = h
script_device c before after _ is ScriptCause.no_memory = absurd (cc is)

file_device : (cpus ticks : ℕ) (path : List ℕ) (before after : Log) (o : Outcome) → o ≡ Device
    → FileCause cpus ticks path before after o → FaultIsTold before after
file_device cpus ticks path before after _ is (FileCause.ended s log status holds goes) = absurd (cc is)
file_device cpus ticks path before after _ is (FileCause.spent s log holds goes) = absurd (cc is)
file_device cpus ticks path before after _ is (FileCause.bad_file f log none g) = absurd (cc is)
file_device cpus ticks path before after _ is (FileCause.device h) = h
file_device cpus ticks path before after _ is FileCause.no_memory = absurd (cc is)

job_device : (resume : Bool) (j : Job) (before after : Log) (o : Outcome) → o ≡ Device
    → IsDeterminedAs resume j before after o → FaultIsTold before after
job_device true j before after o is d = file_device j.cpus j.ticks j.path before after o is d.cause
job_device false j before after o is d = script_device _ before after o is d.cause

pub device_told : (submit poll : List ℕ) (before after : Log) (j : Job) (o : Outcome)
    (h : FarmsJob j submit poll before after o) → JobIsDetermined j [] h.log o → o ≡ Device → DeviceIsTold before after
device_told submit poll before after j o h d is =
    device_inside submit poll before after h.log h.farmed (job_device j.resume j [] h.log o is d)
